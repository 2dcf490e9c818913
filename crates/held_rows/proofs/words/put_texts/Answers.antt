use Rattle.std.proofs.Common.{map, ◌∙◌}
use Rattle.slice_things.proofs.FormLaws.{at_map, text_next}
use Rattle.held_rows.proofs.words.put_texts.Goals as goal

pub loop-name-preserved : goal.loop-name-preserved
loop-name-preserved c =
    let i = c.loop-name.name-index in (
      text_next (map (λ k. k.now) c.args.names.now) c.loop-name.values.texts c.text.new.self.texts i _ c.requires.once c.loop-name.invariant.0
          (at_map (λ k. k.now) c.args.names.now i _ c.loop-name-test.true) c.in_ok-text.ensures.texts,
      c.text.ensures.tuples ∙ c.loop-name.invariant.1,
    )
