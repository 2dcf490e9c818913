use Rattle.std.proofs.Common.{map, ◌∙◌}
use Rattle.slice_things.proofs.FormLaws.{at_map, text_next, parts_named}
use Rattle.slice_things.proofs.forms.put_tuples.Goals as goal

pub tuple-requires : goal.tuple-requires
tuple-requires c =
    let i = c.loop-tuple.tuple-index in
    parts_named (map (λ k. k.now) c.args.tuples.now) c.args.values.now.texts c.loop-tuple.values i _ c.requires.order (c.loop-tuple.invariant.0) (c.loop-tuple.invariant.1)
    (at_map (λ k. k.now) c.args.tuples.now i _ c.loop-tuple-test.true)

pub loop-tuple-preserved : goal.loop-tuple-preserved
loop-tuple-preserved c =
    let i = c.loop-tuple.tuple-index in (
      c.tuple.ensures.texts ∙ c.loop-tuple.invariant.0,
      text_next (map (λ k. k.now) c.args.tuples.now) c.loop-tuple.values.tuples c.tuple.new.self.tuples i _ c.requires.order.tuples_once c.loop-tuple.invariant.1
          (at_map (λ k. k.now) c.args.tuples.now i _ c.loop-tuple-test.true) c.in_ok-tuple.ensures.tuples,
    )
