use Rattle.std.proofs.Common.{◌≡◌, ap, sym, ◌∙◌, map, slice_get}
use Rattle.held_rows.proofs.WordLaws.{texts_only}
use Rattle.held_rows.proofs.words.texts_with.Goals as goal

pub returns-clause-keeps : goal.returns-clause-keeps
returns-clause-keeps c = λ i x at.
    let first : c.put_texts.new.values.texts ≡ map (λ k. k.now) c.args.names.items = c.in_ok-put_texts.ensures.texts ∙ ap (map (λ k. k.now)) c.as_slice.ensures.value in
    ap (λ these. slice_get these i) c.in_ok-numbers.ensures.same ∙ c.in_ok-numbers.ensures.keeps i x (ap (λ these. slice_get these i) first ∙ at)

pub returns-clause-numbers : goal.returns-clause-numbers
returns-clause-numbers c = λ tuples.
    texts_only c.add_words.new.values (record { texts = map (λ k. k.now) c.add_words.new.texts.items; tuples = tuples }) (sym c.in_ok-numbers.ensures.same) _ _ c.in_ok-numbers.ensures.numbers
