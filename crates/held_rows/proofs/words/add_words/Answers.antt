use Rattle.std.proofs.Common.{ℕ, List, map, take, ◌+◌, sym, subst}
use Rattle.row_checks.proofs.RowSteps.{front_more}
use Rattle.slice_things.proofs.FormLaws.{at_map}
use Rattle.held_rows.proofs.WordLaws.{HasWords, next_word}
use Rattle.held_rows.proofs.words.add_words.Goals as goal

pub loop-word-preserved : goal.loop-word-preserved
loop-word-preserved c =
    let words = map (λ k. k.now) c.args.words.now in
    let i = c.loop-word.word-index in
    subst (λ numbers. HasWords c.args.values.now c.add_word.new.values (map (λ k. k.now) c.add_word.new.texts.items) numbers (take (i + 1) words)) (sym {A = List ℕ} c.in_ok-push.ensures.items)
    (next_word c.args.values.now c.loop-word.values c.add_word.new.values (map (λ k. k.now) c.loop-word.texts.items) (map (λ k. k.now) c.add_word.new.texts.items) c.loop-word.numbers.items (take i words) (take (i + 1) words)
    c.in_ok-add_word.field-0 _ c.loop-word.invariant c.in_ok-add_word.ensures.same c.in_ok-add_word.ensures.name c.in_ok-add_word.ensures.keeps c.in_ok-add_word.ensures.once
    (front_more words i _ (at_map (λ k. k.now) c.args.words.now i _ c.loop-word-test.true)))
