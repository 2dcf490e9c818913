use Rattle.std.proofs.Common.{sym, ◌∙◌}
use Rattle.slice_things.proofs.ThingLaws.{no_words, next_word}
use Rattle.slice_things.proofs.held.put_words.Goals as goal

pub loop-i-init : goal.loop-i-init
loop-i-init c = λ x. sym (no_words x _)

pub loop-i-preserved : goal.loop-i-preserved
loop-i-preserved c = λ x. c.in_ok-put.ensures x ∙ next_word c.loop-i.i x _ _ (c.loop-i.invariant x)
