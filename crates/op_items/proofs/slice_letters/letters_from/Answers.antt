use Rattle.std.proofs.lemmas.Str.{IsUtf8-past_char, chars_past_char}
use Rattle.std.proofs.StrCases.{chars_of_empty}
use Rattle.op_items.proofs.SlicePlans.{letter_passed, letter_taken, letter_behind, letters_end}
use Rattle.op_items.proofs.slice_letters.letters_from.Goals as goal

pub loop-c-preserved-then-before-gt0 : goal.loop-c-preserved-then-before-gt0
loop-c-preserved-then-before-gt0 c =
    let held = c.loop-c.invariant in
    let parts = c.in-Some.ensures.steps.0 in
    let step = chars_past_char _ _ c.in-Some.c held.0 parts in
    (IsUtf8-past_char _ _ c.in-Some.c held.0 parts, letter_passed _ _ _ _ c.in-Some.c c.loop-c.before c.loop-c.left step held.1 c.if-before-gt0.true)

pub loop-c-preserved-then-left-gt0 : goal.loop-c-preserved-then-left-gt0
loop-c-preserved-then-left-gt0 c =
    let held = c.loop-c.invariant in
    let parts = c.in-Some.ensures.steps.0 in
    let step = chars_past_char _ _ c.in-Some.c held.0 parts in
    (IsUtf8-past_char _ _ c.in-Some.c held.0 parts, letter_taken _ _ _ _ c.in-Some.c c.loop-c.before c.loop-c.left step held.1 _ c.in_ok-push.ensures.bytes c.if-before-gt0.false c.if-left-gt0.true)

pub loop-c-preserved : goal.loop-c-preserved
loop-c-preserved c =
    let held = c.loop-c.invariant in
    let parts = c.in-Some.ensures.steps.0 in
    let step = chars_past_char _ _ c.in-Some.c held.0 parts in
    (IsUtf8-past_char _ _ c.in-Some.c held.0 parts, letter_behind _ _ _ _ c.in-Some.c c.loop-c.before c.loop-c.left step held.1 c.if-left-gt0.false)

pub returns : goal.returns
returns c = letters_end _ _ _ c.loop-c.before c.loop-c.left (chars_of_empty _ c.in-None.ensures.steps.0.0) c.loop-c.invariant.1
