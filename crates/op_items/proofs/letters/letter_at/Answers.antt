use Rattle.std.proofs.Common.{◌∙◌, sym, ap, slice_get}
use Rattle.std.proofs.lemmas.Str.{IsUtf8-past_char, chars_past_char}
use Rattle.std.proofs.StrCases.{chars_of_empty}
use Rattle.op_items.proofs.LetterPlaces.{next_at}
use Rattle.op_items.proofs.letters.letter_at.Goals as goal

pub loop-c-preserved : goal.loop-c-preserved
loop-c-preserved c =
    let held = c.loop-c.invariant in
    let parts = c.in-Some.ensures.steps.0 in
    let step = chars_past_char _ _ c.in-Some.c held.0 parts in
    (IsUtf8-past_char _ _ c.in-Some.c held.0 parts, next_at _ _ c.in-Some.c c.loop-c.left step c.if-left-eq0.false ∙ held.1)

pub returns : goal.returns
returns c = ap (λ xs. slice_get xs c.loop-c.left) (sym (chars_of_empty _ c.in-None.ensures.steps.0.0)) ∙ c.loop-c.invariant.1
