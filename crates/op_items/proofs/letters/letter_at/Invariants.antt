use Rattle.std.proofs.Common.{◌≡◌, IsUtf8, chars, slice_get}
use Rattle.std.specs.Str.Iter.{chars_rest}
use Rattle.op_items.proofs.letters.letter_at.Given as goal

abbrev pub invariant-loop-c : goal.invariant-loop-c
invariant-loop-c l = IsUtf8 (chars_rest l.c-iterator) × (slice_get (chars (chars_rest l.c-iterator)) l.left ≡ slice_get (chars l.fn.text) l.p)
