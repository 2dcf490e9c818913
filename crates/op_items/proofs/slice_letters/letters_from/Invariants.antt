use Rattle.std.proofs.Common.{◌≡◌, ◌++◌, IsUtf8, chars, encode_utf8_all, string_bytes}
use Rattle.std.specs.Str.Iter.{chars_rest}
use Rattle.py_model.specs.Places.{part_from}
use Rattle.op_items.proofs.slice_letters.letters_from.Given as goal

abbrev pub invariant-loop-c : goal.invariant-loop-c
invariant-loop-c l = IsUtf8 (chars_rest l.c-iterator)
    × (string_bytes l.made ++ encode_utf8_all (part_from l.before l.left (chars (chars_rest l.c-iterator))) ≡ encode_utf8_all (part_from l.fn.first l.fn.count (chars l.fn.text)))
