use Rattle.std.proofs.Common.{◌≡◌, ◌++◌, string_bytes, IsUtf8}
use Rattle.std.specs.Str.Iter.{chars_rest}
use Rattle.spelling.specs.Spelling.{quote_of}
use Rattle.py_model.specs.Printing.{spelled_all}
use Rattle.spelling.proofs.literals.push_letters.Given as goal

abbrev pub invariant-loop-c : goal.invariant-loop-c
invariant-loop-c l = IsUtf8 (chars_rest l.c-iterator) ×
    (string_bytes l.out ++ spelled_all (quote_of l.double) (chars_rest l.c-iterator) ≡ string_bytes l.fn.out ++ spelled_all (quote_of l.fn.double) l.fn.text)
