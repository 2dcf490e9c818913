use Rattle.std.proofs.Common.{◌≡◌, ◌++◌, string_bytes}
use Rattle.py_model.specs.Texts.{spaces}
use Rattle.op_texts.proofs.widths.push_blanks.Given as goal

abbrev pub invariant-loop : goal.invariant-loop
invariant-loop l = string_bytes l.made ≡ string_bytes l.fn.made ++ spaces l.counter
