use Rattle.std.proofs.Common.{◌≡◌, drop}
use Rattle.op_texts.proofs.Places.{behind}
use Rattle.py_model.specs.Texts.{place_of}
use Rattle.op_compare.proofs.in_texts.place_of.Given as goal

abbrev pub invariant-loop-at : goal.invariant-loop-at
invariant-loop-at l = behind l.at (place_of (drop l.at l.bytes) l.sought) ≡ place_of l.fn.bytes l.fn.sought
