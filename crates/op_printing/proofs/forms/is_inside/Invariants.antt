use Rattle.std.proofs.Common.{◌≡◌, drop}
use Rattle.py_model.specs.Printing.{is_inside}
use Rattle.op_printing.proofs.forms.is_inside.Given as goal

abbrev pub invariant-loop-p : goal.invariant-loop-p
invariant-loop-p l = is_inside l.o (drop l.p-index l.inside) ≡ is_inside l.fn.o l.fn.inside
