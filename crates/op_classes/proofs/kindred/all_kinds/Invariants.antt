use Rattle.std.proofs.Common.{◌≡◌, drop}
use Rattle.op_classes.specs.ObjectKinds.{are_kinds}
use Rattle.op_classes.proofs.kindred.all_kinds.Given as goal

abbrev pub invariant-loop-i : goal.invariant-loop-i
invariant-loop-i l = are_kinds l.values ≡ are_kinds (drop l.i l.values)
