use Rattle.std.proofs.Common.{◌≡◌, drop}
use Rattle.op_classes.specs.Matching.{are_classes}
use Rattle.op_classes.proofs.matching.all_classes.Given as goal

abbrev pub invariant-loop-i : goal.invariant-loop-i
invariant-loop-i l = are_classes l.values ≡ are_classes (drop l.i l.values)
