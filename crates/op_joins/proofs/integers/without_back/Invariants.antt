use Rattle.std.proofs.Common.{◌≡◌, length}
use Rattle.py_model.specs.Texts.{without_white_back}
use Rattle.op_joins.proofs.integers.without_back.Given as goal

abbrev pub invariant-loop-rest : goal.invariant-loop-rest
invariant-loop-rest l = without_white_back l.rest ≡ without_white_back l.fn.bytes

abbrev pub decreases-loop-rest : goal.decreases-loop-rest
decreases-loop-rest l = length l.rest
