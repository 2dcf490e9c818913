use Rattle.std.proofs.Common.{length}
use Rattle.py_tree.specs.Erasure.{script_of, suite_of}
use Rattle.py_tree.specs.Owners.{listed_suite, standing_at}
use Rattle.py_tree.specs.Found.{around_of}
use Rattle.py_tree.proofs.OwnersFinds.{Looks}
use Rattle.py_tree.proofs.stmt.Script.find.Given as goal

abbrev pub invariant-loop-stmt : goal.invariant-loop-stmt
invariant-loop-stmt l = Looks l.s (around_of l.around) (suite_of l.suite) (standing_at (script_of l.self) l.s)

abbrev pub decreases-loop-stmt : goal.decreases-loop-stmt
decreases-loop-stmt l = length (listed_suite (around_of l.around) (suite_of l.suite))
