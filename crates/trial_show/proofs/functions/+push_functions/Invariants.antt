use Rattle.std.proofs.Common.{◌≡◌, ◌++◌, drop}
use Rattle.py_tree.specs.Erasure.{suite_of}
use Rattle.trial_show.specs.Functions.{lines_in}
use Rattle.trial_show.proofs.Suites.{lines_left}
use Rattle.trial_show.proofs.functions.+push_functions.Given as goal

-- what is written, and what is left to write
abbrev pub invariant-push_functions-loop-stmt : goal.invariant-push_functions-loop-stmt
invariant-push_functions-loop-stmt l = l.out.items ++ lines_left l.rows (drop l.stmt-index l.stmt-items) ≡ l.fn.out.items ++ lines_in l.rows (suite_of l.suite)
