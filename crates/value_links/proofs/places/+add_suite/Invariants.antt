use Rattle.std.proofs.Common.{◌≡◌, ◌++◌, drop}
use Rattle.py_tree.specs.Erasure.{suite_of, branches_of, handlers_of}
use Rattle.py_tree.proofs.DeletionWalks.{stmt_trees, branch_trees, handler_trees}
use Rattle.py_tree.specs.Places.{suite_starts, branches_starts, handlers_starts}
use Rattle.value_links.proofs.places.+add_suite.Given as goal

abbrev pub invariant-add_suite-loop-stmt : goal.invariant-add_suite-loop-stmt
invariant-add_suite-loop-stmt l = l.places.items ++ suite_starts (stmt_trees (drop l.stmt-index l.stmt-items)) ≡ l.fn.places.items ++ suite_starts (suite_of l.suite)

abbrev pub invariant-add_branches-loop-body : goal.invariant-add_branches-loop-body
invariant-add_branches-loop-body l = l.places.items ++ branches_starts (branch_trees (drop l.body-index l.body-items)) ≡ l.fn.places.items ++ branches_starts (branches_of l.branches)

abbrev pub invariant-add_handlers-loop-body : goal.invariant-add_handlers-loop-body
invariant-add_handlers-loop-body l = l.places.items ++ handlers_starts (handler_trees (drop l.body-index l.body-items)) ≡ l.fn.places.items ++ handlers_starts (handlers_of l.handlers)
