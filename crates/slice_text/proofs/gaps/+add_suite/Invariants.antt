use Rattle.std.proofs.Common.{◌≡◌, ◌++◌, drop}
use Rattle.py_tree.specs.Erasure.{suite_of, branches_of, handlers_of}
use Rattle.py_tree.specs.StmtSet.{has}
use Rattle.py_tree.proofs.DeletionWalks.{stmt_trees, branch_trees, handler_trees}
use Rattle.slice_text.specs.Cut.{suite_gaps, branches_gaps, handlers_gaps}
use Rattle.slice_text.proofs.gaps.+add_suite.Given as goal

abbrev pub invariant-add_suite-loop-stmt : goal.invariant-add_suite-loop-stmt
invariant-add_suite-loop-stmt l = l.gaps ++ suite_gaps (has l.keep) l.filled (stmt_trees (drop l.stmt-index l.stmt-items)) ≡ l.fn.gaps ++ suite_gaps (has l.keep) l.fn.filled (suite_of l.suite)

abbrev pub invariant-add_branches-loop-body : goal.invariant-add_branches-loop-body
invariant-add_branches-loop-body l = l.gaps ++ branches_gaps (has l.keep) (branch_trees (drop l.body-index l.body-items)) ≡ l.fn.gaps ++ branches_gaps (has l.keep) (branches_of l.branches)

abbrev pub invariant-add_handlers-loop-body : goal.invariant-add_handlers-loop-body
invariant-add_handlers-loop-body l = l.gaps ++ handlers_gaps (has l.keep) (handler_trees (drop l.body-index l.body-items)) ≡ l.fn.gaps ++ handlers_gaps (has l.keep) (handlers_of l.handlers)
