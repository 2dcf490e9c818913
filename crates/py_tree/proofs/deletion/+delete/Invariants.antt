use Rattle.std.proofs.Common.{drop}
use Rattle.py_tree.specs.Erasure.{suite_of, branches_of, handlers_of}
use Rattle.py_tree.specs.StmtSet.{has}
use Rattle.py_tree.proofs.DeletionWalks.{SuiteWalk, BranchesWalk, HandlersWalk}
use Rattle.py_tree.proofs.deletion.+delete.Given as goal

abbrev pub invariant-keep_suite-loop-stmt : goal.invariant-keep_suite-loop-stmt
invariant-keep_suite-loop-stmt l = SuiteWalk (has l.keep) l.fn.next (suite_of l.suite) l.list.items (drop l.stmt-index l.stmt-items) l.next

abbrev pub invariant-keep_branches-loop-test : goal.invariant-keep_branches-loop-test
invariant-keep_branches-loop-test l = BranchesWalk (has l.keep) l.fn.next (branches_of l.branches) l.list.items (drop l.test-index l.test-items) l.next

abbrev pub invariant-keep_handlers-loop-kind : goal.invariant-keep_handlers-loop-kind
invariant-keep_handlers-loop-kind l = HandlersWalk (has l.keep) l.fn.next (handlers_of l.handlers) l.list.items (drop l.kind-index l.kind-items) l.next
