use Rattle.std.proofs.Common.{◌≡◌, ◌++◌, drop}
use Rattle.py_tree.specs.Erasure.{suite_of, branches_of, handlers_of}
use Rattle.py_tree.proofs.DeletionWalks.{stmt_trees, branch_trees}
use Rattle.value_links.specs.Handlers.{handlers_in}
use Rattle.value_links.specs.Links.{suite_links, branches_links, handlers_links}
use Rattle.value_links.proofs.links.+add_suite.Given as goal

abbrev pub invariant-add_suite-loop-stmt : goal.invariant-add_suite-loop-stmt
invariant-add_suite-loop-stmt l = l.links.items ++ suite_links (stmt_trees (drop l.stmt-index l.stmt-items)) ≡ l.fn.links.items ++ suite_links (suite_of l.suite)

abbrev pub invariant-add_branches-loop-test : goal.invariant-add_branches-loop-test
invariant-add_branches-loop-test l = l.links.items ++ branches_links (branch_trees (drop l.test-index l.test-items)) ≡ l.fn.links.items ++ branches_links (branches_of l.branches)

abbrev pub invariant-add_handlers-loop-kind : goal.invariant-add_handlers-loop-kind
invariant-add_handlers-loop-kind l = record {
  counted : l.next ≡ l.kind-index;
  put : l.links.items ++ handlers_links l.at (handlers_in (drop l.kind-index l.kind-items)) ≡ l.fn.links.items ++ handlers_links l.at (handlers_of l.handlers);
}
