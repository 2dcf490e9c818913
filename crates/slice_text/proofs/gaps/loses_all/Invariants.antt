use Rattle.std.proofs.Common.{◌≡◌, drop}
use Rattle.py_tree.specs.Erasure.{suite_of}
use Rattle.py_tree.specs.StmtSet.{has}
use Rattle.py_tree.proofs.DeletionWalks.{stmt_trees}
use Rattle.slice_text.specs.Cut.{loses_all}
use Rattle.slice_text.proofs.gaps.loses_all.Given as goal

abbrev pub invariant-loop-stmt : goal.invariant-loop-stmt
invariant-loop-stmt l = loses_all (has l.keep) (stmt_trees (drop l.stmt-index l.stmt-items)) ≡ loses_all (has l.keep) (suite_of l.suite)
