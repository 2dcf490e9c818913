use Rattle.std.proofs.Common.{ap, sym, ◌∙◌}
use Rattle.py_tree.specs.StmtSet.{has}
use Rattle.py_tree.proofs.StmtTrees.{suite_tree}
use Rattle.py_tree.proofs.DeletionWalks.{left_is, stmt_trees}
use Rattle.std.proofs.lemmas.List.{drop_all}
use Rattle.slice_text.specs.Cut.{loses_all}
use Rattle.slice_text.proofs.Walks.{one_stays, one_goes}
use Rattle.slice_text.proofs.gaps.loses_all.Goals as goal

pub loop-stmt-init : goal.loop-stmt-init
loop-stmt-init c = ap (λ ss. loses_all (has c.args.keep.now) (stmt_trees ss)) c.deref-stmt-items.ensures.value ∙ ap (loses_all (has c.args.keep.now)) (sym (suite_tree c.args.suite.now))

pub returns-then-is_kept : goal.returns-then-is_kept
returns-then-is_kept c = one_stays (has c.args.keep.now) _ _ c.stmt-item.result (left_is _ _ _ c.loop-stmt-test.true c.stmt-item.is) (sym c.if-is_kept.true ∙ c.is_kept.ensures) ∙ c.loop-stmt.invariant

pub loop-stmt-preserved : goal.loop-stmt-preserved
loop-stmt-preserved c = one_goes (has c.args.keep.now) _ _ c.stmt-item.result (left_is _ _ _ c.loop-stmt-test.true c.stmt-item.is) (sym c.if-is_kept.false ∙ c.is_kept.ensures) ∙ c.loop-stmt.invariant

pub returns : goal.returns
returns c = sym (ap (λ ss. loses_all (has c.args.keep.now) (stmt_trees ss)) (drop_all _ _ c.loop-stmt-test.false)) ∙ c.loop-stmt.invariant
