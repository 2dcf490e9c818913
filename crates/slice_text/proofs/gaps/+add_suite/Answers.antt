use Rattle.std.proofs.Common.{◌++◌, ap, sym, ◌∙◌}
use Rattle.py_tree.specs.StmtSet.{has}
use Rattle.py_tree.proofs.StmtTrees.{suite_tree, branches_tree, handlers_tree}
use Rattle.py_tree.proofs.DeletionWalks.{stmt_trees, branch_trees, handler_trees}
use Rattle.slice_text.specs.Cut.{suite_gaps, branches_gaps, handlers_gaps}
use Rattle.slice_text.proofs.FormGaps.{if_gaps, while_gaps, for_gaps, try_gaps, with_gaps, def_gaps, class_gaps, leaf_gaps}
use Rattle.slice_text.proofs.Walks.{stays_gaps, goes_gaps}
use Rattle.slice_text.proofs.gaps.+add_suite.Goals as goal

pub add_suite-loop-stmt-init : goal.add_suite-loop-stmt-init
add_suite-loop-stmt-init t c = ap (λ ss. c.args.gaps.now ++ suite_gaps (has c.args.keep.now) c.args.filled (stmt_trees ss)) c.deref-stmt-items.ensures.value ∙ ap (λ body. c.args.gaps.now ++ suite_gaps (has c.args.keep.now) c.args.filled body) (sym (suite_tree c.args.suite.now))

pub add_branches-loop-body-init : goal.add_branches-loop-body-init
add_branches-loop-body-init t c = ap (λ bs. c.args.gaps.now ++ branches_gaps (has c.args.keep.now) (branch_trees bs)) c.deref-body-items.ensures.value ∙ ap (λ bs. c.args.gaps.now ++ branches_gaps (has c.args.keep.now) bs) (sym (branches_tree c.args.branches.now))

pub add_handlers-loop-body-init : goal.add_handlers-loop-body-init
add_handlers-loop-body-init t c = ap (λ hs. c.args.gaps.now ++ handlers_gaps (has c.args.keep.now) (handler_trees hs)) c.deref-body-items.ensures.value ∙ ap (λ hs. c.args.gaps.now ++ handlers_gaps (has c.args.keep.now) hs) (sym (handlers_tree c.args.handlers.now))

pub add_stmt-returns-in_ok-add_form : goal.add_stmt-returns-in_ok-add_form
add_stmt-returns-in_ok-add_form t c = stays_gaps (has c.args.keep.now) c.args.filled c.args.stmt.now _ _ _ (sym c.if-is_kept.true ∙ c.is_kept.ensures) c.deref.ensures c.in_ok-add_form.ensures

pub add_stmt-returns-in_ok-push : goal.add_stmt-returns-in_ok-push
add_stmt-returns-in_ok-push t c = goes_gaps (has c.args.keep.now) c.args.filled c.args.stmt.now _ _ (sym c.if-is_kept.false ∙ c.is_kept.ensures) c.in_ok-push.ensures

pub add_form-returns-in_ok-add_else-in-If : goal.add_form-returns-in_ok-add_else-in-If
add_form-returns-in_ok-add_else-in-If t c = if_gaps (has c.args.keep.now) _ _ _ _ _ _ c.in-If.is c.in_ok-add_branches-in-If.ensures c.in_ok-add_else-in-If.ensures

pub add_form-returns-in_ok-add_body-in-While : goal.add_form-returns-in_ok-add_body-in-While
add_form-returns-in_ok-add_body-in-While t c = while_gaps (has c.args.keep.now) _ _ _ _ _ c.in-While.is c.in_ok-add_body-in-While.ensures

pub add_form-returns-in_ok-add_body-in-For : goal.add_form-returns-in_ok-add_body-in-For
add_form-returns-in_ok-add_body-in-For t c = for_gaps (has c.args.keep.now) _ _ _ _ _ _ c.in-For.is c.in_ok-add_body-in-For.ensures

pub add_form-returns-in_ok-add_handlers-in-Try : goal.add_form-returns-in_ok-add_handlers-in-Try
add_form-returns-in_ok-add_handlers-in-Try t c = try_gaps (has c.args.keep.now) _ _ _ _ _ _ c.in-Try.is c.in_ok-add_body-in-Try.ensures c.in_ok-add_handlers-in-Try.ensures

pub add_form-returns-in_ok-add_body-in-With : goal.add_form-returns-in_ok-add_body-in-With
add_form-returns-in_ok-add_body-in-With t c = with_gaps (has c.args.keep.now) _ _ _ _ _ _ c.in-With.is c.in_ok-add_body-in-With.ensures

pub add_form-returns-in_ok-add_body-in-Def : goal.add_form-returns-in_ok-add_body-in-Def
add_form-returns-in_ok-add_body-in-Def t c = def_gaps (has c.args.keep.now) _ _ _ _ _ _ _ c.in-Def.is c.in_ok-add_body-in-Def.ensures

pub add_form-returns-in_ok-add_body-in-Class : goal.add_form-returns-in_ok-add_body-in-Class
add_form-returns-in_ok-add_body-in-Class t c = class_gaps (has c.args.keep.now) _ _ _ _ _ _ c.in-Class.is c.in_ok-add_body-in-Class.ensures

pub add_form-returns-in_default : goal.add_form-returns-in_default
add_form-returns-in_default t c = leaf_gaps (has c.args.keep.now) c.args.form.now _ (record {
  not_if = c.in_default.not-If;
  not_while = c.in_default.not-While;
  not_for = c.in_default.not-For;
  not_try = c.in_default.not-Try;
  not_with = c.in_default.not-With;
  not_def = c.in_default.not-Def;
  not_class = c.in_default.not-Class;
})
