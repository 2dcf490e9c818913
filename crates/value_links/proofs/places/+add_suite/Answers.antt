use Rattle.std.proofs.Common.{◌++◌, ap, sym, ◌∙◌}
use Rattle.py_tree.proofs.StmtTrees.{suite_tree, branches_tree, handlers_tree}
use Rattle.py_tree.proofs.DeletionWalks.{stmt_trees, branch_trees, handler_trees}
use Rattle.py_tree.specs.Places.{suite_starts, branches_starts, handlers_starts}
use Rattle.value_links.proofs.FormStarts.{if_of, while_of, for_of, try_of, with_of, def_of, class_of, leaf_of, stmt_of_form}
use Rattle.value_links.proofs.places.+add_suite.Goals as goal

pub add_suite-loop-stmt-init : goal.add_suite-loop-stmt-init
add_suite-loop-stmt-init t c = ap (λ ss. c.args.places.now.items ++ suite_starts (stmt_trees ss)) c.deref-stmt-items.ensures.value ∙ ap (λ body. c.args.places.now.items ++ suite_starts body) (sym (suite_tree c.args.suite.now))

pub add_branches-loop-body-init : goal.add_branches-loop-body-init
add_branches-loop-body-init t c = ap (λ bs. c.args.places.now.items ++ branches_starts (branch_trees bs)) c.deref-body-items.ensures.value ∙ ap (λ bs. c.args.places.now.items ++ branches_starts bs) (sym (branches_tree c.args.branches.now))

pub add_handlers-loop-body-init : goal.add_handlers-loop-body-init
add_handlers-loop-body-init t c = ap (λ hs. c.args.places.now.items ++ handlers_starts (handler_trees hs)) c.deref-body-items.ensures.value ∙ ap (λ hs. c.args.places.now.items ++ handlers_starts hs) (sym (handlers_tree c.args.handlers.now))

pub add_stmt-returns : goal.add_stmt-returns
add_stmt-returns t c = stmt_of_form c.args.stmt.now _ _ _ _ c.deref.ensures c.in_ok-push.ensures.items c.in_ok-add_form.ensures

pub add_form-returns-in_ok-add_else-in-If : goal.add_form-returns-in_ok-add_else-in-If
add_form-returns-in_ok-add_else-in-If t c = if_of _ _ _ _ _ _ c.in-If.is c.in_ok-add_branches-in-If.ensures c.in_ok-add_else-in-If.ensures

pub add_form-returns-in_ok-add_suite-in-While : goal.add_form-returns-in_ok-add_suite-in-While
add_form-returns-in_ok-add_suite-in-While t c = while_of _ _ _ _ _ c.in-While.is c.in_ok-add_suite-in-While.ensures

pub add_form-returns-in_ok-add_suite-in-For : goal.add_form-returns-in_ok-add_suite-in-For
add_form-returns-in_ok-add_suite-in-For t c = for_of _ _ _ _ _ _ c.in-For.is c.in_ok-add_suite-in-For.ensures

pub add_form-returns-in_ok-add_handlers-in-Try : goal.add_form-returns-in_ok-add_handlers-in-Try
add_form-returns-in_ok-add_handlers-in-Try t c = try_of _ _ _ _ _ _ c.in-Try.is c.in_ok-add_suite-in-Try.ensures c.in_ok-add_handlers-in-Try.ensures

pub add_form-returns-in_ok-add_suite-in-With : goal.add_form-returns-in_ok-add_suite-in-With
add_form-returns-in_ok-add_suite-in-With t c = with_of _ _ _ _ _ _ c.in-With.is c.in_ok-add_suite-in-With.ensures

pub add_form-returns-in_ok-add_suite-in-Def : goal.add_form-returns-in_ok-add_suite-in-Def
add_form-returns-in_ok-add_suite-in-Def t c = def_of _ _ _ _ _ _ _ c.in-Def.is c.in_ok-add_suite-in-Def.ensures

pub add_form-returns-in_ok-add_suite-in-Class : goal.add_form-returns-in_ok-add_suite-in-Class
add_form-returns-in_ok-add_suite-in-Class t c = class_of _ _ _ _ _ _ c.in-Class.is c.in_ok-add_suite-in-Class.ensures

pub add_form-returns-in_default : goal.add_form-returns-in_default
add_form-returns-in_default t c = leaf_of c.args.form.now _ (record {
  not_if = c.in_default.not-If;
  not_while = c.in_default.not-While;
  not_for = c.in_default.not-For;
  not_try = c.in_default.not-Try;
  not_with = c.in_default.not-With;
  not_def = c.in_default.not-Def;
  not_class = c.in_default.not-Class;
})
