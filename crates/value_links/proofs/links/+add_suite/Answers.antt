use Rattle.std.proofs.Common.{◌++◌, ◌∷◌, [], refl, ap, sym, ◌∙◌}
use Rattle.std.specs.Option.{option_map}
use Rattle.py_tree.specs.Erasure.{expr_of, form_of, target_of}
use Rattle.py_tree.proofs.StmtTrees.{suite_tree, branches_tree, handlers_tree, do_tree, assign_tree, aug_tree, del_tree, pass_tree, break_tree, continue_tree, return_tree, raise_tree, assert_tree, import_tree, if_tree, while_tree, for_tree, try_tree, with_tree, def_tree, class_tree}
use Rattle.py_tree.proofs.DeletionWalks.{stmt_trees, branch_trees}
use Rattle.value_links.specs.Handlers.{handlers_in}
use Rattle.value_links.specs.Links.{suite_links, branches_links, handlers_links, expr_links, link, point, stored, binding_links, taken_by, value_of}
use Rattle.value_links.proofs.LinkParts.{no_part, two_parts}
use Rattle.value_links.proofs.StmtForms.{by_form, inner_parts, stmt_is}
use Rattle.value_links.proofs.links.+add_suite.Goals as goal

pub add_suite-loop-stmt-init : goal.add_suite-loop-stmt-init
add_suite-loop-stmt-init t c = ap (λ ss. c.args.links.now.items ++ suite_links (stmt_trees ss)) c.deref-stmt-items.ensures.value ∙ ap (λ body. c.args.links.now.items ++ suite_links body) (sym (suite_tree c.args.suite.now))

pub add_branches-loop-test-init : goal.add_branches-loop-test-init
add_branches-loop-test-init t c = ap (λ bs. c.args.links.now.items ++ branches_links (branch_trees bs)) c.deref-test-items.ensures.value ∙ ap (λ bs. c.args.links.now.items ++ branches_links bs) (sym (branches_tree c.args.branches.now))

pub add_handlers-loop-kind-init : goal.add_handlers-loop-kind-init
add_handlers-loop-kind-init t c = record {
  counted = refl;
  put = ap (λ hs. c.args.links.now.items ++ handlers_links c.args.at (handlers_in hs)) c.deref-kind-items.ensures.value ∙ ap (λ hs. c.args.links.now.items ++ handlers_links c.args.at hs) (sym (handlers_tree c.args.handlers.now));
}

pub add_stmt-returns : goal.add_stmt-returns
add_stmt-returns t c = stmt_is _ _ _ _ c.deref.ensures c.in_ok-add_form.ensures

pub add_form-returns-in_ok-add_expr-in-Do : goal.add_form-returns-in_ok-add_expr-in-Do
add_form-returns-in_ok-add_expr-in-Do t c = by_form _ _ _ _ _ (ap form_of c.in-Do.is ∙ do_tree _) c.in_ok-add_expr-in-Do.ensures

pub add_form-returns-in_ok-add_assign-in-Assign : goal.add_form-returns-in_ok-add_assign-in-Assign
add_form-returns-in_ok-add_assign-in-Assign t c = by_form _ _ _ _ _ (ap form_of c.in-Assign.is ∙ assign_tree _ _) c.in_ok-add_assign-in-Assign.ensures

pub add_form-returns-in_ok-add_augment-in-Aug : goal.add_form-returns-in_ok-add_augment-in-Aug
add_form-returns-in_ok-add_augment-in-Aug t c = by_form _ _ _ _ _ (ap form_of c.in-Aug.is ∙ aug_tree _ _ _ _) c.in_ok-add_augment-in-Aug.ensures

pub add_form-returns-in_ok-add_unset-in-Del : goal.add_form-returns-in_ok-add_unset-in-Del
add_form-returns-in_ok-add_unset-in-Del t c = by_form _ _ _ _ _ (ap form_of c.in-Del.is ∙ del_tree _) c.in_ok-add_unset-in-Del.ensures

pub add_form-returns-in-Pass : goal.add_form-returns-in-Pass
add_form-returns-in-Pass t c = by_form _ _ _ _ _ (ap form_of c.in-Pass.is ∙ pass_tree) (no_part _)

pub add_form-returns-in-Break : goal.add_form-returns-in-Break
add_form-returns-in-Break t c = by_form _ _ _ _ _ (ap form_of c.in-Break.is ∙ break_tree) (no_part _)

pub add_form-returns-in-Continue : goal.add_form-returns-in-Continue
add_form-returns-in-Continue t c = by_form _ _ _ _ _ (ap form_of c.in-Continue.is ∙ continue_tree) (no_part _)

pub add_form-returns-in_ok-add_taken-in-Return : goal.add_form-returns-in_ok-add_taken-in-Return
add_form-returns-in_ok-add_taken-in-Return t c = by_form _ _ _ _ _ (ap form_of c.in-Return.is ∙ return_tree _) c.in_ok-add_taken-in-Return.ensures

pub add_form-returns-in_ok-add_taken-in-Raise : goal.add_form-returns-in_ok-add_taken-in-Raise
add_form-returns-in_ok-add_taken-in-Raise t c = by_form _ _ _ _ _ (ap form_of c.in-Raise.is ∙ raise_tree _) c.in_ok-add_taken-in-Raise.ensures

pub add_form-returns-in_ok-add_assert-in-Assert : goal.add_form-returns-in_ok-add_assert-in-Assert
add_form-returns-in_ok-add_assert-in-Assert t c = by_form _ _ _ _ _ (ap form_of c.in-Assert.is ∙ assert_tree _ _) c.in_ok-add_assert-in-Assert.ensures

pub add_form-returns-in-Import : goal.add_form-returns-in-Import
add_form-returns-in-Import t c = by_form _ _ _ _ _ (ap form_of c.in-Import.is ∙ import_tree _) (no_part _)

pub add_form-returns-in_ok-add_else-in-If : goal.add_form-returns-in_ok-add_else-in-If
add_form-returns-in_ok-add_else-in-If t c =
    by_form _ _ _ _ _ (ap form_of c.in-If.is ∙ if_tree _ _) (two_parts _ _ _ _ _ c.in_ok-add_branches-in-If.ensures c.in_ok-add_else-in-If.ensures)

pub add_form-returns-in_ok-add_suite-in-While : goal.add_form-returns-in_ok-add_suite-in-While
add_form-returns-in_ok-add_suite-in-While t c =
    by_form _ _ _ _ _ (ap form_of c.in-While.is ∙ while_tree _ _) (two_parts _ _ _ _ _ c.in_ok-add_test-in-While.ensures c.in_ok-add_suite-in-While.ensures)

pub add_form-returns-in_ok-add_suite-in-For : goal.add_form-returns-in_ok-add_suite-in-For
add_form-returns-in_ok-add_suite-in-For t c =
    by_form _ _ _ _ _ (ap form_of c.in-For.is ∙ for_tree _ _ _) (inner_parts _ (link _ 36 (value_of (expr_of _)) ∷ link _ 37 (value_of (expr_of _)) ∷ link _ 37 (point _ 36) ∷ expr_links (expr_of _)) (stored _ (point _ 37) (target_of _)) _ _ _
    c.in_ok-add_for-in-For.ensures c.in_ok-add_suite-in-For.ensures)

pub add_form-returns-in_ok-add_handlers-in-Try : goal.add_form-returns-in_ok-add_handlers-in-Try
add_form-returns-in_ok-add_handlers-in-Try t c =
    by_form _ _ _ _ _ (ap form_of c.in-Try.is ∙ try_tree _ _) (two_parts _ _ _ _ _ c.in_ok-add_suite-in-Try.ensures c.in_ok-add_handlers-in-Try.ensures)

pub add_form-returns-in_ok-add_suite-in-With : goal.add_form-returns-in_ok-add_suite-in-With
add_form-returns-in_ok-add_suite-in-With t c =
    by_form _ _ _ _ _ (ap form_of c.in-With.is ∙ with_tree _ _ _) (inner_parts _ (link _ 46 (value_of (expr_of _)) ∷ link _ 45 (point _ 46) ∷ expr_links (expr_of _)) (binding_links (point _ 46) _) _ _ _
    c.in_ok-add_with-in-With.ensures c.in_ok-add_suite-in-With.ensures)

pub add_form-returns-in_ok-add_suite-in-Def : goal.add_form-returns-in_ok-add_suite-in-Def
add_form-returns-in_ok-add_suite-in-Def t c = by_form _ _ _ _ _ (ap form_of c.in-Def.is ∙ def_tree _ _ _ _) c.in_ok-add_suite-in-Def.ensures

pub add_form-returns-in_ok-add_suite-in-Class : goal.add_form-returns-in_ok-add_suite-in-Class
add_form-returns-in_ok-add_suite-in-Class t c =
    by_form _ _ _ _ _ (ap form_of c.in-Class.is ∙ class_tree _ _ _) (inner_parts _ (taken_by _ 43 (option_map expr_of _)) (link _ 33 (point _ 43) ∷ []) _ _ _ c.in_ok-add_class-in-Class.ensures c.in_ok-add_suite-in-Class.ensures)
