use Rattle.std.proofs.Common.{sym}
use Rattle.py_tree.specs.declared.stmt.Form.TheViews.{roll-Suite, roll-Branches, roll-Handlers}
use Rattle.py_tree.proofs.Deletions.{assert_kept, assign_kept, aug_kept, break_kept, class_kept, continue_kept, def_kept, del_kept, do_kept, for_kept, if_kept, import_kept, pass_kept, raise_kept, return_kept, stmt_added, try_kept, while_kept, with_kept}
use Rattle.py_tree.proofs.DeletionWalks.{left_is, rolled_suite, rolled_branches, rolled_handlers, suite_begins, suite_skips, suite_keeps, suite_ends, branches_begins, branches_keeps, branches_ends, handlers_begins, handlers_keeps, handlers_ends, body_passed, body_kept}
use Rattle.py_tree.proofs.Walks.{if_ok_more}
use Rattle.py_tree.proofs.deletion.+delete.Goals as goal

pub keep_form-returns-in_ok-orelse-in-If : goal.keep_form-returns-in_ok-orelse-in-If
keep_form-returns-in_ok-orelse-in-If t c = if_kept _ _ _ _ _ _ _ _ _ c.in-If.is c.in_ok-branches-in-If.ensures c.in_ok-orelse-in-If.ensures

pub keep_form-returns-in_ok-handlers-in-Try : goal.keep_form-returns-in_ok-handlers-in-Try
keep_form-returns-in_ok-handlers-in-Try t c = try_kept _ _ _ _ _ _ _ _ _ c.in-Try.is c.in_ok-body-in-Try.ensures c.in_ok-handlers-in-Try.ensures

pub keep_form-returns-in_ok-body-in-While : goal.keep_form-returns-in_ok-body-in-While
keep_form-returns-in_ok-body-in-While t c = while_kept _ _ _ _ _ _ _ _ c.in-While.is c.in_ok-test-in-While.ensures c.in_ok-body-in-While.ensures

pub keep_form-returns-in_ok-body-in-For : goal.keep_form-returns-in_ok-body-in-For
keep_form-returns-in_ok-body-in-For t c = for_kept _ _ _ _ _ _ _ _ _ _ c.in-For.is c.in_ok-target-in-For.ensures c.in_ok-items-in-For.ensures c.in_ok-body-in-For.ensures

pub keep_form-returns-in_ok-body-in-With : goal.keep_form-returns-in_ok-body-in-With
keep_form-returns-in_ok-body-in-With t c = with_kept _ _ _ _ _ _ _ _ _ _ c.in-With.is c.in_ok-value-in-With.ensures c.in_ok-bound-in-With.ensures c.in_ok-body-in-With.ensures

pub keep_form-returns-in_ok-body-in-Def : goal.keep_form-returns-in_ok-body-in-Def
keep_form-returns-in_ok-body-in-Def t c = def_kept _ _ _ _ _ _ _ _ _ _ _ _ c.in-Def.is c.in_ok-name-in-Def.ensures c.in_ok-params-in-Def.ensures c.in_ok-globals-in-Def.ensures c.in_ok-body-in-Def.ensures

pub keep_form-returns-in_ok-body-in-Class : goal.keep_form-returns-in_ok-body-in-Class
keep_form-returns-in_ok-body-in-Class t c = class_kept _ _ _ _ _ _ _ _ _ _ c.in-Class.is c.in_ok-name-in-Class.ensures c.in_ok-base-in-Class.ensures c.in_ok-body-in-Class.ensures

pub keep_form-returns-in_ok-expr-in-Do : goal.keep_form-returns-in_ok-expr-in-Do
keep_form-returns-in_ok-expr-in-Do t c = do_kept _ _ _ _ _ c.in-Do.is c.in_ok-expr-in-Do.ensures

pub keep_form-returns-in_ok-value-in-Assign : goal.keep_form-returns-in_ok-value-in-Assign
keep_form-returns-in_ok-value-in-Assign t c = assign_kept _ _ _ _ _ _ _ c.in-Assign.is c.in_ok-target-in-Assign.ensures c.in_ok-value-in-Assign.ensures

pub keep_form-returns-in_ok-value-in-Aug : goal.keep_form-returns-in_ok-value-in-Aug
keep_form-returns-in_ok-value-in-Aug t c = aug_kept _ _ _ _ _ _ _ _ _ c.in-Aug.is c.in_ok-target-in-Aug.ensures c.in_ok-value-in-Aug.ensures

pub keep_form-returns-in_ok-target-in-Del : goal.keep_form-returns-in_ok-target-in-Del
keep_form-returns-in_ok-target-in-Del t c = del_kept _ _ _ _ _ c.in-Del.is c.in_ok-target-in-Del.ensures

pub keep_form-returns-in-Pass : goal.keep_form-returns-in-Pass
keep_form-returns-in-Pass t c = pass_kept _ _ _ c.in-Pass.is

pub keep_form-returns-in-Break : goal.keep_form-returns-in-Break
keep_form-returns-in-Break t c = break_kept _ _ _ c.in-Break.is

pub keep_form-returns-in-Continue : goal.keep_form-returns-in-Continue
keep_form-returns-in-Continue t c = continue_kept _ _ _ c.in-Continue.is

pub keep_form-returns-in_ok-value-in-Return : goal.keep_form-returns-in_ok-value-in-Return
keep_form-returns-in_ok-value-in-Return t c = return_kept _ _ _ _ _ c.in-Return.is c.in_ok-value-in-Return.ensures

pub keep_form-returns-in_ok-value-in-Raise : goal.keep_form-returns-in_ok-value-in-Raise
keep_form-returns-in_ok-value-in-Raise t c = raise_kept _ _ _ _ _ c.in-Raise.is c.in_ok-value-in-Raise.ensures

pub keep_form-returns-in_ok-message-in-Assert : goal.keep_form-returns-in_ok-message-in-Assert
keep_form-returns-in_ok-message-in-Assert t c = assert_kept _ _ _ _ _ _ _ c.in-Assert.is c.in_ok-test-in-Assert.ensures c.in_ok-message-in-Assert.ensures

pub keep_form-returns-in_ok-name-in-Import : goal.keep_form-returns-in_ok-name-in-Import
keep_form-returns-in_ok-name-in-Import t c = import_kept _ _ _ _ _ c.in-Import.is c.in_ok-name-in-Import.ensures

pub keep_suite-loop-stmt-init : goal.keep_suite-loop-stmt-init
keep_suite-loop-stmt-init t c = suite_begins _ _ _ _ _ c.new-list.ensures.items c.deref-stmt-items.ensures.value

pub keep_suite-returns : goal.keep_suite-returns
keep_suite-returns t c = suite_ends _ _ (roll-Suite (record { list = c.loop-stmt.list })) _ _ c.loop-stmt.list.items _ _ c.loop-stmt-test.false (rolled_suite c.loop-stmt.list) c.loop-stmt.invariant

pub keep_suite-loop-stmt-preserved : goal.keep_suite-loop-stmt-preserved
keep_suite-loop-stmt-preserved t c = suite_keeps _ _ _ _ _ _ _ _ _ _ _ (left_is _ _ _ c.loop-stmt-test.true c.stmt-item.is) (sym c.if-not-is_kept.ensures) (stmt_added _ _ _ _ _ _ _ _ _ c.in_ok-no.ensures.0 c.in_ok-no.ensures.1 c.deref.ensures c.in_ok-add_stmt.ensures.tree_is c.in_ok-form.ensures) c.in_ok-add_stmt.ensures.new_is c.loop-stmt.invariant

pub keep_suite-loop-stmt-preserved-then-not-is_kept : goal.keep_suite-loop-stmt-preserved-then-not-is_kept
keep_suite-loop-stmt-preserved-then-not-is_kept t c = suite_skips _ _ _ _ _ _ _ _ (left_is _ _ _ c.loop-stmt-test.true c.stmt-item.is) (sym c.if-not-is_kept.ensures) c.loop-stmt.invariant

pub keep_branches-loop-test-init : goal.keep_branches-loop-test-init
keep_branches-loop-test-init t c = branches_begins _ _ _ _ _ c.new-list.ensures.items c.deref-test-items.ensures.value

pub keep_branches-loop-test-preserved : goal.keep_branches-loop-test-preserved
keep_branches-loop-test-preserved t c = branches_keeps _ _ _ _ _ _ _ _ _ _ _ (left_is _ _ _ c.loop-test-test.true c.loop-test-item.is) c.in_ok-test.ensures c.in_ok-body.ensures c.in_ok-push.ensures.items c.loop-test.invariant

pub keep_branches-returns : goal.keep_branches-returns
keep_branches-returns t c = branches_ends _ _ (roll-Branches (record { list = c.loop-test.list })) _ _ c.loop-test.list.items _ _ c.loop-test-test.false (rolled_branches c.loop-test.list) c.loop-test.invariant

pub keep_handlers-loop-kind-init : goal.keep_handlers-loop-kind-init
keep_handlers-loop-kind-init t c = handlers_begins _ _ _ _ _ c.new-list.ensures.items c.deref-kind-items.ensures.value

pub keep_handlers-loop-kind-preserved : goal.keep_handlers-loop-kind-preserved
keep_handlers-loop-kind-preserved t c = handlers_keeps _ _ _ _ _ _ _ _ _ _ _ (left_is _ _ _ c.loop-kind-test.true c.loop-kind-item.is) c.in_ok-kind.ensures c.in_ok-bound.ensures c.in_ok-body.ensures c.in_ok-push.ensures.items c.loop-kind.invariant

pub keep_handlers-returns : goal.keep_handlers-returns
keep_handlers-returns t c = handlers_ends _ _ (roll-Handlers (record { list = c.loop-kind.list })) _ _ c.loop-kind.list.items _ _ c.loop-kind-test.false (rolled_handlers c.loop-kind.list) c.loop-kind.invariant

pub keep_body-returns-then-is_empty : goal.keep_body-returns-then-is_empty
keep_body-returns-then-is_empty t c = if_ok_more _ _ _ (λ all. body_passed _ _ _ _ _ _ _ c.in_ok-kept.ensures c.if-is_empty.ensures) c.pass_alone.ensures

pub keep_body-returns-else-is_empty : goal.keep_body-returns-else-is_empty
keep_body-returns-else-is_empty t c = body_kept _ _ _ _ _ c.if-is_empty.ensures c.in_ok-kept.ensures
