use Rattle.std.proofs.Common.{ap, sym, ◌∙◌}
use Rattle.py_tree.proofs.StmtTrees.{suite_tree, branches_tree, handlers_tree}
use Rattle.py_tree.specs.Functions.{suite_binds, branches_bind, handler_suites_bind}
use Rattle.script_names.proofs.LocalWalks.{stmts_left, branches_left, handlers_left, leaf_binds_none}
use Rattle.script_names.proofs.locals.+suite_binds.Goals as goal

pub suite_binds-loop-stmt-init : goal.suite_binds-loop-stmt-init
suite_binds-loop-stmt-init t c = ap (stmts_left c.args.name.now) c.deref-stmt-items.ensures.value ∙ ap (λ ss. suite_binds ss c.args.name.now) (sym (suite_tree c.args.suite.now))

pub branches_bind-loop-body-init : goal.branches_bind-loop-body-init
branches_bind-loop-body-init t c = ap (branches_left c.args.name.now) c.deref-body-items.ensures.value ∙ ap (λ bs. branches_bind bs c.args.name.now) (sym (branches_tree c.args.branches.now))

pub handler_suites_bind-loop-body-init : goal.handler_suites_bind-loop-body-init
handler_suites_bind-loop-body-init t c = ap (handlers_left c.args.name.now) c.deref-body-items.ensures.value ∙ ap (λ hs. handler_suites_bind hs c.args.name.now) (sym (handlers_tree c.args.handlers.now))

pub inner_binds-returns-in_default : goal.inner_binds-returns-in_default
inner_binds-returns-in_default t c = leaf_binds_none c.args.name.now c.args.form.now (record {
  not_if = c.in_default.not-If;
  not_while = c.in_default.not-While;
  not_for = c.in_default.not-For;
  not_try = c.in_default.not-Try;
  not_with = c.in_default.not-With;
})
