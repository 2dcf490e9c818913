use Rattle.std.proofs.Common.{ap, sym, ◌∙◌}
use Rattle.py_tree.specs.Erasure.{stmt_of}
use Rattle.py_tree.proofs.StmtTrees.{suite_tree}
use Rattle.script_names.specs.Scopes.{local_in, local_by}
use Rattle.script_names.proofs.LocalWalks.{locals_left, more_locals, first_here, first_next, other_has_none, def_has}
use Rattle.script_names.proofs.locals.+local_in.Goals as goal

pub local_in-loop-stmt-init : goal.local_in-loop-stmt-init
local_in-loop-stmt-init t c = ap (locals_left c.args.number c.args.name.now) c.deref-stmt-items.ensures.value ∙ ap (local_in c.args.number c.args.name.now) (sym (suite_tree c.args.suite.now))

pub local_at-returns-in_default : goal.local_at-returns-in_default
local_at-returns-in_default t c = λ at. other_has_none c.args.number c.args.name.now c.args.own at c.args.form.now c.in_default.not-Def c.in_default.not-Class

pub local_at-returns-then-own-number : goal.local_at-returns-then-own-number
local_at-returns-then-own-number t c = λ at.
    def_has c.args.number c.args.name.now c.args.own at c.in-Def.field-0 c.in-Def.params c.in-Def.globals c.in-Def.body c.args.form.now c.in-Def.is c.if-own-number.true c.is_local.result (c.is_local.ensures at)

pub local_in-loop-stmt-preserved : goal.local_in-loop-stmt-preserved
local_in-loop-stmt-preserved t c =
    first_next (locals_left c.args.number c.args.name.now) (λ s. local_by c.args.number c.args.name.now (stmt_of s)) (more_locals c.args.number c.args.name.now) _ _ c.stmt-item.result c.loop-stmt-test.true c.stmt-item.is
    (sym c.local_by.ensures ∙ c.in-None.is) ∙ c.loop-stmt.invariant

pub local_in-returns-in-Some : goal.local_in-returns-in-Some
local_in-returns-in-Some t c =
    sym c.in-Some.is ∙ c.local_by.ensures
    ∙ first_here (locals_left c.args.number c.args.name.now) (λ s. local_by c.args.number c.args.name.now (stmt_of s)) (more_locals c.args.number c.args.name.now) _ _ c.stmt-item.result c.loop-stmt-test.true c.stmt-item.is
    c.in-Some.found (sym c.local_by.ensures ∙ c.in-Some.is) ∙ c.loop-stmt.invariant
