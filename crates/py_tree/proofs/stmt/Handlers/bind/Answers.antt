use Rattle.std.proofs.Common.{Option, refl, ap, sym, ◌∙◌}
use Rattle.py_tree.specs.declared.expr.Expr.{Expr}
use Rattle.py_tree.specs.declared.stmt.Bound.{Bound}
use Rattle.py_tree.specs.declared.stmt.Suite.{Suite}
use Rattle.py_tree.specs.Binds.{bound_is, handlers_bind}
use Rattle.py_tree.proofs.StmtTrees.{handlers_tree}
use Rattle.py_tree.proofs.BindsHandlers.{handlers_left}
use Rattle.py_tree.proofs.BindsWalks.{any_here, any_next, any_end}
use Rattle.py_tree.proofs.stmt.Handlers.bind.Goals as goal

pub loop-bound-init : goal.loop-bound-init
loop-bound-init c = ap (handlers_left c.args.name.now) c.deref-bound-items.ensures.value ∙ ap (λ hs. handlers_bind hs c.args.name.now) (sym (handlers_tree c.args.self.now))

pub loop-bound-preserved : goal.loop-bound-preserved
loop-bound-preserved c = any_next (handlers_left c.args.name.now) (λ (h : Option Expr × Option Bound × Suite). bound_is h.1 c.args.name.now) (λ x xs. refl) _ _ c.loop-bound-item.result c.loop-bound-test.true c.loop-bound-item.is (sym c.if-bound_is.false ∙ c.bound_is.ensures) ∙ c.loop-bound.invariant

pub returns-then-bound_is : goal.returns-then-bound_is
returns-then-bound_is c = any_here (handlers_left c.args.name.now) (λ (h : Option Expr × Option Bound × Suite). bound_is h.1 c.args.name.now) (λ x xs. refl) _ _ c.loop-bound-item.result c.loop-bound-test.true c.loop-bound-item.is (sym c.if-bound_is.true ∙ c.bound_is.ensures) ∙ c.loop-bound.invariant

pub returns : goal.returns
returns c = any_end (handlers_left c.args.name.now) refl _ _ c.loop-bound-test.false ∙ c.loop-bound.invariant
