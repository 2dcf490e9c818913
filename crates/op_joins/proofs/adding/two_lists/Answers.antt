use Rattle.std.proofs.Common.{refl, sym, ◌∙◌}
use Rattle.py_model.specs.Operands.{when_lists}
use Rattle.py_model.specs.Plan.{kind_of}
use Rattle.op_work.specs.Work.{seen_kind}
use Rattle.op_work.proofs.Going.{comes_then, comes_as, fault_comes}
use Rattle.op_joins.proofs.AddingPlans.{lists_are, no_lists}
use Rattle.op_joins.proofs.adding.two_lists.Goals as goal

pub returns-then-are_lists : goal.returns-then-are_lists
returns-then-are_lists c = comes_then (λ table left go. kind_of c.args.p (λ right. when_lists (go tt) left right)) c.kind-left.ensures (λ table interned extends go. refl)
    (comes_as (λ table right go. when_lists (go tt) (seen_kind table c.kind-left.result) right) tt c.kind-right.ensures tt
    (λ table interned extends go. lists_are table c.kind-left.result c.kind-right.result (go tt) (sym c.are_lists.ensures ∙ c.if-are_lists.true)))

pub returns : goal.returns
returns c = comes_then (λ table left go. kind_of c.args.p (λ right. when_lists (go tt) left right)) c.kind-left.ensures (λ table interned extends go. refl)
    (comes_then (λ table right go. when_lists (go tt) (seen_kind table c.kind-left.result) right) c.kind-right.ensures (λ table interned extends go. refl)
    (fault_comes (λ table go. when_lists (go tt) (seen_kind table c.kind-left.result) (seen_kind table c.kind-right.result)) 9 _ c.fault.result c.fault.ensures
    (λ table interned extends go. no_lists table c.kind-left.result c.kind-right.result (go tt) (sym c.are_lists.ensures ∙ c.if-are_lists.false))))
