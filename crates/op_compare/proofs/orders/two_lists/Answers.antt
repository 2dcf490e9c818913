use Rattle.std.proofs.Common.{refl, subst}
use Rattle.py_model.specs.Faults.{wrong_kind}
use Rattle.py_model.specs.Operands.{when_lists}
use Rattle.py_model.specs.Plan.{Plan, kind_of}
use Rattle.op_work.proofs.Going.{comes_then, comes_same, at_once, fault_comes}
use Rattle.op_compare.proofs.OrderPlans.{by_lists, lists_plan}
use Rattle.op_compare.proofs.Shapes.{ShapeComes}
use Rattle.op_compare.proofs.orders.two_lists.Goals as goal

pub returns-in-Lists : goal.returns-in-Lists
returns-in-Lists c = comes_same (λ table (go : Unit {0} → Plan). kind_of c.args.o (λ left. kind_of c.args.p (when_lists (go tt) left))) (λ table interned extends go. lists_plan c.args.o c.args.p (go tt))
    (comes_then (λ table shape go. by_lists shape (go tt)) (subst (ShapeComes c.args.o c.args.p c.args.work.now) c.in-Lists.is c.shape_at.ensures) (λ table interned extends go. refl)
    (at_once (λ table (go : Unit {0} → Plan). go tt) c.args.work.now tt tt (λ table interned extends go. refl)))

pub returns-in-Dicts : goal.returns-in-Dicts
returns-in-Dicts c = comes_same (λ table (go : Unit {0} → Plan). kind_of c.args.o (λ left. kind_of c.args.p (when_lists (go tt) left))) (λ table interned extends go. lists_plan c.args.o c.args.p (go tt))
    (comes_then (λ table shape go. by_lists shape (go tt)) (subst (ShapeComes c.args.o c.args.p c.args.work.now) c.in-Dicts.is c.shape_at.ensures) (λ table interned extends go. refl)
    (fault_comes (λ table go. wrong_kind) 9 _ c.fault.result c.fault.ensures (λ table interned extends go. refl)))

pub returns-in-Others : goal.returns-in-Others
returns-in-Others c = comes_same (λ table (go : Unit {0} → Plan). kind_of c.args.o (λ left. kind_of c.args.p (when_lists (go tt) left))) (λ table interned extends go. lists_plan c.args.o c.args.p (go tt))
    (comes_then (λ table shape go. by_lists shape (go tt)) (subst (ShapeComes c.args.o c.args.p c.args.work.now) c.in-Others.is c.shape_at.ensures) (λ table interned extends go. refl)
    (fault_comes (λ table go. wrong_kind) 9 _ c.fault-in-Others.result c.fault-in-Others.ensures (λ table interned extends go. refl)))
