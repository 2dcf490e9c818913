use Rattle.std.proofs.Common.{refl, ap, subst, map}
use Rattle.object_store.specs.Store.{StoreView, keys, keys_at}
use Rattle.py_model.specs.Plan.{read_order as plan_order}
use Rattle.py_model.specs.Store.{order_of}
use Rattle.py_value.specs.Contents.{contents}
use Rattle.py_value.specs.Values.{AreNamed}
use Rattle.py_value.specs.declared.access.Location.TheVariants.{Order}
use Rattle.op_work.specs.Work.{WorkView, Comes}
use Rattle.op_work.proofs.Going.{read_comes, read_stops, passes_err}
use Rattle.op_work.proofs.work.Work.read_order.Goals as goal

pub returns-in_err-note_read-clause-comes : goal.returns-in_err-note_read-clause-comes
returns-in_err-note_read-clause-comes c = passes_err
    (λ result. Comes (λ values count. AreNamed values (keys_at c.args.self.now.store c.args.o)) (λ table count. map (contents table) (keys_at c.args.self.now.store c.args.o)) (λ table. plan_order c.args.o)
    c.args.self.now c.note_read.new.self result) c.from_residual.result c.from_residual.ensures.1
    (read_stops (λ table. plan_order c.args.o) (Order c.args.o) (λ table store. order_of store c.args.o) (λ table store go answers. refl)
    c.in_err-note_read.ensures.same c.in_err-note_read.field-0.0 c.in_err-note_read.ensures.unpaid)

pub returns-clause-comes : goal.returns-clause-comes
returns-clause-comes c =
    let store_is = ap (λ (w : WorkView). w.store) c.in_ok-note_read.ensures.done in
    read_comes (λ table. plan_order c.args.o) (Order c.args.o) (λ table store. order_of store c.args.o) (λ table store go answers. refl)
    c.in_ok-note_read.ensures.done c.key_count.result
    (subst (λ (store : StoreView). AreNamed c.note_read.new.self.values (keys_at store c.args.o)) store_is
    (c.note_read.ensures.named.held (Order c.args.o) (keys (keys_at c.note_read.new.self.store c.args.o)) refl).1)
    (λ table store extends is_seen. is_seen.orders c.args.o)
