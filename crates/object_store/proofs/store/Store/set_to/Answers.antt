use Rattle.std.proofs.Common.{[], length, sym, ap, subst}
use Rattle.py_value.specs.declared.access.Location.TheVariants.{Order}
use Rattle.object_store.specs.Object.{with_keys}
use Rattle.object_store.specs.Room.{Takes}
use Rattle.object_store.specs.Store.{keys, object_at, room_of, Writes}
use Rattle.object_store.proofs.Writing.{cell_held, item_held, order_held}
use Rattle.object_store.proofs.Rooming.{item_takes, keys_take}
use Rattle.object_store.proofs.store.Store.set_to.Goals as goal

pub returns-in-Some-clause-writes : goal.returns-in-Some-clause-writes
returns-in-Some-clause-writes c =
    cell_held c.args.self.now c.set_cell.new.self c.args.l c.in-Some.cell c.set_cell.ensures.cells c.set_cell.ensures.same c.args.c.now c.requires.own (sym c.in-Some.ensures)

pub returns-in-Item-Item-clause-writes : goal.returns-in-Item-Item-clause-writes
returns-in-Item-Item-clause-writes c =
    let room = rw c.in-Item-Item.is-0 at c.requires.room in
    rw (c.in-Item-Item.is-0, c.in-Item-Item.is-1)
    (item_held c.args.self.now c.set_item.new.self c.in-Item-Item.o c.in-Item-Item.i c.in-Item-Item.item room.0 room.1 c.set_item.ensures)

pub returns-in-Item-Item-clause-left : goal.returns-in-Item-Item-clause-left
returns-in-Item-Item-clause-left c =
    rw (c.in-Item-Item.is-0, c.in-Item-Item.is-1)
    (item_takes c.args.self.now c.set_item.new.self c.in-Item-Item.o c.in-Item-Item.i c.in-Item-Item.item c.set_item.ensures)

pub returns-in-Order-Order-clause-writes : goal.returns-in-Order-Order-clause-writes
returns-in-Order-Order-clause-writes c =
    let room = rw (c.in-Order-Order.is-0, c.in-Order-Order.is-1) at c.requires.room in
    rw (c.in-Order-Order.is-0, c.in-Order-Order.is-1)
    (subst (λ ks. Writes c.args.self.now c.set_keys.new.self (Order c.in-Order-Order.o) (keys ks))
    (ap (with_keys []) c.as_slice.ensures)
    (order_held c.args.self.now c.set_keys.new.self c.in-Order-Order.o (object_at c.set_keys.new.self c.in-Order-Order.o) _ _ room.0 c.set_keys.ensures.same c.set_keys.ensures.keys))

pub returns-in-Order-Order-clause-left : goal.returns-in-Order-Order-clause-left
returns-in-Order-Order-clause-left c =
    rw (c.in-Order-Order.is-0, c.in-Order-Order.is-1)
    (subst (λ ks. Takes (room_of c.args.self.now) (room_of c.set_keys.new.self) 0 (length ks) 0) c.as_slice.ensures
    (keys_take c.args.self.now c.set_keys.new.self c.in-Order-Order.o (object_at c.set_keys.new.self c.in-Order-Order.o) _ _ c.set_keys.ensures.same c.set_keys.ensures.keys))
