use Rattle.std.proofs.Common.{sym, subst}
use Rattle.py_value.specs.declared.access.Location.TheVariants.{Order}
use Rattle.object_store.specs.Object.{with_key, without_key}
use Rattle.object_store.specs.Store.{keys, object_at, Writes}
use Rattle.object_store.proofs.Writing.{order_held, keys_there}
use Rattle.object_store.proofs.store.Store.update.Goals as goal

pub returns-in-Order-Insert-clause-writes : goal.returns-in-Order-Insert-clause-writes
returns-in-Order-Insert-clause-writes c =
    let room = rw (c.in-Order-Insert.is-0, c.in-Order-Insert.is-1) at c.requires.room in
    rw (c.in-Order-Insert.is-0, c.in-Order-Insert.is-1)
    (subst (λ ks. Writes c.args.self.now c.insert_key.new.self (Order c.in-Order-Insert.o) (keys (with_key ks c.in-Order-Insert.key)))
    (sym (keys_there c.args.self.now.objects c.in-Order-Insert.o))
    (order_held c.args.self.now c.insert_key.new.self c.in-Order-Insert.o (object_at c.insert_key.new.self c.in-Order-Insert.o) _ _ room.0 c.insert_key.ensures.same c.insert_key.ensures.keys))

pub returns-in-Order-Delete-clause-writes : goal.returns-in-Order-Delete-clause-writes
returns-in-Order-Delete-clause-writes c =
    let room = rw (c.in-Order-Delete.is-0, c.in-Order-Delete.is-1) at c.requires.room in
    rw (c.in-Order-Delete.is-0, c.in-Order-Delete.is-1)
    (subst (λ ks. Writes c.args.self.now c.delete_key.new.self (Order c.in-Order-Delete.o) (keys (without_key ks c.in-Order-Delete.key)))
    (sym (keys_there c.args.self.now.objects c.in-Order-Delete.o))
    (order_held c.args.self.now c.delete_key.new.self c.in-Order-Delete.o (object_at c.delete_key.new.self c.in-Order-Delete.o) _ _ room c.delete_key.ensures.same c.delete_key.ensures.keys))
