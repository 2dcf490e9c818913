use Rattle.std.proofs.Common.{map}
use Rattle.py_value.specs.Values.{ValuesView}
use Rattle.held_rows.proofs.HeldLaws.{is_held, read_alike}
use Rattle.held_rows.proofs.held.Held.of.Goals as goal

pub invariant_of-result : goal.invariant_of-result
invariant_of-result c =
    let view : ValuesView = record { texts = map (λ k. k.now) c.args.texts.items; tuples = map (λ k. k.now) c.args.tuples.items } in
    is_held view c.args.forms c.requires.forms c.args.rows c.in_ok-orders.orders.entries c.requires.named (c.in_ok-orders.ensures view c.requires.forms c.requires.named.orders_named)

pub returns-clause-store : goal.returns-clause-store
returns-clause-store c = λ store holds.
    let view : ValuesView = record { texts = map (λ k. k.now) c.args.texts.items; tuples = map (λ k. k.now) c.args.tuples.items } in
    read_alike view c.args.forms c.requires.forms c.args.rows c.in_ok-orders.orders.entries store holds (c.in_ok-orders.ensures view c.requires.forms c.requires.named.orders_named)
