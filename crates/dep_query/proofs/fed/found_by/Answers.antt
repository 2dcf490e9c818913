use Rattle.std.proofs.Common.{map}
use Rattle.py_value.specs.Values.{AreInterned}
use Rattle.row_moments.specs.InOrder.{StandInOrder}
use Rattle.dep_query.proofs.RowsTold.{of_rows, to_rows}
use Rattle.dep_query.proofs.fed.found_by.Goals as goal

pub of-requires : goal.of-requires
of-requires c =
    let rows = c.args.rows.now in
    to_rows StandInOrder (map (λ k. k.now) c.args.names.now) (map (λ k. k.now) c.args.parts.now) rows
    c.requires.texts c.requires.tuples
    (c.rows_in_order_are_interned.ensures.order rows (c.kept_rows_name_in_order.ensures c.args.script.now.count rows c.requires.kept))

pub feeding_sites-requires-clause-interned : goal.feeding_sites-requires-clause-interned
feeding_sites-requires-clause-interned c =
    of_rows AreInterned (map (λ k. k.now) c.args.names.now) (map (λ k. k.now) c.args.parts.now) c.args.rows.now c.requires.texts c.requires.tuples c.in_ok-forms.ensures.interned

pub feeding_sites-requires-clause-named : goal.feeding_sites-requires-clause-named
feeding_sites-requires-clause-named c = c.rows_in_order_are_interned.ensures.named c.args.rows.now (c.kept_rows_name_in_order.ensures c.args.script.now.count c.args.rows.now c.requires.kept)
