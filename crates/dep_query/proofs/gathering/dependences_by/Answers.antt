use Rattle.std.proofs.Common.{map, sym}
use Rattle.py_value.specs.Values.{AreInterned}
use Rattle.row_checks.specs.KeptRows.{view_in}
use Rattle.row_moments.specs.InOrder.{StandInOrder}
use Rattle.row_moments.specs.Moments.{moments_in}
use Rattle.dep_query.proofs.RowsTold.{of_rows, to_rows}
use Rattle.dep_query.proofs.gathering.dependences_by.Goals as goal

pub of-requires : goal.of-requires
of-requires c =
    let rows = c.args.rows.now in
    to_rows StandInOrder (map (λ k. k.now) c.args.names.now) (map (λ k. k.now) c.args.parts.now) rows
    c.requires.texts c.requires.tuples
    (c.rows_in_order_are_interned.ensures.order rows (c.kept_rows_name_in_order.ensures c.args.script.now.count rows c.requires.kept))

pub returns : goal.returns
returns c =
    let rows = c.args.rows.now in
    let names = map (λ k. k.now) c.args.names.now in
    let parts = map (λ k. k.now) c.args.parts.now in
    let view = view_in rows in
    let in_order = c.kept_rows_name_in_order.ensures c.args.script.now.count rows c.requires.kept in
    let interned : AreInterned view = of_rows AreInterned names parts rows c.requires.texts c.requires.tuples c.in_ok-forms.ensures.interned in
    c.gathered.ensures view (moments_in rows)
    (c.in_ok-asking.ensures view interned (c.rows_in_order_are_interned.ensures.named rows in_order) (sym c.requires.texts))
