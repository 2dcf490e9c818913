use Rattle.std.proofs.Common.{◌≡◌, ◌<◌, Some, if◌then◌else◌, ap, subst, sym, ◌∙◌}
use Rattle.std.specs.Map.{lookup}
use Rattle.std.specs.Option.{option_map}
use Rattle.indexmap.specs.IndexMap.{spare}
use Rattle.py_value.specs.declared.access.Location.{Location}
use Rattle.py_value.specs.contracts.access.LocationPartialEq.TheImpl.{ghosts as locations}
use Rattle.object_store.specs.Cell.{content_of}
use Rattle.object_store.specs.Store.{StoreView, content_at}
use Rattle.object_store.proofs.Writing.{own_put, cell_if, where_ok}
use Rattle.object_store.proofs.store.Store.set_cell.Goals as goal

pub invariant_of-self : goal.invariant_of-self
invariant_of-self c =
    let room : 0 < spare c.self.inside.cells = subst (λ (s : StoreView). 0 < s.spare_cells) (sym c.self.view_is) c.requires.room in
    let put : (m : Location) → lookup (locations.eq m) c.insert.new.self.entries ≡ (if locations.eq c.args.l m then Some c.args.cell else lookup (locations.eq m) c.self.inside.cells.entries) =
    (where_ok c.insert.result (c.insert.ensures.succeeds room) c.insert.ensures.updates).0 in (
      c.self.invariant.0,
      own_put c.args.l c.args.cell c.self.inside.cells.entries c.insert.new.self.entries c.requires.own c.self.invariant.1 put,
    )

pub returns-clause-cells : goal.returns-clause-cells
returns-clause-cells c = λ m.
    let room : 0 < spare c.self.inside.cells = subst (λ (s : StoreView). 0 < s.spare_cells) (sym c.self.view_is) c.requires.room in
    let put : lookup (locations.eq m) c.insert.new.self.entries ≡ (if locations.eq c.args.l m then Some c.args.cell else lookup (locations.eq m) c.self.inside.cells.entries) =
    (where_ok c.insert.result (c.insert.ensures.succeeds room) c.insert.ensures.updates).0 m in
    ap (option_map content_of) put
    ∙ cell_if (locations.eq c.args.l m) c.args.cell (lookup (locations.eq m) c.self.inside.cells.entries)
    ∙ ap (λ (s : StoreView). if locations.eq c.args.l m then Some (content_of c.args.cell) else content_at s m) c.self.view_is
