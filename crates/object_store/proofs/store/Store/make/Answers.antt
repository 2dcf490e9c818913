use Rattle.std.proofs.Common.{◌≡◌, refl, sym, ap, subst, ◌∙◌}
use Rattle.object_store.specs.Object.{ObjectView}
use Rattle.object_store.specs.Store.{StoreView, held_at, IsEmpty}
use Rattle.object_store.specs.contracts.store.Store.{the_view}
use Rattle.object_store.proofs.Making.{held_stays}
use Rattle.object_store.proofs.store.Store.make.Goals as goal

pub returns-clause-held : goal.returns-clause-held
returns-clause-held c = λ l.
    let is : c.set_kind.new.self ≡ record c.self.inside.next_object { kind = c.args.kind } =
    c.set_kind.ensures ∙ ap (λ (ob : ObjectView). record ob { kind = c.args.kind }) c.replace-object.ensures.value in
    let plain : IsEmpty (record c.self.inside.next_object { kind = c.args.kind }) = record { items = c.self.invariant.0.items; keys_none = c.self.invariant.0.keys_none } in
    held_stays (the_view c.self.inside) (the_view (record { objects = c.put.new.self; cells = c.self.inside.cells; files = c.self.inside.files; names = c.self.inside.names; next_object = c.replace-object.new.dest })) c.set_kind.new.self (subst IsEmpty (sym is) plain) c.put.ensures.items refl refl l
    ∙ ap (λ (s : StoreView). held_at s l) c.self.view_is
