use Rattle.std.proofs.Common.{◌≡◌, ap, sym, subst, ◌∙◌, map}
use Rattle.std.specs.Option.{option_map}
use Rattle.py_value.specs.declared.access.Location.TheVariants.{Entry}
use Rattle.py_value.specs.Contents.{contents}
use Rattle.py_value.specs.Values.{ValuesView, IsNamed}
use Rattle.graph_texts.specs.Reads.{under_key}
use Rattle.held_rows.specs.HeldStore.{HeldView, store_of, value_held}
use Rattle.held_rows.specs.Kept.{kept_at, kept_seen}
use Rattle.held_rows.proofs.HeldLaws.{entry_read}
use Rattle.held_rows.proofs.reading.HeldReads.entry.Goals as goal

pub returns-clause-entry : goal.returns-clause-entry
returns-clause-entry c =
    let inside = c.self.inside in
    let view : ValuesView = record { texts = map (λ k. k.now) inside.texts.items; tuples = map (λ k. k.now) inside.tuples.items } in
    let named : IsNamed view c.args.key = subst (λ (h : HeldView). IsNamed h.values c.args.key) (sym c.self.view_is) c.requires in
    subst (λ (h : HeldView). option_map (contents h.values) c.value_in.result ≡ under_key (store_of h) c.args.object (contents h.values c.args.key)) c.self.view_is
    (c.value_in.ensures.entry view
    ∙ ap (λ kept. value_held (kept_seen view kept)) c.kept_at.ensures
    ∙ ap (λ words. value_held (kept_seen view (kept_at words inside.rows.places.entries (Entry c.args.object (record { value = c.form_of.result }))))) c.as_slice.ensures.value
    ∙ ap (λ form. value_held (kept_seen view (kept_at inside.rows.words.items inside.rows.places.entries (Entry c.args.object (record { value = form }))))) c.form_of.ensures
    ∙ entry_read view inside.forms c.self.invariant.forms_are inside.rows inside.orders.entries c.args.object c.args.key named)
