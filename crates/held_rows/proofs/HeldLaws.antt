-- The store that is held is read as the store of the rows.
use Rattle.std.proofs.Common.{◌≡◌, ℕ, List, [], Option, Some, None, refl, sym, ap, ◌∙◌}
use Rattle.py_value.specs.declared.access.Location.TheVariants.{Len, Item, Entry, Offset, Closed}
use Rattle.py_value.specs.declared.value.Value.{Value}
use Rattle.py_value.specs.Contents.{contents}
use Rattle.py_value.specs.KeyOf.{normal}
use Rattle.py_value.specs.Seen.{SeenContent, len_at, item_at, entry_at, offset_at, closed_at, var_is, len_is, item_is, entry_is, order_is, file_is, offset_is, closed_is, method_is, base_is, location_at}
use Rattle.py_value.specs.Values.{ValuesView, IsNamed}
use Rattle.py_value.proofs.SeenLocations.{location_back}
use Rattle.py_model.specs.Store.{RunStore, len_of, item_of, entry_of, order_of, offset_of, closed_of}
use Rattle.slice_things.specs.declared.forms.Forms.{Forms}
use Rattle.slice_things.specs.Forms.{form_in, AreForms}
use Rattle.graph_texts.specs.Reads.{under_key}
use Rattle.held_rows.specs.declared.pass.RowStore.{RowStore}
use Rattle.held_rows.specs.Kept.{kept_at, kept_seen, what_stands}
use Rattle.held_rows.specs.HeldStore.{HeldView, keys_in, content_at, store_of, view_of, IsHeld, IsNamedStore, AreReadAlike, holding, entry_held, value_held}
use Rattle.held_rows.specs.Leaves.{HoldsRows}
use Rattle.held_rows.specs.Settled.{AreKeys}
use Rattle.held_rows.specs.Steps.{steps_in, keys_after}

-- what is read of a content is read of what stands of it
len_stands : (content : Option SeenContent) → len_of (holding (what_stands content)) 0 ≡ len_of (holding content) 0
len_stands None = refl
len_stands (Some (var_is v)) = refl
len_stands (Some (len_is n)) = refl
len_stands (Some (item_is v)) = refl
len_stands (Some (entry_is None)) = refl
len_stands (Some (entry_is (Some entry))) = refl
len_stands (Some (order_is keys)) = refl
len_stands (Some (file_is bytes)) = refl
len_stands (Some (offset_is n)) = refl
len_stands (Some (closed_is b)) = refl
len_stands (Some (method_is at)) = refl
len_stands (Some (base_is base)) = refl

item_stands : (content : Option SeenContent) → item_of (holding (what_stands content)) 0 0 ≡ item_of (holding content) 0 0
item_stands None = refl
item_stands (Some (var_is v)) = refl
item_stands (Some (len_is n)) = refl
item_stands (Some (item_is v)) = refl
item_stands (Some (entry_is None)) = refl
item_stands (Some (entry_is (Some entry))) = refl
item_stands (Some (order_is keys)) = refl
item_stands (Some (file_is bytes)) = refl
item_stands (Some (offset_is n)) = refl
item_stands (Some (closed_is b)) = refl
item_stands (Some (method_is at)) = refl
item_stands (Some (base_is base)) = refl

entry_stands : (content : Option SeenContent) → entry_held (what_stands content) ≡ entry_held content
entry_stands None = refl
entry_stands (Some (var_is v)) = refl
entry_stands (Some (len_is n)) = refl
entry_stands (Some (item_is v)) = refl
entry_stands (Some (entry_is None)) = refl
entry_stands (Some (entry_is (Some entry))) = refl
entry_stands (Some (order_is keys)) = refl
entry_stands (Some (file_is bytes)) = refl
entry_stands (Some (offset_is n)) = refl
entry_stands (Some (closed_is b)) = refl
entry_stands (Some (method_is at)) = refl
entry_stands (Some (base_is base)) = refl

offset_stands : (content : Option SeenContent) → offset_of (holding (what_stands content)) 0 ≡ offset_of (holding content) 0
offset_stands None = refl
offset_stands (Some (var_is v)) = refl
offset_stands (Some (len_is n)) = refl
offset_stands (Some (item_is v)) = refl
offset_stands (Some (entry_is None)) = refl
offset_stands (Some (entry_is (Some entry))) = refl
offset_stands (Some (order_is keys)) = refl
offset_stands (Some (file_is bytes)) = refl
offset_stands (Some (offset_is n)) = refl
offset_stands (Some (closed_is b)) = refl
offset_stands (Some (method_is at)) = refl
offset_stands (Some (base_is base)) = refl

closed_stands : (content : Option SeenContent) → closed_of (holding (what_stands content)) 0 ≡ closed_of (holding content) 0
closed_stands None = refl
closed_stands (Some (var_is v)) = refl
closed_stands (Some (len_is n)) = refl
closed_stands (Some (item_is v)) = refl
closed_stands (Some (entry_is None)) = refl
closed_stands (Some (entry_is (Some entry))) = refl
closed_stands (Some (order_is keys)) = refl
closed_stands (Some (file_is bytes)) = refl
closed_stands (Some (offset_is n)) = refl
closed_stands (Some (closed_is b)) = refl
closed_stands (Some (method_is at)) = refl
closed_stands (Some (base_is base)) = refl

module _ (view : ValuesView) (forms : Forms) (are : AreForms view forms) where
  -- the place under a key is that of its form
  pub entry_place : (o : ℕ) (key : Value) → IsNamed view key → location_at forms.values (entry_at o (normal (contents view key))) ≡ Some (Entry o (record { value = form_in forms.numbers.items key }))
  entry_place o key named =
      let formed = are.each key named in
      ap (λ c. location_at forms.values (entry_at o c)) (sym formed.form_is) ∙ location_back forms.values are.interned (Entry o (record { value = form_in forms.numbers.items key })) formed.named

  pub entry_read : (rows : RowStore) (orders : List (ℕ × List Value)) (o : ℕ) (key : Value) → IsNamed view key
      → value_held (kept_seen view (kept_at rows.words.items rows.places.entries (Entry o (record { value = form_in forms.numbers.items key })))) ≡ under_key (store_of (view_of view forms rows orders)) o (contents view key)
  entry_read rows orders o key named = sym (ap (λ l. value_held (content_at (view_of view forms rows orders) l)) (entry_place o key named))

  module _ (rows : RowStore) (orders : List (ℕ × List Value)) (store : RunStore) (holds : HoldsRows view forms rows store)
      (settled : (o : ℕ) → AreKeys view (keys_in orders o) (keys_after view (steps_in rows.orders.entries o) [])) where
    abbrev h : HeldView
    h = view_of view forms rows orders

    entry_alike : (o : ℕ) (key : Value) → IsNamed view key → entry_of (store_of h) o (contents view key) ≡ entry_of store o (contents view key)
    entry_alike o key named =
        let formed = are.each key named in
        ap (λ l. entry_held (content_at h l)) (entry_place o key named)
        ∙ ap entry_held (holds.places (Entry o (record { value = form_in forms.numbers.items key })) formed.named)
        ∙ entry_stands (store.at (entry_at o (contents forms.values (form_in forms.numbers.items key))))
        ∙ ap (λ c. entry_held (store.at (entry_at o c))) formed.form_is

    order_alike : (o : ℕ) → order_of (store_of h) o ≡ order_of store o
    order_alike o = (settled o).is ∙ holds.orders o

    pub read_alike : AreReadAlike view (store_of h) store
    read_alike = record {
      kinds = holds.kinds;
      lengths = λ o. ap (λ content. len_of (holding content) 0) (holds.places (Len o) tt) ∙ len_stands (store.at (len_at o));
      items = λ o i. ap (λ content. item_of (holding content) 0 0) (holds.places (Item o i) tt) ∙ item_stands (store.at (item_at o i));
      entries = entry_alike;
      orders = order_alike;
      keys = λ o. record { keys = keys_in orders o; are = record { is = refl; named = (settled o).named } };
      offsets = λ o. ap (λ content. offset_of (holding content) 0) (holds.places (Offset o) tt) ∙ offset_stands (store.at (offset_at o));
      closed = λ o. ap (λ content. closed_of (holding content) 0) (holds.places (Closed o) tt) ∙ closed_stands (store.at (closed_at o));
    }

  pub is_held : (rows : RowStore) (orders : List (ℕ × List Value)) → IsNamedStore view rows → ((o : ℕ) → AreKeys view (keys_in orders o) (keys_after view (steps_in rows.orders.entries o) [])) → IsHeld view forms rows orders
  is_held rows orders named settled = record {
    forms_are = are;
    kinds_named = named.kinds_named;
    places_named = named.places_named;
    orders_named = λ o. (settled o).named;
  }

pub named_of : (view : ValuesView) (forms : Forms) (rows : RowStore) (store : RunStore) → HoldsRows view forms rows store → IsNamedStore view rows
named_of view forms rows store holds = record { kinds_named = holds.kinds_named; places_named = holds.places_named; orders_named = holds.orders_named }
