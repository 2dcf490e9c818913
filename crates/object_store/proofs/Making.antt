-- A new object, of which nothing is set, changes nothing that stands at a location.
use Rattle.std.proofs.Common.{◌≡◌, ℕ, zero, suc, ◌⊎◌, inl, inr, List, [], ◌∷◌, ◌++◌, slice_get, Some, unwrap_or, refl, ap, sym, ◌∙◌}
use Rattle.std.specs.Prelude.{None}
use Rattle.std.specs.Option.{option_map, option_and_then}
use Rattle.py_value.specs.declared.value.Value.{Value}
use Rattle.py_value.specs.declared.access.Location.{Location}
use Rattle.py_value.specs.declared.access.Location.TheVariants.{Var, Len, Item, Entry, Order, File, Offset, Closed, Method, Base}
use Rattle.py_value.specs.declared.access.Content.TheVariants.{Item as ItemContent}
use Rattle.object_store.specs.Object.{ObjectView, item_of}
use Rattle.object_store.specs.Store.{StoreView, IsEmpty, held_at, item_at, keys_at, whole, keys}

-- an object of the longer list is one of the shorter, or the last
which : (xs : List ObjectView) (object : ObjectView) (o : ℕ) →
    (slice_get (xs ++ object ∷ []) o ≡ slice_get xs o) ⊎ ((slice_get xs o ≡ None) × (slice_get (xs ++ object ∷ []) o ≡ Some object))
which [] object zero = inr (refl, refl)
which [] object (suc o) = inl refl
which (x ∷ xs) object zero = inl refl
which (x ∷ xs) object (suc o) = which xs object o

module _ (old new : StoreView) (object : ObjectView) (empty : IsEmpty object) (objects_are : new.objects ≡ old.objects ++ object ∷ []) where
  items_stay : (o i : ℕ) → item_at new o i ≡ item_at old o i
  items_stay o i = elim (which old.objects object o) [
    | inl same ↦ ap (λ objects. option_and_then (λ (ob : ObjectView). item_of ob i) (slice_get objects o)) objects_are ∙ ap (option_and_then (λ (ob : ObjectView). item_of ob i)) same
    | inr is ↦ ap (λ objects. option_and_then (λ (ob : ObjectView). item_of ob i) (slice_get objects o)) objects_are ∙ ap (option_and_then (λ (ob : ObjectView). item_of ob i)) is.1
        ∙ empty.items i ∙ sym (ap (option_and_then (λ (ob : ObjectView). item_of ob i)) is.0)
  ]

  keys_stay : (o : ℕ) → keys_at new o ≡ keys_at old o
  keys_stay o = elim (which old.objects object o) [
    | inl same ↦ ap (λ objects. unwrap_or (option_map (λ (ob : ObjectView). ob.keys) (slice_get objects o)) []) objects_are ∙ ap (λ found. unwrap_or (option_map (λ (ob : ObjectView). ob.keys) found) []) same
    | inr is ↦ ap (λ objects. unwrap_or (option_map (λ (ob : ObjectView). ob.keys) (slice_get objects o)) []) objects_are ∙ ap (λ found. unwrap_or (option_map (λ (ob : ObjectView). ob.keys) found) []) is.1
        ∙ empty.keys_none ∙ sym (ap (λ found. unwrap_or (option_map (λ (ob : ObjectView). ob.keys) found) []) is.0)
  ]

  pub held_stays : new.cells ≡ old.cells → new.files ≡ old.files → (l : Location) → held_at new l ≡ held_at old l
  held_stays cells files (Item o i) = ap (option_map (λ (item : Value). whole (ItemContent item))) (items_stay o i)
  held_stays cells files (Order o) = ap (λ ks. Some (keys ks)) (keys_stay o)
  held_stays cells files (File path) = cc
  held_stays cells files (Var scope name) = cc
  held_stays cells files (Len o) = cc
  held_stays cells files (Entry o key) = cc
  held_stays cells files (Offset o) = cc
  held_stays cells files (Closed o) = cc
  held_stays cells files (Method class name) = cc
  held_stays cells files (Base class) = cc
