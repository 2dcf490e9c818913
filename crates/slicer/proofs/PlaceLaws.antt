-- Whether a location is reached.
use Rattle.std.proofs.Common.{◌≡◌, ◌↔◌, ℕ, ◌||◌, inl, inr, Bool, true, false, List, [], ◌∷◌, length, slice_get, Option, Some, None, refl, sym, ap, subst, ◌∙◌, true≢false}
use Rattle.std.specs.List.{list_any}
use Rattle.std.proofs.lemmas.Bool.{lt-ltb, ltb-true}
use Rattle.std.proofs.lemmas.Option.{same_Some}
use Rattle.py_value.specs.declared.access.Location.{Location}
use Rattle.py_value.specs.declared.access.Location.TheVariants.{Var, Len, Item, Entry, Order, File, Offset, Closed, Method, Base}
use Rattle.py_value.specs.declared.value.Value.{Value}
use Rattle.py_value.specs.declared.value.Value.TheVariants.{None as Nothing, Bool as Truth, Int, Text, Tuple, Range, Fn, Class, Exc, Builtin, Object}
use Rattle.py_value.specs.contracts.value.ValuePartialEq.TheImpl.{ghosts as values}
use Rattle.py_value.specs.Seen.{location_seen, IsNamedLocation}
use Rattle.py_value.specs.Values.{ValuesView, IsNamed}
use Rattle.py_value.proofs.Equality.{value_own}
use Rattle.py_model.specs.Store.{RunStore}
use Rattle.slice_law.specs.Closed.{IsIn}
use Rattle.slice_law.specs.Reached.{IsOwn}
use Rattle.slice_things.specs.declared.forms.Forms.{Forms}
use Rattle.slice_things.specs.declared.things.Things.{Things}
use Rattle.slice_things.specs.Children.{children_of}
use Rattle.slice_things.specs.Forms.{AreForms}
use Rattle.slice_things.specs.Things.{HoldsStore}
use Rattle.slicer.specs.Places.{IsReachedPlace, is_named_value, is_named_place}
use Rattle.slicer.specs.Walk.{AreReached}
use Rattle.slicer.proofs.ReachedLaws.{there, back}
use Rattle.slicer.proofs.WalkLaws.{any_in}

any_there : (v : Value) (keys : List Value) → IsIn keys v → list_any (values.eq v) keys ≡ true
any_there v [] is = absurd is
any_there v (first ∷ keys) (inl is) = ap (λ b. b || list_any (values.eq v) keys) (ap (values.eq v) is ∙ value_own v)
any_there v (first ∷ keys) (inr later) = by (values.eq v first) (any_there v keys later)
  where
    by : (b : Bool) → list_any (values.eq v) keys ≡ true → (b || list_any (values.eq v) keys) ≡ true
    by true more = refl
    by false more = more

module _ (view : ValuesView) where
  value_named : (v : Value) → is_named_value (length view.texts) (length view.tuples) v ≡ true → IsNamed view v
  value_named (Text n) is = ltb-true n (length view.texts) is
  value_named (Tuple n) is = ltb-true n (length view.tuples) is
  value_named Nothing is = tt
  value_named (Truth b) is = tt
  value_named (Int i) is = tt
  value_named (Range start end step) is = tt
  value_named (Fn at) is = tt
  value_named (Class at) is = tt
  value_named (Exc n) is = tt
  value_named (Builtin n) is = tt
  value_named (Object n) is = tt

  named_value : (v : Value) → IsNamed view v → is_named_value (length view.texts) (length view.tuples) v ≡ true
  named_value (Text n) is = lt-ltb n (length view.texts) is
  named_value (Tuple n) is = lt-ltb n (length view.tuples) is
  named_value Nothing is = refl
  named_value (Truth b) is = refl
  named_value (Int i) is = refl
  named_value (Range start end step) is = refl
  named_value (Fn at) is = refl
  named_value (Class at) is = refl
  named_value (Exc n) is = refl
  named_value (Builtin n) is = refl
  named_value (Object n) is = refl

  pub place_named : (l : Location) → is_named_place (length view.texts) (length view.tuples) l ≡ true → IsNamedLocation view l
  place_named (Var scope name) is = ltb-true name (length view.texts) is
  place_named (Entry o key) is = value_named key.value is
  place_named (File path) is = ltb-true path (length view.texts) is
  place_named (Method at name) is = ltb-true name (length view.texts) is
  place_named (Len o) is = tt
  place_named (Item o i) is = tt
  place_named (Order o) is = tt
  place_named (Offset o) is = tt
  place_named (Closed o) is = tt
  place_named (Base at) is = tt

  pub named_place : (l : Location) → IsNamedLocation view l → is_named_place (length view.texts) (length view.tuples) l ≡ true
  named_place (Var scope name) is = lt-ltb name (length view.texts) is
  named_place (Entry o key) is = named_value key.value is
  named_place (File path) is = lt-ltb path (length view.texts) is
  named_place (Method at name) is = lt-ltb name (length view.texts) is
  named_place (Len o) is = refl
  named_place (Item o i) is = refl
  named_place (Order o) is = refl
  named_place (Offset o) is = refl
  named_place (Closed o) is = refl
  named_place (Base at) is = refl

  pub named_by : (l : Location) (texts tuples : ℕ) → texts ≡ length view.texts → tuples ≡ length view.tuples → is_named_place texts tuples l ≡ true → IsNamedLocation view l
  named_by l texts tuples few many is = place_named l (ap (λ n. is_named_place (length view.texts) n l) (sym many) ∙ ap (λ n. is_named_place n tuples l) (sym few) ∙ is)

  -- names that are not there: the location is not reached
  pub not_named : (store : RunStore) (v : Value) (l : Location) (texts tuples : ℕ) → texts ≡ length view.texts → tuples ≡ length view.tuples → is_named_place texts tuples l ≡ false → IsReachedPlace view store v l → ⊥
  not_named store v l texts tuples few many none place =
      true≢false (sym (named_place l place.named) ∙ ap (λ n. is_named_place n (length view.tuples) l) (sym few) ∙ ap (λ n. is_named_place texts n l) (sym many) ∙ none)

  module _ (forms : Forms) (things : Things) (store : RunStore) (v : Value) (are : AreForms view forms) (known : HoldsStore view forms things store) (found : List Value) (reached : AreReached view (children_of things) v found)
      (l : Location) (owner : Option ℕ) (owns : (o : ℕ) → IsNamedLocation view l → (owner ≡ Some o) ↔ IsOwn store o (slice_get store.kinds o) (location_seen view l)) where
    pub owner_reached : (o : ℕ) → owner ≡ Some o → IsNamedLocation view l → (list_any (values.eq (Object o)) found ≡ true) ↔ IsReachedPlace view store v l
    owner_reached o is named = (
      λ here. record {
        named = named;
        o = o;
        reached = back view forms things store v are known o ((reached o).0 (any_in (Object o) found here));
        own = (owns o named).0 is;
      },
      λ place. any_there (Object o) found (subst (λ p. IsIn found (Object p)) (same_Some place.o o (sym ((owns place.o named).1 place.own) ∙ is))
          ((reached place.o).1 (there view forms things store v are known place.o place.reached))),
    )

    pub none_reached : owner ≡ None → IsReachedPlace view store v l → ⊥
    none_reached is place = some place.o ((owns place.o place.named).1 place.own)
      where
        some : (o : ℕ) → owner ≡ Some o → ⊥
        some o here = absurd (cc)
