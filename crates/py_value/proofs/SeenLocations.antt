-- Of each location that has numbers there is one location without them, and it leads back.
use Rattle.std.proofs.Common.{◌≡◌, ℕ, zero, suc, ◌<◌, ◌≤◌, Bool, true, false, List, [], ◌∷◌, length, slice_get, Option, Some, refl, sym, ap, ◌∙◌, arith, if◌then◌else◌}
use Rattle.std.specs.Option.{option_map, option_and_then}
use Rattle.std.specs.Str.{bytes_eq}
use Rattle.std.specs.Cmp.Lexicographic.{pointwise}
use Rattle.std.proofs.lemmas.Slice.Eq.{bytes_eq-Decides}
use Rattle.py_value.specs.declared.value.Value.{Value}
use Rattle.py_value.specs.declared.value.Value.TheVariants.{None as Nothing, Bool as Truth, Int, Text, Tuple, Range, Fn, Class, Exc, Builtin, Object}
use Rattle.py_value.specs.contracts.value.ValuePartialEq.TheImpl.{ghosts}
use Rattle.py_value.specs.declared.access.Location.{Location}
use Rattle.py_value.specs.declared.access.Location.TheVariants.{Var, Len, Item, Entry, Order, File, Offset, Closed, Method, Base}
use Rattle.py_value.specs.Values.{ValuesView, AreInterned, IsBelow, AreBelow}
use Rattle.py_value.specs.Contents.{parts_by, contents_to}
use Rattle.py_value.specs.Seen.{IsNamedLocation, location_seen, location_at, value_at, values_at, number_by, bytes_of, entry_of}
use Rattle.py_value.proofs.Equality.{values_decide}
use Rattle.py_value.proofs.Interning.{below_more}
use Rattle.py_value.proofs.SameContents.{item_at}

module _ {A : Type 0} (test : A → Bool) (x : A) (own : test x ≡ true) (only : (y : A) → test y ≡ true → y ≡ x) where
  -- the item that stands at one place has that number
  pub number_is : (xs : List A) (i : ℕ) → slice_get xs i ≡ Some x → ((j : ℕ) → slice_get xs j ≡ Some x → j ≡ i) → number_by test xs ≡ Some i
  number_is [] i at once = cc
  number_is (y ∷ ys) zero at once = ap (λ b. if b then Some 0 else option_map suc (number_by test ys)) (ap test (same y at) ∙ own)
    where
      same : (z : A) → Some z ≡ Some x → z ≡ x
      same z is = cc
  number_is (y ∷ ys) (suc i) at once = by (test y) refl (number_is ys i at (λ j found. omega (arith, once (suc j) found)))
    where
      by : (b : Bool) → test y ≡ b → number_by test ys ≡ Some i → (if b then Some 0 else option_map suc (number_by test ys)) ≡ Some (suc i)
      by true is later = absurd (omega (arith, once 0 (ap Some (only y is))))
      by false is later = ap (option_map suc) later

abbrev tuple_with : ValuesView → List Value → Option Value
tuple_with view items = option_map Tuple (number_by (pointwise ghosts.eq items) view.tuples)

module _ (view : ValuesView) (interned : AreInterned view) where
  text_back : (i : ℕ) → i < length view.texts → number_by (bytes_eq (bytes_of view i)) view.texts ≡ Some i
  text_back i within =
      let x = item_at view.texts i within in
      ap (λ bytes. number_by (bytes_eq bytes) view.texts) x.2
      ∙ number_is (bytes_eq x.0) x.0 ((bytes_eq-Decides x.0 x.0).1 refl) (λ y is. sym ((bytes_eq-Decides x.0 y).0 is)) view.texts i x.1 (λ j found. interned.texts_once j i x.0 found x.1)

  values_back : (n : ℕ) → ((v : Value) → IsBelow (length view.texts) n v → value_at view (contents_to n view v) ≡ Some v)
      → (vs : List Value) → AreBelow (length view.texts) n vs → values_at view (parts_by (contents_to n view) vs) ≡ Some vs
  values_back n back [] below = refl
  values_back n back (v ∷ vs) below =
      ap (option_and_then (λ (value : Value). option_map (λ (values : List Value). value ∷ values) (values_at view (parts_by (contents_to n view) vs)))) (back v (below 0 v refl))
      ∙ ap (option_map (λ (values : List Value). v ∷ values)) (values_back n back vs (λ k item at. below (suc k) item at))

  -- the values, of which tuples have numbers below n
  back_to : (n : ℕ) → n ≤ length view.tuples → (v : Value) → IsBelow (length view.texts) n v → value_at view (contents_to n view v) ≡ Some v
  back_to n few (Text i) below = ap (option_map Text) (text_back i below)
  back_to zero few (Tuple i) below = absurd (omega (arith, below))
  back_to (suc n) few (Tuple i) below =
      let x = item_at view.tuples i (omega (arith, below, few)) in
      let parts_below : AreBelow (length view.texts) n x.0 = λ k item at. below_more (length view.texts) i (length view.texts) n item (omega arith) (omega (arith, below)) (interned.parts i x.0 x.1 k item at) in
      ap (λ (items : List Value). option_and_then (tuple_with view) (values_at view (parts_by (contents_to n view) items))) x.2
      ∙ ap (option_and_then (tuple_with view)) (values_back n (back_to n (omega (arith, few))) x.0 parts_below)
      ∙ ap (option_map Tuple)
      (number_is (pointwise ghosts.eq x.0) x.0 ((values_decide x.0 x.0).1 refl) (λ y is. sym ((values_decide x.0 y).0 is)) view.tuples i x.1 (λ j found. interned.tuples_once j i x.0 found x.1))
  back_to n few Nothing below = refl
  back_to n few (Truth t) below = refl
  back_to n few (Int k) below = refl
  back_to n few (Range start end step) below = refl
  back_to n few (Fn place) below = refl
  back_to n few (Class place) below = refl
  back_to n few (Exc number) below = refl
  back_to n few (Builtin number) below = refl
  back_to n few (Object object) below = refl

  -- what a location is without numbers leads back to it
  pub location_back : (l : Location) → IsNamedLocation view l → location_at view (location_seen view l) ≡ Some l
  location_back (Var scope name) named = ap (option_map (Var scope)) (text_back name named)
  location_back (Len o) named = refl
  location_back (Item o i) named = refl
  location_back (Entry o key) named = ap (option_map (entry_of o)) (back_to (length view.tuples) (omega arith) key.value named)
  location_back (Order o) named = refl
  location_back (File path) named = ap (option_map File) (text_back path named)
  location_back (Offset o) named = refl
  location_back (Closed o) named = refl
  location_back (Method class name) named = ap (option_map (Method class)) (text_back name named)
  location_back (Base class) named = refl
