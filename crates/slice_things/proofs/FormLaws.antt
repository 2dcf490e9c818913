-- One text more, and the form of one tuple more.
use Rattle.std.proofs.Common.{◌≡◌, ℕ, suc, ◌+◌, ◌<◌, ◌≤◌, true, false, List, [], ◌∷◌, ◌++◌, take, length, map, slice_get, get_or, slice_index_or, unwrap_or, ◌⊎◌, inl, inr, ⊎_elim, Some, refl, sym, ap, subst, ◌∙◌, arith}
use Rattle.std.specs.Option.{option_map}
use Rattle.std.proofs.lemmas.Option.{slice_get_within, slice_get-get_or, slice_get-map, get_or_from_slice_get}
use Rattle.std.proofs.lemmas.List.{take_more, length-take-le, take_all, length-map}
use Rattle.py_value.specs.declared.value.Value.{Value}
use Rattle.py_value.specs.declared.value.Value.TheVariants.{None as Nothing, Bool as Truth, Int, Text, Tuple, Range, Fn, Class, Exc, Builtin, Object}
use Rattle.py_value.specs.Contents.{text}
use Rattle.py_value.specs.KeyOf.{IsNormalOf}
use Rattle.py_value.specs.Notes.{AreNormalOf}
use Rattle.py_value.specs.Values.{ValuesView, AreInterned, IsBelow, AreBelow, AreNamed, StandOnce, Adds, Keeps}
use Rattle.py_value.proofs.Interning.{place_of, below_more, length-behind, which}
use Rattle.py_value.proofs.KeyNotes.{normal_stays}
use Rattle.py_value.proofs.NormalForms.{in_front, tuple_normal, forms_named, forms_stay}
use Rattle.row_moments.specs.InOrder.{StandInOrder}
use Rattle.slice_things.specs.declared.forms.Forms.{Forms}
use Rattle.slice_things.specs.Forms.{form_in, AreFormsOf, IsFormed}

-- an item of a list that is mapped
pub at_map : {A B : Type 0} (f : A → B) (items : List A) (i : ℕ) (d : A) → i < length items → slice_get (map f items) i ≡ Some (f (slice_index_or items i d))
at_map f items i d below = slice_get-map f items i ∙ ap (option_map f) (slice_get-get_or items i d below)

pub all_taken : {A B : Type 0} (f : A → B) (items : List A) (n : ℕ) → length items ≤ n → take n (map f items) ≡ map f items
all_taken f items n few = take_all n (map f items) (omega (arith, few, length-map items f))

module _ {A : Type 0} where
  next_front : (xs : List A) (i : ℕ) (x : A) → slice_get xs i ≡ Some x → take (i + 1) xs ≡ take i xs ++ x ∷ []
  next_front xs i x at = take_more xs i x (slice_get_within xs i x at) ∙ ap (λ y. take i xs ++ y ∷ []) (get_or_from_slice_get xs i x x at)

  -- a list of which nothing stands twice goes behind what stands before, one after the other
  pub text_next : (xs now new : List A) (i : ℕ) (x : A) → StandOnce xs → now ≡ take i xs → slice_get xs i ≡ Some x → Adds now new x → new ≡ take (i + 1) xs
  text_next xs now new i x once is at added = ⊎_elim
      (λ here. absurd (there (place_of now x here.0)))
      (λ behind. behind.1 ∙ ap (λ front. front ++ x ∷ []) is ∙ sym (next_front xs i x at)) added
    where
      there : (j : ℕ) × (slice_get now j ≡ Some x) → ⊥
      there found =
          let j = found.0 in
          let front = sym (ap (λ front. slice_get front j) is) ∙ found.1 in
          let few = length-take-le i xs (omega (arith, slice_get_within xs i x at)) in
          omega (arith, slice_get_within (take i xs) j x front, few, once j i x (in_front i xs j x front) at)

-- the parts of the next tuple are among what stands before it
pub parts_named : (tuples : List (List Value)) (texts : List (List ℕ)) (now : ValuesView) (i : ℕ) (items : List Value) → StandInOrder (record { texts = texts; tuples = tuples })
    → now.texts ≡ texts → now.tuples ≡ take i tuples → slice_get tuples i ≡ Some items → AreNamed now items
parts_named tuples texts now i items order same front at j item there =
    let few = length-take-le i tuples (omega (arith, slice_get_within tuples i items at)) in
    below_more (length texts) i (length now.texts) (length now.tuples) item (omega (arith, ap length same)) (omega (arith, few, ap length front)) (order.parts i items at j item there)

-- ---- the form of one tuple more

module _ (view : ValuesView) (forms : Forms) (n : ℕ) (are : AreFormsOf view n forms) where
  list_formed : (items : List Value) → AreBelow (length view.texts) n items → AreNormalOf view forms.values items (map (form_in forms.numbers.items) items)
  list_formed [] below = tt
  list_formed (item ∷ items) below = (are.each item (below 0 item refl), list_formed items (λ k other at. below (suc k) other at))

  pub next_named : AreInterned view → (items : List Value) → slice_get view.tuples n ≡ Some items → AreNamed forms.values (map (form_in forms.numbers.items) items)
  next_named interned items at = forms_named view forms.values items (map (form_in forms.numbers.items) items) (list_formed items (interned.parts n items at))

module _ (view : ValuesView) (interned : AreInterned view) (old new : Forms) (i : ℕ) (items : List Value) (at : slice_get view.tuples i ≡ Some items) (are : AreFormsOf view i old) (formed : IsFormed old new items) where
  texts_kept : Keeps old.values.texts new.values.texts
  texts_kept j x there = ap (λ texts. slice_get texts j) formed.texts ∙ there

  stay : (v : Value) → IsBelow (length view.texts) i v → form_in new.numbers.items v ≡ form_in old.numbers.items v → IsNormalOf view new.values v (form_in new.numbers.items v)
  stay v below same = subst (IsNormalOf view new.values v) (sym same)
      (normal_stays old.values new.values are.interned texts_kept formed.keeps view v (form_in old.numbers.items v) (are.each v below))

  newest : IsNormalOf view new.values (Tuple i) (Tuple formed.number)
  newest = tuple_normal view new.values i formed.number items (map (form_in old.numbers.items) items) interned formed.interned at formed.formed
      (forms_stay view old.values new.values are.interned texts_kept formed.keeps items (map (form_in old.numbers.items) items) (list_formed view old i are items (interned.parts i items at)))

  count_next : length new.numbers.items ≡ i + 1
  count_next = let behind = ap length formed.numbers ∙ length-behind old.numbers.items formed.number in let many = are.many in omega (arith, behind, many)

  of_tuple : (m : ℕ) → m < i + 1 → IsNormalOf view new.values (Tuple m) (form_in new.numbers.items (Tuple m))
  of_tuple m below =
      let k = get_or new.numbers.items m 0 in
      let count = count_next in
      let there : slice_get new.numbers.items m ≡ Some k = slice_get-get_or new.numbers.items m 0 (omega (arith, below, count)) in
      by k there (which old.numbers.items formed.number k m (sym (ap (λ numbers. slice_get numbers m) formed.numbers) ∙ there))
    where
      by : (k : ℕ) → slice_get new.numbers.items m ≡ Some k → (slice_get old.numbers.items m ≡ Some k) ⊎ ((m ≡ length old.numbers.items) × (k ≡ formed.number)) → IsNormalOf view new.values (Tuple m) (form_in new.numbers.items (Tuple m))
      by k there (inl before) =
          let many = are.many in
          stay (Tuple m) (omega (arith, slice_get_within old.numbers.items m k before, many)) (ap (λ found. Tuple (unwrap_or found m)) (there ∙ sym before))
      by k there (inr last) = subst (λ number. IsNormalOf view new.values (Tuple m) (Tuple number)) (sym (ap (λ found. unwrap_or found m) there ∙ last.1))
          (subst (λ number. IsNormalOf view new.values (Tuple number) (Tuple formed.number)) (sym (last.0 ∙ are.many)) newest)

  of_value : (v : Value) → IsBelow (length view.texts) (i + 1) v → IsNormalOf view new.values v (form_in new.numbers.items v)
  of_value (Tuple m) below = of_tuple m below
  of_value (Truth true) below = stay (Truth true) below refl
  of_value (Truth false) below = stay (Truth false) below refl
  of_value Nothing below = stay Nothing below refl
  of_value (Int k) below = stay (Int k) below refl
  of_value (Text id) below = stay (Text id) below refl
  of_value (Range start end step) below = stay (Range start end step) below refl
  of_value (Fn place) below = stay (Fn place) below refl
  of_value (Class place) below = stay (Class place) below refl
  of_value (Exc number) below = stay (Exc number) below refl
  of_value (Builtin number) below = stay (Builtin number) below refl
  of_value (Object object) below = stay (Object object) below refl

  pub one_formed : AreFormsOf view (i + 1) new
  one_formed = record { texts = formed.texts ∙ are.texts; interned = formed.interned; many = count_next; each = of_value }

-- no tuple has its form yet
pub none_formed : (view : ValuesView) (forms : Forms) → AreInterned forms.values → forms.values.texts ≡ view.texts → forms.numbers.items ≡ [] → AreFormsOf view 0 forms
none_formed view forms interned texts none = record { texts = texts; interned = interned; many = ap length none; each = of_value }
  where
    named : (v : Value) → IsBelow (length view.texts) 0 v → IsBelow (length forms.values.texts) (length forms.values.tuples) v
    named v below = below_more (length view.texts) 0 (length forms.values.texts) (length forms.values.tuples) v (omega (arith, ap length texts)) (omega arith) below

    of_value : (v : Value) → IsBelow (length view.texts) 0 v → IsNormalOf view forms.values v (form_in forms.numbers.items v)
    of_value (Tuple m) below = absurd (omega (arith, below))
    of_value (Truth true) below = record { named = tt; form_is = refl }
    of_value (Truth false) below = record { named = tt; form_is = refl }
    of_value Nothing below = record { named = tt; form_is = refl }
    of_value (Int k) below = record { named = tt; form_is = refl }
    of_value (Text id) below = record { named = named (Text id) below; form_is = ap (λ these. text (unwrap_or (slice_get these id) [])) texts }
    of_value (Range start end step) below = record { named = tt; form_is = refl }
    of_value (Fn place) below = record { named = tt; form_is = refl }
    of_value (Class place) below = record { named = tt; form_is = refl }
    of_value (Exc number) below = record { named = tt; form_is = refl }
    of_value (Builtin number) below = record { named = tt; form_is = refl }
    of_value (Object object) below = record { named = tt; form_is = refl }
