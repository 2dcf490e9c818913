-- What an interner's list is after a look-up, and after an item was put behind it.
use Rattle.std.proofs.Common.{◌≡◌, ℕ, suc, ◌<◌, ◌≤◌, ◌||◌, zero, ◌⊎◌, inl, inr, ⊎_elim, Bool, true, false, map, List, [], ◌∷◌, ◌++◌, length, slice_get, option_map, Some, Contains, refl, sym, ap, subst, ◌∙◌, true≢false, arith, if◌then◌else◌}
use Rattle.std.specs.List.{list_any, position}
use Rattle.std.proofs.lemmas.List.Quantifiers.{position-Some}
use Rattle.std.proofs.lemmas.Option.{slice_get-map, slice_get-get_or, slice_get_within, get_or_from_slice_get}
use Rattle.std.proofs.lemmas.List.{map_push}
use Rattle.py_value.specs.declared.value.Value.{Value}
use Rattle.py_value.specs.declared.value.Value.TheVariants.{None as Nothing, Bool as Truth, Int, Text, Tuple, Range, Fn, Class, Exc, Builtin, Object}
use Rattle.py_value.specs.Values.{StandOnce, Adds, Keeps, AreInterned, IsBelow, AreBelow}

or_left : (a b : Bool) → (a || b) ≡ false → a ≡ false
or_left true b is = is
or_left false b is = refl

or_right : (a b : Bool) → (a || b) ≡ false → b ≡ false
or_right true b is = cc
or_right false b is = is

module _ {K A : Type 0} (view : K → A) (test : K → Bool) (x : A) where
  -- a place that was found is the item's
  pub found : ((k : K) → test k ≡ true → view k ≡ x) → (keys : List K) (i : ℕ) → position test keys ≡ Some i → slice_get (map view keys) i ≡ Some x
  found same [] i is = cc
  found same (k ∷ keys) i is =
      let at = position-Some test (k ∷ keys) i k is in
      slice_get-map view (k ∷ keys) i ∙ ap (option_map view) (slice_get-get_or (k ∷ keys) i k at.0) ∙ ap Some (same _ at.1)

  -- an item that was not found stands nowhere
  pub absent : ((k : K) → view k ≡ x → test k ≡ true) → (keys : List K) → list_any test keys ≡ false → (i : ℕ) → slice_get (map view keys) i ≡ Some x → ⊥
  absent back [] none i is = cc
  absent back (k ∷ keys) none zero is = absurd (true≢false (sym (back k (cc)) ∙ or_left (test k) (list_any test keys) none))
  absent back (k ∷ keys) none (suc i) is = absent back keys (or_right (test k) (list_any test keys) none) i is

module _ {A : Type 0} where
  -- where the item of `Contains` stands
  pub place_of : (xs : List A) (x : A) → Contains xs x → (i : ℕ) × (slice_get xs i ≡ Some x)
  place_of xs x has = (has.0, slice_get-get_or xs has.0 x has.1 ∙ ap Some has.2)

  pub contains_at : (xs : List A) (x : A) (i : ℕ) → slice_get xs i ≡ Some x → Contains xs x
  contains_at xs x i is = (i, slice_get_within xs i x is, get_or_from_slice_get xs i x x is)

  pub kept : (xs : List A) (x : A) (i : ℕ) → slice_get xs i ≡ Some x → Adds xs xs x
  kept xs x i is = inl (contains_at xs x i is, refl)

  pub grown : (xs : List A) (x : A) → ((i : ℕ) → slice_get xs i ≡ Some x → ⊥) → Adds xs (xs ++ x ∷ []) x
  grown xs x gone = inr (λ has. let at = place_of xs x has in gone at.0 at.1, refl)

  pub at_end : (xs : List A) (x : A) → slice_get (xs ++ x ∷ []) (length xs) ≡ Some x
  at_end [] x = refl
  at_end (y ∷ xs) x = at_end xs x

  -- an item of the longer list is one of the shorter, or the last
  pub which : (xs : List A) (x y : A) (i : ℕ) → slice_get (xs ++ x ∷ []) i ≡ Some y → (slice_get xs i ≡ Some y) ⊎ ((i ≡ length xs) × (y ≡ x))
  which [] x y zero is = inr (refl, cc)
  which [] x y (suc i) is = cc
  which (z ∷ xs) x y zero is = inl is
  which (z ∷ xs) x y (suc i) is = ⊎_elim inl (λ r. inr (ap suc r.0, r.1)) (which xs x y i is)

  pub keeps_behind : (xs ys : List A) (x : A) → ys ≡ xs ++ x ∷ [] → Keeps xs ys
  keeps_behind xs ys x is i y at = ap (λ l. slice_get l i) is ∙ earlier xs x y i at
    where
      earlier : (xs : List A) (x y : A) (i : ℕ) → slice_get xs i ≡ Some y → slice_get (xs ++ x ∷ []) i ≡ Some y
      earlier [] x y i at = cc
      earlier (z ∷ xs) x y zero at = at
      earlier (z ∷ xs) x y (suc i) at = earlier xs x y i at

  pub once_behind : (xs : List A) (x : A) → StandOnce xs → ((i : ℕ) → slice_get xs i ≡ Some x → ⊥) → StandOnce (xs ++ x ∷ [])
  once_behind xs x once gone i j y at_i at_j = ⊎_elim
      (λ a. ⊎_elim (λ b. once i j y a b) (λ b. absurd (gone i (a ∙ ap Some b.1))) (which xs x y j at_j))
      (λ a. ⊎_elim (λ b. absurd (gone j (b ∙ ap Some a.1))) (λ b. a.0 ∙ sym b.0) (which xs x y j at_j))
      (which xs x y i at_i)

-- what is below a bound is below a greater one
pub below_more : (texts tuples more_texts more_tuples : ℕ) (value : Value) → texts ≤ more_texts → tuples ≤ more_tuples → IsBelow texts tuples value → IsBelow more_texts more_tuples value
below_more texts tuples more_texts more_tuples (Text id) a b is = omega (arith, a, is)
below_more texts tuples more_texts more_tuples (Tuple id) a b is = omega (arith, b, is)
below_more texts tuples more_texts more_tuples Nothing a b is = is
below_more texts tuples more_texts more_tuples (Truth t) a b is = is
below_more texts tuples more_texts more_tuples (Int i) a b is = is
below_more texts tuples more_texts more_tuples (Range start end step) a b is = is
below_more texts tuples more_texts more_tuples (Fn place) a b is = is
below_more texts tuples more_texts more_tuples (Class place) a b is = is
below_more texts tuples more_texts more_tuples (Exc number) a b is = is
below_more texts tuples more_texts more_tuples (Builtin number) a b is = is
below_more texts tuples more_texts more_tuples (Object object) a b is = is

pub length-behind : {A : Type 0} (xs : List A) (x : A) → length (xs ++ x ∷ []) ≡ suc (length xs)
length-behind [] x = refl
length-behind (y ∷ xs) x = ap suc (length-behind xs x)

module _ (texts : List (List ℕ)) (tuples : List (List Value)) (interned : AreInterned (record { texts = texts; tuples = tuples })) where
  -- a new text behind the texts
  pub with_text : (s : List ℕ) → ((i : ℕ) → slice_get texts i ≡ Some s → ⊥) → length texts < 4294967296 → AreInterned (record { texts = texts ++ s ∷ []; tuples = tuples })
  with_text s gone few = record {
    texts_once = once_behind texts s interned.texts_once gone;
    tuples_once = interned.tuples_once;
    texts_few = subst (λ n. n ≤ 4294967296) (sym (length-behind texts s)) (omega (arith, few));
    tuples_few = interned.tuples_few;
    parts = λ tuple items at i item is. below_more (length texts) tuple (length (texts ++ s ∷ [])) tuple item (subst (λ n. length texts ≤ n) (sym (length-behind texts s)) (omega arith)) (omega arith) (interned.parts tuple items at i item is);
  }

  -- a new tuple behind the tuples
  pub with_tuple : (items : List Value) → AreBelow (length texts) (length tuples) items → ((i : ℕ) → slice_get tuples i ≡ Some items → ⊥) → length tuples < 4294967296 → AreInterned (record { texts = texts; tuples = tuples ++ items ∷ [] })
  with_tuple items named gone few = record {
    texts_once = interned.texts_once;
    tuples_once = once_behind tuples items interned.tuples_once gone;
    texts_few = interned.texts_few;
    tuples_few = subst (λ n. n ≤ 4294967296) (sym (length-behind tuples items)) (omega (arith, few));
    parts = λ tuple others at. ⊎_elim
        (λ old. interned.parts tuple others old)
        (λ last. λ i item is. subst (λ n. IsBelow (length texts) n item) (sym last.0) (named i item (ap (λ l. slice_get l i) (sym last.1) ∙ is)))
        (which tuples items others tuple at);
  }

module _ {K A : Type 0} (view : K → A) (x : A) where
  -- the list after an item that was not found was put into the set
  pub put : (keys new : List K) (k : K) (there : Bool) → there ≡ false → view k ≡ x → new ≡ (if there then keys else keys ++ k ∷ []) → map view new ≡ map view keys ++ x ∷ []
  put keys new k there gone is becomes = ap (map view) (becomes ∙ ap (λ b. if b then keys else keys ++ k ∷ []) gone) ∙ map_push view keys k ∙ ap (λ y. map view keys ++ y ∷ []) is
