-- A text or a tuple that is looked up, or put behind the others, is named.
use Rattle.std.proofs.Common.{◌≡◌, ℕ, suc, ◌<◌, ◌≤◌, ⊎_elim, Bool, true, false, List, [], ◌∷◌, ◌++◌, length, slice_get, Option, Some, None, unwrap_or, Contains, refl, sym, ap, subst, ◌∙◌, arith, if◌then◌else◌}
use Rattle.std.specs.Option.{option_map, option_and_then}
use Rattle.std.specs.Str.{bytes_eq}
use Rattle.std.specs.Cmp.Lexicographic.{pointwise}
use Rattle.std.proofs.lemmas.Option.{slice_get_within}
use Rattle.std.proofs.lemmas.Slice.Eq.{bytes_eq-Decides}
use Rattle.py_value.specs.contracts.value.ValuePartialEq.TheImpl.{ghosts}
use Rattle.py_value.specs.declared.access.Location.{Location}
use Rattle.py_value.specs.declared.access.Location.TheVariants.{Entry, File}
use Rattle.py_value.specs.declared.value.Value.{Value}
use Rattle.py_value.specs.declared.value.Value.TheVariants.{Text, Tuple}
use Rattle.py_value.specs.Contents.{Parts, text, tuple, contents}
use Rattle.py_value.specs.Seen.{bytes_of, number_by, value_at, values_at, entry_of}
use Rattle.py_value.specs.Values.{ValuesView, Adds, Keeps, AreInterned, IsNamed}
use Rattle.py_value.proofs.Equality.{values_decide}
use Rattle.py_value.proofs.Interning.{contains_at, which}
use Rattle.py_value.proofs.SeenLocations.{location_back, number_is}
use Rattle.trace_rows.specs.declared.row.Row.{Row}
use Rattle.trace_rows.specs.declared.row.Row.TheVariants.{Text as TextRow, Tuple as TupleRow}
use Rattle.recorder.specs.Naming.{name_new}
use Rattle.recorder.specs.Numbers.{Extends, NumbersText, NumbersTuple}

pub same_extends : (view : ValuesView) → AreInterned view → Extends view view
same_extends view interned = record { texts = λ i x is. is; tuples = λ i x is. is; interned = interned }

pub extends_then : {a b c : ValuesView} → Extends a b → Extends b c → Extends a c
extends_then one other = record {
  texts = λ i x is. other.texts i x (one.texts i x is);
  tuples = λ i x is. other.tuples i x (one.tuples i x is);
  interned = other.interned;
}

-- a value leads back to itself, and so does the number of a text
pub value_back : (view : ValuesView) → AreInterned view → (v : Value) → IsNamed view v → value_at view (contents view v) ≡ Some v
value_back view interned v named = by (value_at view (contents view v)) (location_back view interned (entry_of 0 v) named)
  where
    by : (found : Option Value) → option_map (entry_of 0) found ≡ Some (entry_of 0 v) → found ≡ Some v
    by None is = cc
    by (Some w) is = ap Some (key_is w is)
      where
        value_of : Option Location → Value
        value_of (Some (Entry o key)) = key.value
        value_of other = v

        key_is : (w : Value) → Some (entry_of 0 w) ≡ Some (entry_of 0 v) → w ≡ v
        key_is w is = ap value_of is

pub text_back : (view : ValuesView) → AreInterned view → (n : ℕ) → n < length view.texts → number_by (bytes_eq (bytes_of view n)) view.texts ≡ Some n
text_back view interned n named = by (number_by (bytes_eq (bytes_of view n)) view.texts) (location_back view interned (File n) named)
  where
    by : (found : Option ℕ) → option_map File found ≡ Some (File n) → found ≡ Some n
    by None is = cc
    by (Some m) is = cc

-- what stands nowhere has no number
pub not_found : {A : Type 0} (test : A → Bool) (xs : List A) → ((i : ℕ) (x : A) → slice_get xs i ≡ Some x → test x ≡ true → ⊥) → number_by test xs ≡ None
not_found test [] nowhere = refl
not_found test (x ∷ xs) nowhere = by (test x) refl (not_found test xs (λ i y at. nowhere (suc i) y at))
  where
    by : (b : Bool) → test x ≡ b → number_by test xs ≡ None → (if b then Some 0 else option_map suc (number_by test xs)) ≡ None
    by true is rest = absurd (nowhere 0 x refl is)
    by false is rest = ap (option_map suc) rest

-- an item with an earlier number was there; one with the next number is new
module _ {A : Type 0} (old new : List A) (x : A) (id : ℕ) (adds : Adds old new x) (at : slice_get new id ≡ Some x) where
  pub was_there : id < length old → new ≡ old
  was_there below = ⊎_elim (λ a. a.1) (λ a. absurd (gone a.0 a.1)) adds
    where
      gone : (Contains old x → ⊥) → new ≡ old ++ x ∷ [] → ⊥
      gone none is = ⊎_elim (λ b. none (contains_at old x id b)) (λ b. omega (arith, below, b.0)) (which old x x id (ap (λ xs. slice_get xs id) (sym is) ∙ at))

  pub is_new : length old ≤ id → (Contains old x → ⊥) × (new ≡ old ++ x ∷ [])
  is_new above = ⊎_elim (λ a. absurd (omega (arith, above, slice_get_within old id x (ap (λ xs. slice_get xs id) (sym a.1) ∙ at)))) (λ a. a) adds

module _ (s : List ℕ) (old new : ValuesView) (id : ℕ) (at : slice_get new.texts id ≡ Some s) (interned : AreInterned new) where
  text_read : (later : ValuesView) → Extends new later → bytes_of later id ≡ s
  text_read later e = ap (λ o. unwrap_or o []) (e.texts id s at)

  text_written : (later : ValuesView) → Extends new later → number_by (bytes_eq s) later.texts ≡ Some id
  text_written later e =
      subst (λ bytes. number_by (bytes_eq bytes) later.texts ≡ Some id) (text_read later e) (text_back later e.interned id (slice_get_within later.texts id s (e.texts id s at)))

  pub text_known : (rows : List Row) → new ≡ old → NumbersText s (record { view = old; rows = rows }) (record { view = new; rows = rows }) id
  text_known rows is = record {
    named = ap (λ view. record { view = view; rows = rows }) is
        ∙ sym (ap (λ found. name_new (text s) (option_map Text found) (record { view = old; rows = rows }))
        (subst (λ view. number_by (bytes_eq s) view.texts ≡ Some id) is (text_written new (same_extends new interned))));
    extends = subst (λ view. Extends view new) is (same_extends new interned);
    reads = text_read;
    writes = text_written;
  }

  pub text_added : (rows : List Row) → Keeps old.texts new.texts → (Contains old.texts s → ⊥) → new ≡ record { texts = old.texts ++ s ∷ []; tuples = old.tuples }
      → NumbersText s (record { view = old; rows = rows }) (record { view = new; rows = TextRow s ∷ rows }) id
  text_added rows keeps none is = record {
    named = ap (λ view. record { view = view; rows = TextRow s ∷ rows }) is
        ∙ sym (ap (λ found. name_new (text s) (option_map Text found) (record { view = old; rows = rows }))
        (not_found (bytes_eq s) old.texts (λ i y stands passes. none (contains_at old.texts s i (stands ∙ ap Some (sym ((bytes_eq-Decides s y).0 passes)))))));
    extends = record { texts = keeps; tuples = λ i x stands. ap (λ view. slice_get view.tuples i) is ∙ stands; interned = interned };
    reads = text_read;
    writes = text_written;
  }

pub view_of_both : (v : ValuesView) (texts : List (List ℕ)) (tuples : List (List Value)) → v.texts ≡ texts → v.tuples ≡ tuples → v ≡ record { texts = texts; tuples = tuples }
view_of_both v texts tuples a b = ap (λ t. record { texts = t; tuples = v.tuples }) a ∙ ap (λ u. record { texts = texts; tuples = u }) b

module _ (items : List Value) (old new : ValuesView) (id : ℕ) (at : slice_get new.tuples id ≡ Some items) (interned : AreInterned new) where
  place_of_tuple : number_by (pointwise ghosts.eq items) new.tuples ≡ Some id
  place_of_tuple =
      number_is (pointwise ghosts.eq items) items ((values_decide items items).1 refl) (λ y is. sym ((values_decide items y).0 is)) new.tuples id at (λ j found. interned.tuples_once j id items found at)

  pub tuple_known : (rows : List Row) → new ≡ old → NumbersTuple items (record { view = old; rows = rows }) (record { view = new; rows = rows }) id
  tuple_known rows is = record {
    named = λ parts found. ap (λ view. record { view = view; rows = rows }) is
        ∙ sym (ap (λ v. name_new (tuple parts) v (record { view = old; rows = rows })) (value_is parts found));
    extends = subst (λ view. Extends view new) is (same_extends new interned);
    at = at;
  }
    where
      value_is : (parts : Parts) → values_at old parts ≡ Some items → value_at old (tuple parts) ≡ Some (Tuple id)
      value_is parts found =
          ap (option_and_then (λ (vs : List Value). option_map Tuple (number_by (pointwise ghosts.eq vs) old.tuples))) found
          ∙ ap (option_map Tuple) (subst (λ view. number_by (pointwise ghosts.eq items) view.tuples ≡ Some id) is place_of_tuple)

  pub tuple_added : (rows : List Row) → Keeps old.tuples new.tuples → (Contains old.tuples items → ⊥) → new ≡ record { texts = old.texts; tuples = old.tuples ++ items ∷ [] }
      → NumbersTuple items (record { view = old; rows = rows }) (record { view = new; rows = TupleRow items ∷ rows }) id
  tuple_added rows keeps none is = record {
    named = λ parts found. ap (λ view. record { view = view; rows = TupleRow items ∷ rows }) is
        ∙ sym (ap (λ v. name_new (tuple parts) v (record { view = old; rows = rows })) (value_is parts found)
        ∙ ap (λ (o : Option (List Value)). let vs = unwrap_or o [] in (record { view = record { texts = old.texts; tuples = old.tuples ++ vs ∷ [] }; rows = TupleRow vs ∷ rows })) found);
    extends = record { texts = λ i x stands. ap (λ view. slice_get view.texts i) is ∙ stands; tuples = keeps; interned = interned };
    at = at;
  }
    where
      value_is : (parts : Parts) → values_at old parts ≡ Some items → value_at old (tuple parts) ≡ None
      value_is parts found =
          ap (option_and_then (λ (vs : List Value). option_map Tuple (number_by (pointwise ghosts.eq vs) old.tuples))) found
          ∙ ap (option_map Tuple)
          (not_found (pointwise ghosts.eq items) old.tuples (λ i y stands passes. none (contains_at old.tuples items i (stands ∙ ap Some (sym ((values_decide items y).0 passes))))))
