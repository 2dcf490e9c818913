-- Numbers of texts and tuples: what has one is there, and keeps it as more come.
use Rattle.std.proofs.Common.{◌≡◌, ℕ, zero, suc, ◌<◌, Bool, true, false, List, [], ◌∷◌, ◌++◌, length, slice_get, Option, Some, None, Contains, unwrap_or, refl, sym, ap, subst, ◌∙◌, arith, if◌then◌else◌}
use Rattle.std.specs.Option.{option_map, option_and_then}
use Rattle.std.specs.Str.{bytes_eq}
use Rattle.std.specs.Cmp.Lexicographic.{pointwise}
use Rattle.std.proofs.lemmas.List.{append-nil}
use Rattle.std.proofs.lemmas.Option.{same_Some}
use Rattle.std.proofs.lemmas.Slice.Eq.{bytes_eq-Decides}
use Rattle.py_value.specs.contracts.value.ValuePartialEq.TheImpl.{ghosts}
use Rattle.py_value.specs.declared.value.Value.{Value}
use Rattle.py_value.specs.declared.value.Value.TheVariants.{Text as TextValue, Tuple as TupleValue}
use Rattle.py_value.specs.Contents.{Contents, Parts, nothing, truth, int, text, tuple, range, function, class, exception_class, builtin, object, no_parts, part}
use Rattle.py_value.specs.Seen.{number_by, value_at, values_at}
use Rattle.py_value.specs.Values.{ValuesView, IsNamed, AreNamed}
use Rattle.py_value.proofs.Equality.{values_decide}
use Rattle.py_value.proofs.Interning.{place_of}

-- ---- the first that passes

number_below : {A : Type 0} (test : A → Bool) (xs : List A) (k : ℕ) → number_by test xs ≡ Some k → k < length xs
number_below test [] k is = absurd (cc)
number_below test (x ∷ xs) k is = by (test x) (number_by test xs) (λ m rest. number_below test xs m rest) is
  where
    by : (b : Bool) (rest : Option ℕ) → ((m : ℕ) → rest ≡ Some m → m < length xs) → (if b then Some 0 else option_map suc rest) ≡ Some k → k < suc (length xs)
    by true rest below is = subst (λ n. n < suc (length xs)) (same_Some 0 k is) (omega arith)
    by false None below is = absurd (cc)
    by false (Some m) below is = let small = below m refl in subst (λ n. n < suc (length xs)) (same_Some (suc m) k is) (omega (arith, small))

number_stays : {A : Type 0} (test : A → Bool) (xs ys : List A) (k : ℕ) → number_by test xs ≡ Some k → number_by test (xs ++ ys) ≡ Some k
number_stays test [] ys k is = absurd (cc)
number_stays test (x ∷ xs) ys k is = by (test x) (number_by test xs) (λ m rest. number_stays test xs ys m rest) is
  where
    by : (b : Bool) (rest : Option ℕ) → ((m : ℕ) → rest ≡ Some m → number_by test (xs ++ ys) ≡ Some m) → (if b then Some 0 else option_map suc rest) ≡ Some k
        → (if b then Some 0 else option_map suc (number_by test (xs ++ ys))) ≡ Some k
    by true rest stays is = is
    by false None stays is = absurd (cc)
    by false (Some m) stays is = ap (option_map suc) (stays m refl) ∙ is

-- what passes and stands somewhere has a number
none_passes : {A : Type 0} (test : A → Bool) (xs : List A) (i : ℕ) (x : A) → test x ≡ true → slice_get xs i ≡ Some x → number_by test xs ≡ None → ⊥
none_passes test [] zero x passes at is = cc
none_passes test [] (suc i) x passes at is = cc
none_passes test (y ∷ ys) zero x passes at is = by (test y) (ap test (same_Some y x at) ∙ passes) (number_by test ys) is
  where
    by : (b : Bool) → b ≡ true → (rest : Option ℕ) → (if b then Some 0 else option_map suc rest) ≡ None → ⊥
    by true b rest is = cc
    by false b rest is = cc
none_passes test (y ∷ ys) (suc i) x passes at is = by (test y) (number_by test ys) (none_passes test ys i x passes at) is
  where
    by : (b : Bool) (rest : Option ℕ) → (rest ≡ None → ⊥) → (if b then Some 0 else option_map suc rest) ≡ None → ⊥
    by true rest gone is = cc
    by false None gone is = gone refl
    by false (Some m) gone is = cc

no_number : (f : ℕ → Value) (found : Option ℕ) → option_map f found ≡ None → found ≡ None
no_number f None is = refl
no_number f (Some n) is = absurd (cc)

pub new_text : (view : ValuesView) (bytes : List ℕ) → value_at view (text bytes) ≡ None → Contains view.texts bytes → ⊥
new_text view bytes none has =
    let place = place_of view.texts bytes has in
    none_passes (bytes_eq bytes) view.texts place.0 bytes ((bytes_eq-Decides bytes bytes).1 refl) place.1 (no_number TextValue (number_by (bytes_eq bytes) view.texts) none)

pub new_tuple : (view : ValuesView) (parts : Parts) (items : List Value) → values_at view parts ≡ Some items → value_at view (tuple parts) ≡ None → Contains view.tuples items → ⊥
new_tuple view parts items found none has =
    let place = place_of view.tuples items has in
    let test = pointwise ghosts.eq items in
    let absent = sym (ap (option_and_then (λ (vs : List Value). option_map TupleValue (number_by (pointwise ghosts.eq vs) view.tuples))) found) ∙ none in
    none_passes test view.tuples place.0 items ((values_decide items items).1 refl) place.1 (no_number TupleValue (number_by test view.tuples) absent)

-- ---- more texts and tuples

pub record Grows (old new : ValuesView) : Type 0 where
  pub more_texts : List (List ℕ)
  pub more_tuples : List (List Value)
  pub texts_are : new.texts ≡ old.texts ++ more_texts
  pub tuples_are : new.tuples ≡ old.tuples ++ more_tuples

pub stays_same : (view : ValuesView) → Grows view view
stays_same view = record { more_texts = []; more_tuples = []; texts_are = sym (append-nil view.texts); tuples_are = sym (append-nil view.tuples) }

assoc : {A : Type 0} (xs ys zs : List A) → (xs ++ ys) ++ zs ≡ xs ++ (ys ++ zs)
assoc [] ys zs = refl
assoc (x ∷ xs) ys zs = ap (λ rest. x ∷ rest) (assoc xs ys zs)

pub grows_then : {a b c : ValuesView} → Grows a b → Grows b c → Grows a c
grows_then {a} {b} {c} one other = record {
  more_texts = one.more_texts ++ other.more_texts;
  more_tuples = one.more_tuples ++ other.more_tuples;
  texts_are = other.texts_are ∙ ap (λ xs. xs ++ other.more_texts) one.texts_are ∙ assoc a.texts one.more_texts other.more_texts;
  tuples_are = other.tuples_are ∙ ap (λ xs. xs ++ other.more_tuples) one.tuples_are ∙ assoc a.tuples one.more_tuples other.more_tuples;
}

some_mapped : {A : Type 0} (f : ℕ → A) (found : Option ℕ) (v : A) → option_map f found ≡ Some v → (n : ℕ) × ((found ≡ Some n) × (f n ≡ v))
some_mapped f None v is = absurd (cc)
some_mapped f (Some n) v is = (n, (refl, same_Some (f n) v is))

module _ (old new : ValuesView) (grows : Grows old new) where
  text_stays : (test : List ℕ → Bool) (n : ℕ) → number_by test old.texts ≡ Some n → number_by test new.texts ≡ Some n
  text_stays test n is = ap (number_by test) grows.texts_are ∙ number_stays test old.texts grows.more_texts n is

  tuple_stays : (test : List Value → Bool) (n : ℕ) → number_by test old.tuples ≡ Some n → number_by test new.tuples ≡ Some n
  tuple_stays test n is = ap (number_by test) grows.tuples_are ∙ number_stays test old.tuples grows.more_tuples n is

  abbrev tuple_in : ValuesView → List Value → Option Value
  tuple_in view vs = option_map TupleValue (number_by (pointwise ghosts.eq vs) view.tuples)

  by_tuple : (found : Option (List Value)) (now : Option (List Value)) → ((vs : List Value) → found ≡ Some vs → now ≡ Some vs) → (v : Value)
      → option_and_then (tuple_in old) found ≡ Some v → option_and_then (tuple_in new) now ≡ Some v
  by_tuple None now stays v is = absurd (cc)
  by_tuple (Some vs) now stays v is =
      let place = some_mapped TupleValue (number_by (pointwise ghosts.eq vs) old.tuples) v is in
      ap (option_and_then (tuple_in new)) (stays vs refl) ∙ ap (option_map TupleValue) (tuple_stays (pointwise ghosts.eq vs) place.0 place.1.0) ∙ ap Some place.1.1

  by_parts : (first now : Option Value) (rest later : Option (List Value)) → ((v : Value) → first ≡ Some v → now ≡ Some v) → ((vs : List Value) → rest ≡ Some vs → later ≡ Some vs) → (all : List Value)
      → option_and_then (λ (x : Value). option_map (λ (xs : List Value). x ∷ xs) rest) first ≡ Some all
      → option_and_then (λ (x : Value). option_map (λ (xs : List Value). x ∷ xs) later) now ≡ Some all
  by_parts None now rest later one others all is = absurd (cc)
  by_parts (Some v) now None later one others all is = absurd (cc)
  by_parts (Some v) now (Some vs) later one others all is =
      ap (option_and_then (λ (x : Value). option_map (λ (xs : List Value). x ∷ xs) later)) (one v refl) ∙ ap (option_map (λ (xs : List Value). v ∷ xs)) (others vs refl) ∙ is

  mutual
    pub value_stays : (c : Contents) (v : Value) → value_at old c ≡ Some v → value_at new c ≡ Some v
    value_stays (text bytes) v is =
        let place = some_mapped TextValue (number_by (bytes_eq bytes) old.texts) v is in
        ap (option_map TextValue) (text_stays (bytes_eq bytes) place.0 place.1.0) ∙ ap Some place.1.1
    value_stays (tuple parts) v is = by_tuple (values_at old parts) (values_at new parts) (values_stay parts) v is
    value_stays nothing v is = is
    value_stays (truth b) v is = is
    value_stays (int i) v is = is
    value_stays (range start end step) v is = is
    value_stays (function at) v is = is
    value_stays (class at) v is = is
    value_stays (exception_class n) v is = is
    value_stays (builtin n) v is = is
    value_stays (object n) v is = is

    pub values_stay : (parts : Parts) (vs : List Value) → values_at old parts ≡ Some vs → values_at new parts ≡ Some vs
    values_stay no_parts vs is = is
    values_stay (part first rest) vs is =
        by_parts (value_at old first) (value_at new first) (values_at old rest) (values_at new rest) (value_stays first) (values_stay rest) vs is

-- ---- what has a number is named

module _ (view : ValuesView) where
  by_named_tuple : (found : Option (List Value)) (v : Value) → option_and_then (λ (vs : List Value). option_map TupleValue (number_by (pointwise ghosts.eq vs) view.tuples)) found ≡ Some v → IsNamed view v
  by_named_tuple None v is = absurd (cc)
  by_named_tuple (Some vs) v is =
      let place = some_mapped TupleValue (number_by (pointwise ghosts.eq vs) view.tuples) v is in
      subst (IsNamed view) place.1.1 (number_below (pointwise ghosts.eq vs) view.tuples place.0 place.1.0)

  pub found_named : (c : Contents) (v : Value) → value_at view c ≡ Some v → IsNamed view v
  found_named (text bytes) v is =
      let place = some_mapped TextValue (number_by (bytes_eq bytes) view.texts) v is in
      subst (IsNamed view) place.1.1 (number_below (bytes_eq bytes) view.texts place.0 place.1.0)
  found_named (tuple parts) v is = by_named_tuple (values_at view parts) v is
  found_named nothing v is = subst (IsNamed view) (same_Some _ v is) tt
  found_named (truth b) v is = subst (IsNamed view) (same_Some _ v is) tt
  found_named (int i) v is = subst (IsNamed view) (same_Some _ v is) tt
  found_named (range start end step) v is = subst (IsNamed view) (same_Some _ v is) tt
  found_named (function at) v is = subst (IsNamed view) (same_Some _ v is) tt
  found_named (class at) v is = subst (IsNamed view) (same_Some _ v is) tt
  found_named (exception_class n) v is = subst (IsNamed view) (same_Some _ v is) tt
  found_named (builtin n) v is = subst (IsNamed view) (same_Some _ v is) tt
  found_named (object n) v is = subst (IsNamed view) (same_Some _ v is) tt

  pub named_first : (v : Value) (vs : List Value) → IsNamed view v → AreNamed view vs → AreNamed view (v ∷ vs)
  named_first v vs first rest zero item at = subst (IsNamed view) (same_Some v item at) first
  named_first v vs first rest (suc i) item at = rest i item at

  pub none_named : AreNamed view []
  none_named zero item at = absurd (cc)
  none_named (suc i) item at = absurd (cc)

  by_named_parts : (first : Option Value) (rest : Option (List Value)) → ((v : Value) → first ≡ Some v → IsNamed view v) → ((vs : List Value) → rest ≡ Some vs → AreNamed view vs) → (all : List Value)
      → option_and_then (λ (x : Value). option_map (λ (xs : List Value). x ∷ xs) rest) first ≡ Some all → AreNamed view all
  by_named_parts None rest one others all is = absurd (cc)
  by_named_parts (Some v) None one others all is = absurd (cc)
  by_named_parts (Some v) (Some vs) one others all is = subst (AreNamed view) (same_Some (v ∷ vs) all is) (named_first v vs (one v refl) (others vs refl))

  pub parts_named : (parts : Parts) (vs : List Value) → values_at view parts ≡ Some vs → AreNamed view vs
  parts_named no_parts vs is = subst (AreNamed view) (same_Some [] vs is) none_named
  parts_named (part first rest) vs is = by_named_parts (value_at view first) (values_at view rest) (found_named first) (parts_named rest) vs is

  -- the number of a text that has one
  pub text_below : (bytes : List ℕ) (v : Value) → value_at view (text bytes) ≡ Some v → unwrap_or (number_by (bytes_eq bytes) view.texts) 0 < length view.texts
  text_below bytes v is =
      let place = some_mapped TextValue (number_by (bytes_eq bytes) view.texts) v is in
      subst (λ n. n < length view.texts) (sym (ap (λ found. unwrap_or found 0) place.1.0)) (number_below (bytes_eq bytes) view.texts place.0 place.1.0)

-- ---- what is put at the end has a number

number_at_end : {A : Type 0} (test : A → Bool) (xs : List A) (x : A) → test x ≡ true → (k : ℕ) × (number_by test (xs ++ x ∷ []) ≡ Some k)
number_at_end test [] x passes = (0, ap (λ b. if b then Some 0 else None) passes)
number_at_end test (y ∷ ys) x passes = by (test y) (number_at_end test ys x passes)
  where
    by : (b : Bool) → (k : ℕ) × (number_by test (ys ++ x ∷ []) ≡ Some k) → (k : ℕ) × ((if b then Some 0 else option_map suc (number_by test (ys ++ x ∷ []))) ≡ Some k)
    by true rest = (0, refl)
    by false rest = (suc rest.0, ap (option_map suc) rest.1)

abbrev pub HasNumber : ValuesView → Contents → Type 0
HasNumber view c = (v : Value) × (value_at view c ≡ Some v)

pub text_at_end : (texts : List (List ℕ)) (tuples : List (List Value)) (bytes : List ℕ) → HasNumber (record { texts = texts ++ bytes ∷ []; tuples = tuples }) (text bytes)
text_at_end texts tuples bytes =
    let place = number_at_end (bytes_eq bytes) texts bytes ((bytes_eq-Decides bytes bytes).1 refl) in
    (TextValue place.0, ap (option_map TextValue) place.1)

pub tuple_at_end : (texts : List (List ℕ)) (tuples : List (List Value)) (parts : Parts) (items : List Value) → values_at (record { texts = texts; tuples = tuples ++ items ∷ [] }) parts ≡ Some items
    → HasNumber (record { texts = texts; tuples = tuples ++ items ∷ [] }) (tuple parts)
tuple_at_end texts tuples parts items is =
    let place = number_at_end (pointwise ghosts.eq items) tuples items ((values_decide items items).1 refl) in
    (TupleValue place.0, ap (option_and_then (λ (vs : List Value). option_map TupleValue (number_by (pointwise ghosts.eq vs) (tuples ++ items ∷ [])))) is ∙ ap (option_map TupleValue) place.1)
