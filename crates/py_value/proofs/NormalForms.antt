-- The normal form of a tuple is the tuple of its items' normal forms.
use Rattle.std.proofs.Common.{◌≡◌, ℕ, zero, suc, ◌+◌, drop, get_or, ◌<◌, ◌≤◌, ◌⊎◌, inl, inr, ⊎_elim, slice_set, List, [], ◌∷◌, ◌++◌, take, length, slice_get, unwrap_or, ◌-◌, Option, Some, subst, refl, sym, ap, ◌∙◌, arith}
use Rattle.std.proofs.lemmas.Option.{slice_get_within, slice_get-get_or, same_Some}
use Rattle.std.proofs.lemmas.List.{take_more}
use Rattle.std.proofs.Math.Seq.{drop-cons}
use Rattle.py_value.proofs.Interning.{below_more}
use Rattle.py_value.proofs.SameContents.{stay_lists, stay_to}
use Rattle.py_value.proofs.KeyNotes.{named_still, fault_stays, normal_stays, normal_before, normal_now}
use Rattle.std.proofs.Common.{None as Nothing}
use Rattle.std.specs.Option.{option_or}
use Rattle.py_value.specs.declared.key.KeyFault.{KeyFault}
use Rattle.py_value.specs.declared.key.KeyFault.TheVariants.{TooDeep}
use Rattle.py_value.specs.declared.value.Value.{Value}
use Rattle.py_value.specs.declared.value.Value.TheVariants.{None as Nought, Tuple}
use Rattle.py_value.specs.declared.values.Note.{Note}
use Rattle.py_value.specs.Values.{ValuesView, AreInterned, IsNamed, AreNamed, Keeps}
use Rattle.py_value.specs.Contents.{Parts, part, tuple, parts_by, contents_to, contents}
use Rattle.py_value.specs.KeyOf.{first_fault, fault_within, normal, normal_parts, IsNormalOf}
use Rattle.py_value.specs.Notes.{AreNormalOf, IsNote, AreNoted}

module _ (view : ValuesView) (interned : AreInterned view) (id : ℕ) (items : List Value) (at : slice_get view.tuples id ≡ Some items) where
  tuple_to : (n : ℕ) → id < n → contents_to n view (Tuple id) ≡ tuple (parts_by (contents view) items)
  tuple_to zero within = absurd (omega (arith, within))
  tuple_to (suc n) within =
      let named = slice_get_within view.tuples id items at in
      ap (λ found. tuple (parts_by (contents_to n view) (unwrap_or found []))) at
      ∙ ap tuple (stay_lists view view interned (λ i x here. here) (λ i x here. here) (length view.tuples) n id (λ v is. stay_to view view interned (λ i x here. here) (λ i x here. here) (length view.tuples) n v
      (below_more (length view.texts) id (length view.texts) (length view.tuples) v (omega arith) (omega (arith, named)) is)
      (below_more (length view.texts) id (length view.texts) (length view.tuples) v (omega arith) (omega (arith, named)) is)
      (below_more (length view.texts) id (length view.texts) n v (omega arith) (omega (arith, within)) is)) items (interned.parts id items at))

  -- the contents of a tuple are those of its items
  pub tuple_contents : contents view (Tuple id) ≡ tuple (parts_by (contents view) items)
  tuple_contents = tuple_to (length view.tuples) (slice_get_within view.tuples id items at)

part_same : (a b : Parts) (v w : _) → v ≡ w → a ≡ b → part v a ≡ part w b
part_same a b v w one more = ap (λ x. part x a) one ∙ ap (part w) more

module _ (old now : ValuesView) where
  parts_normal : (items forms : List Value) → AreNormalOf old now items forms → parts_by (contents now) forms ≡ normal_parts (parts_by (contents old) items)
  parts_normal [] [] are = refl
  parts_normal (item ∷ items) (form ∷ forms) are = part_same _ _ _ _ are.0.form_is (parts_normal items forms are.1)
  parts_normal [] (form ∷ forms) are = absurd are
  parts_normal (item ∷ items) [] are = absurd are

  pub forms_named : (items forms : List Value) → AreNormalOf old now items forms → AreNamed now forms
  forms_named [] [] are i form at = cc
  forms_named (item ∷ items) (form ∷ forms) are zero other at = subst (IsNamed now) (same_Some form other at) are.0.named
  forms_named (item ∷ items) (form ∷ forms) are (suc i) other at = forms_named items forms are.1 i other at
  forms_named [] (form ∷ forms) are i other at = absurd are
  forms_named (item ∷ items) [] are i other at = absurd are

  pub one_more : (items forms : List Value) (item form : Value) → AreNormalOf old now items forms → IsNormalOf old now item form → AreNormalOf old now (items ++ item ∷ []) (forms ++ form ∷ [])
  one_more [] [] item form are is = (is, tt)
  one_more (first ∷ items) (other ∷ forms) item form are is = (are.0, one_more items forms item form are.1 is)
  one_more [] (other ∷ forms) item form are is = absurd are
  one_more (first ∷ items) [] item form are is = absurd are

  -- a tuple of normal forms is the normal form of the tuple
  pub tuple_normal : (id number : ℕ) (items forms : List Value) → AreInterned old → AreInterned now → slice_get old.tuples id ≡ Some items → slice_get now.tuples number ≡ Some forms
      → AreNormalOf old now items forms → IsNormalOf old now (Tuple id) (Tuple number)
  tuple_normal id number items forms before after at at_form are = record {
    named = slice_get_within now.tuples number forms at_form;
    form_is = tuple_contents now after number forms at_form ∙ ap tuple (parts_normal items forms are) ∙ ap normal (sym (tuple_contents old before id items at));
  }

-- What is kept as the forms of a list are found: those so far, and that nothing is refused of the rest.
pub record AreFound (old now : ValuesView) (levels : ℕ) (done rest found : List Value) : Type 0 where
  pub forms : AreNormalOf old now done found
  pub texts : now.texts ≡ old.texts
  pub keeps : Keeps old.tuples now.tuples
  pub interned : AreInterned now
  pub before : AreInterned old
  pub keys : first_fault (fault_within levels old) rest ≡ Nothing

-- normal forms that were found earlier
pub forms_stay : (first old new : ValuesView) → AreInterned old → Keeps old.texts new.texts → Keeps old.tuples new.tuples → (items forms : List Value) → AreNormalOf first old items forms → AreNormalOf first new items forms
forms_stay first old new interned texts tuples [] [] are = are
forms_stay first old new interned texts tuples (item ∷ items) (form ∷ forms) are = (normal_stays old new interned texts tuples first item form are.0, forms_stay first old new interned texts tuples items forms are.1)
forms_stay first old new interned texts tuples [] (form ∷ forms) are = absurd are
forms_stay first old new interned texts tuples (item ∷ items) [] are = absurd are

module _ {A : Type 0} where
  pub in_front : (n : ℕ) (xs : List A) (i : ℕ) (x : A) → slice_get (take n xs) i ≡ Some x → slice_get xs i ≡ Some x
  in_front zero xs i x at = cc
  in_front (suc n) [] i x at = cc
  in_front (suc n) (y ∷ xs) zero x at = at
  in_front (suc n) (y ∷ xs) (suc i) x at = in_front n xs i x at

  pub shorter_front : (n : ℕ) (xs : List A) → length (take n xs) ≤ length xs
  shorter_front zero xs = omega arith
  shorter_front (suc n) [] = omega arith
  shorter_front (suc n) (x ∷ xs) = let fewer = shorter_front n xs in omega (arith, fewer)

  -- the first of a list that was kept are the list
  pub front_kept : (xs ys : List A) → Keeps xs ys → take (length xs) ys ≡ xs
  front_kept [] ys keeps = refl
  front_kept (x ∷ xs) [] keeps = absurd (none_kept x (keeps 0 x refl))
    where
      none_kept : (x : A) → Nothing ≡ Some x → ⊥
      none_kept x is = cc
  front_kept (x ∷ xs) (y ∷ ys) keeps = ap (λ z. z ∷ take (length xs) ys) (same_Some y x (keeps 0 x refl)) ∙ ap (λ zs. x ∷ zs) (front_kept xs ys (λ i z at. keeps (suc i) z at))

-- the texts with the first tuples
pub front_interned : (n : ℕ) (texts : List (List ℕ)) (tuples : List (List Value)) → AreInterned (record { texts = texts; tuples = tuples }) → AreInterned (record { texts = texts; tuples = take n tuples })
front_interned n texts tuples interned = record {
  texts_once = interned.texts_once;
  tuples_once = λ i j x at_i at_j. interned.tuples_once i j x (in_front n tuples i x at_i) (in_front n tuples j x at_j);
  texts_few = interned.texts_few;
  tuples_few = let shorter = shorter_front n tuples in let few = interned.tuples_few in omega (arith, shorter, few);
  parts = λ id items at. interned.parts id items (in_front n tuples id items at);
}

pub without_notes : (view : ValuesView) → AreInterned view → AreNoted view []
without_notes view interned = record {
  interned = interned;
  few = omega arith;
  each = λ id note at. absurd (none_there id note at);
}
  where
    none_there : (id : ℕ) (note : Note) → slice_get [] id ≡ Some note → ⊥
    none_there id note at = cc

module _ {A : Type 0} where
  -- another item stands at its place
  pub which_set : (xs : List A) (i j : ℕ) (x y : A) → slice_get (slice_set xs i x) j ≡ Some y → (slice_get xs j ≡ Some y) ⊎ ((j ≡ i) × (y ≡ x))
  which_set [] i j x y at = inl at
  which_set (z ∷ xs) zero zero x y at = inr (refl, sym (same_Some x y at))
  which_set (z ∷ xs) zero (suc j) x y at = inl at
  which_set (z ∷ xs) (suc i) zero x y at = inl at
  which_set (z ∷ xs) (suc i) (suc j) x y at = ⊎_elim inl (λ r. inr (ap suc r.0, r.1)) (which_set xs i j x y at)

  pub length_set : (xs : List A) (i : ℕ) (x : A) → length (slice_set xs i x) ≡ length xs
  length_set [] i x = refl
  length_set (z ∷ xs) zero x = refl
  length_set (z ∷ xs) (suc i) x = ap suc (length_set xs i x)

-- the note of a tuple with its normal form
pub with_form : (view : ValuesView) (notes : List Note) (id number : ℕ) (note : Note) → AreNoted view notes → slice_get notes id ≡ Some note
    → IsNormalOf view view (Tuple id) (Tuple number) → AreNoted view (slice_set notes id (record { as_key = note.as_key; normal = Some number }))
with_form view notes id number note noted at is = record {
  interned = noted.interned;
  few = let same = length_set notes id (record { as_key = note.as_key; normal = Some number }) in let few = noted.few in omega (arith, few, same);
  each = λ other at_other here. ⊎_elim
      (λ old. noted.each other at_other old)
      (λ set. subst (λ i. IsNote view i at_other) (sym set.0) (subst (λ n. IsNote view id n) (sym set.1) mended))
      (which_set notes id other (record { as_key = note.as_key; normal = Some number }) at_other here);
}
  where
    mended : IsNote view id (record { as_key = note.as_key; normal = Some number })
    mended = record {
      known = (noted.each id note at).known;
      normal_form = λ other given. subst (λ n. IsNormalOf view view (Tuple id) (Tuple n)) (same_Some number other given) is;
    }

pub same_views : (v w : ValuesView) → v.texts ≡ w.texts → v.tuples ≡ w.tuples → v ≡ w
same_views v w texts tuples = ap (λ t. record { texts = t; tuples = v.tuples }) texts ∙ ap (λ t. record { texts = w.texts; tuples = t }) tuples

module _ (view : ValuesView) (id : ℕ) (items : List Value) (at : slice_get view.tuples id ≡ Some items) where
  -- nothing is refused of the items of a tuple of which nothing is
  pub items_pass : (levels : ℕ) → fault_within levels view (Tuple id) ≡ Nothing → (0 < levels) × (first_fault (fault_within (levels - 1) view) items ≡ Nothing)
  items_pass zero pass = absurd (too_deep pass)
    where
      too_deep : Some TooDeep ≡ Nothing → ⊥
      too_deep is = cc
  items_pass (suc levels) pass =
      let one : suc levels - 1 ≡ levels = omega arith in
      (omega arith, ap (λ n. first_fault (fault_within n view) items) one ∙ ap (λ found. first_fault (fault_within levels view) (unwrap_or found [])) (sym at) ∙ pass)

-- nothing is refused of the first of a list of which nothing is, nor of the others
pub first_passes : (f : Value → Option KeyFault) (item : Value) (items : List Value) → first_fault f (item ∷ items) ≡ Nothing → (f item ≡ Nothing) × (first_fault f items ≡ Nothing)
first_passes f item items pass = passes (f item) (first_fault f items) pass
  where
    passes : (a b : Option KeyFault) → option_or a b ≡ Nothing → (a ≡ Nothing) × (b ≡ Nothing)
    passes Nothing b is = (refl, is)
    passes (Some a) b is = cc

pub same_keeps : {A : Type 0} (xs ys : List A) → ys ≡ xs → Keeps xs ys
same_keeps xs ys same i x at = ap (λ l. slice_get l i) same ∙ at

-- the normal form of a tuple that was put behind the others, seen from before and from now
pub tuple_found : (old mid new : ValuesView) (id number : ℕ) (items forms : List Value) → AreInterned old → AreInterned mid → AreInterned new → mid.texts ≡ old.texts → new.texts ≡ mid.texts
    → Keeps old.tuples mid.tuples → Keeps mid.tuples new.tuples → slice_get old.tuples id ≡ Some items → slice_get new.tuples number ≡ Some forms → AreNormalOf old mid items forms
    → IsNormalOf old new (Tuple id) (Tuple number) × IsNormalOf new new (Tuple id) (Tuple number)
tuple_found old mid new id number items forms before between after texts texts_new tuples tuples_new at at_form are =
    let form = tuple_normal old new id number items forms before after at at_form (forms_stay old mid new between (same_keeps mid.texts new.texts texts_new) tuples_new items forms are) in
    (form, normal_now old new before (same_keeps old.texts new.texts (texts_new ∙ texts)) (λ i x here. tuples_new i x (tuples i x here)) (Tuple id) (Tuple number) (slice_get_within old.tuples id items at) form)

module _ (old mid : ValuesView) (levels i : ℕ) (values found : List Value) (within : i < length values) (named : AreNamed old values) (are : AreFound old mid levels (take i values) (drop i values) found) where
  abbrev pub item : Value
  item = get_or values i Nought

  rest_pass : (fault_within levels old item ≡ Nothing) × (first_fault (fault_within levels old) (drop (suc i) values) ≡ Nothing)
  rest_pass = first_passes (fault_within levels old) item (drop (suc i) values) (ap (first_fault (fault_within levels old)) (sym (drop-cons values i Nought within)) ∙ are.keys)

  named_item : IsNamed old item
  named_item = named i item (slice_get-get_or values i Nought within)

  -- the next value may be asked for its form
  pub next_passes : IsNamed mid item × (fault_within levels mid item ≡ Nothing)
  next_passes = (
    named_still old mid (same_keeps old.texts mid.texts are.texts) are.keeps item named_item,
    fault_stays old mid are.before (same_keeps old.texts mid.texts are.texts) are.keeps levels item named_item ∙ rest_pass.0,
  )

  -- and its form joins the others
  pub found_more : (new : ValuesView) (form : Value) (later : List Value) → IsNormalOf mid new item form → new.texts ≡ mid.texts → Keeps mid.tuples new.tuples → AreInterned new
      → later ≡ found ++ form ∷ [] → AreFound old new levels (take (i + 1) values) (drop (i + 1) values) later
  found_more new form later is texts tuples after more = record {
    forms = subst (λ done. AreNormalOf old new done later) (sym (take_more values i Nought within)) (subst (λ l. AreNormalOf old new (take i values ++ item ∷ []) l) (sym more)
        (one_more old new (take i values) found item form (forms_stay old mid new are.interned (same_keeps mid.texts new.texts texts) tuples (take i values) found are.forms)
        (normal_before old mid are.before (same_keeps old.texts mid.texts are.texts) are.keeps new item form named_item is)));
    texts = texts ∙ are.texts;
    keeps = λ j x here. tuples j x (are.keeps j x here);
    interned = after;
    before = are.before;
    keys = let one : i + 1 ≡ suc i = omega arith in ap (λ n. first_fault (fault_within levels old) (drop n values)) one ∙ rest_pass.1;
  }

pub is_none : {A : Type 0} (x : Option A) → ((y : A) → x ≡ Some y → ⊥) → x ≡ Nothing
is_none Nothing not_some = refl
is_none (Some y) not_some = absurd (not_some y refl)
