-- What is noted of tuples as keys stays as texts and tuples come.
use Rattle.std.proofs.Common.{◌≡◌, ℕ, zero, suc, ◌+◌, ◌<◌, ◌≤◌, ⊎_elim, List, [], ◌∷◌, ◌++◌, take, length, subst, slice_get, unwrap_or, Option, Some, None, refl, sym, ap, ◌∙◌, arith}
use Rattle.std.specs.Option.{option_or}
use Rattle.std.proofs.lemmas.Option.{slice_get_within}
use Rattle.py_value.proofs.Interning.{below_more, length-behind, which}
use Rattle.py_value.proofs.SameContents.{item_at, keeps_length, contents_stay}
use Rattle.py_value.specs.declared.key.KeyFault.{KeyFault}
use Rattle.py_value.specs.declared.value.Value.{Value}
use Rattle.py_value.specs.declared.value.Value.TheVariants.{None as Nothing, Bool as Truth, Int, Text, Tuple, Range, Fn, Class, Exc, Builtin, Object}
use Rattle.py_value.specs.declared.values.AsKey.{AsKey}
use Rattle.py_value.specs.declared.values.Note.{Note}
use Rattle.py_value.specs.Values.{ValuesView, AreInterned, IsNamed, Keeps}
use Rattle.py_value.specs.KeyOf.{first_fault, fault_within, normal, IsNormalOf}
use Rattle.py_value.specs.Notes.{IsKnown, AreKnown, IsNote, AreNoted}

-- what is refused first of a list, where the same is refused of each item
pub first_same : (f g : Value → Option KeyFault) (items : List Value) → ((i : ℕ) (item : Value) → slice_get items i ≡ Some item → f item ≡ g item) → first_fault f items ≡ first_fault g items
first_same f g [] same = refl
first_same f g (item ∷ items) same =
    ap (λ fault. option_or fault (first_fault f items)) (same 0 item refl)
    ∙ ap (option_or (g item)) (first_same f g items (λ i other at. same (suc i) other at))

-- what was named still is
pub named_still : (old new : ValuesView) → Keeps old.texts new.texts → Keeps old.tuples new.tuples → (v : Value) → IsNamed old v → IsNamed new v
named_still old new texts tuples v named = below_more (length old.texts) (length old.tuples) (length new.texts) (length new.tuples) v (keeps_length old.texts new.texts texts) (keeps_length old.tuples new.tuples tuples) named

module _ (old new : ValuesView) (interned : AreInterned old) (texts : Keeps old.texts new.texts) (tuples : Keeps old.tuples new.tuples) where
  -- what is refused of a value that was named
  pub fault_stays : (levels : ℕ) (v : Value) → IsNamed old v → fault_within levels new v ≡ fault_within levels old v
  fault_stays zero (Tuple id) named = refl
  fault_stays (suc levels) (Tuple id) named =
      let x = item_at old.tuples id named in
      ap (λ found. first_fault (fault_within levels new) (unwrap_or found [])) (tuples id x.0 x.1)
      ∙ first_same (fault_within levels new) (fault_within levels old) x.0 (λ i item at. fault_stays levels item
      (below_more (length old.texts) id (length old.texts) (length old.tuples) item (omega arith) (omega (arith, named)) (interned.parts id x.0 x.1 i item at)))
      ∙ ap (λ found. first_fault (fault_within levels old) (unwrap_or found [])) (sym x.1)
  fault_stays levels Nothing named = refl
  fault_stays levels (Truth t) named = refl
  fault_stays levels (Int i) named = refl
  fault_stays levels (Text id) named = refl
  fault_stays levels (Range start end step) named = refl
  fault_stays levels (Fn place) named = refl
  fault_stays levels (Class place) named = refl
  fault_stays levels (Exc number) named = refl
  fault_stays levels (Builtin number) named = refl
  fault_stays levels (Object object) named = refl

  -- a normal form that was found earlier
  pub normal_stays : (first : ValuesView) (v form : Value) → IsNormalOf first old v form → IsNormalOf first new v form
  normal_stays first v form is = record {
    named = named_still old new texts tuples form is.named;
    form_is = contents_stay old new interned texts tuples form is.named ∙ is.form_is;
  }

  -- the normal form of what was there earlier
  pub normal_before : (last : ValuesView) (v form : Value) → IsNamed old v → IsNormalOf new last v form → IsNormalOf old last v form
  normal_before last v form named is = record {
    named = is.named;
    form_is = is.form_is ∙ ap normal (contents_stay old new interned texts tuples v named);
  }

  -- and so of what is there now
  pub normal_now : (v form : Value) → IsNamed old v → IsNormalOf old new v form → IsNormalOf new new v form
  normal_now v form named is = record {
    named = is.named;
    form_is = is.form_is ∙ ap normal (sym (contents_stay old new interned texts tuples v named));
  }

  note_stays : (id : ℕ) (note : Note) → id < length old.tuples → IsNote old id note → IsNote new id note
  note_stays id note within is = record {
    known = λ levels few high. fault_stays levels (Tuple id) within ∙ is.known levels few high;
    normal_form = λ number at.
        let form = is.normal_form number at in
        record {
          named = named_still old new texts tuples (Tuple number) form.named;
          form_is = contents_stay old new interned texts tuples (Tuple number) form.named ∙ form.form_is ∙ ap normal (sym (contents_stay old new interned texts tuples (Tuple id) within));
        };
  }

  pub notes_stay : (notes : List Note) → AreNoted old notes → AreInterned new → AreNoted new notes
  notes_stay notes noted now = record {
    interned = now;
    few = let more = keeps_length old.tuples new.tuples tuples in let few = noted.few in omega (arith, few, more);
    each = λ id note at. note_stays id note (within notes noted id note at) (noted.each id note at);
  }
    where
      within : (notes : List Note) → AreNoted old notes → (id : ℕ) (note : Note) → slice_get notes id ≡ Some note → id < length old.tuples
      within notes noted id note at = let below = slice_get_within notes id note at in let few = noted.few in omega (arith, below, few)

or_or : (a b c : Option KeyFault) → option_or a (option_or b c) ≡ option_or (option_or a b) c
or_or (Some a) b c = refl
or_or None b c = refl

or_none : (a : Option KeyFault) → option_or a None ≡ a
or_none (Some a) = refl
or_none None = refl

first_of_two : (f : Value → Option KeyFault) (xs ys : List Value) → first_fault f (xs ++ ys) ≡ option_or (first_fault f xs) (first_fault f ys)
first_of_two f [] ys = refl
first_of_two f (x ∷ xs) ys = ap (option_or (f x)) (first_of_two f xs ys) ∙ or_or (f x) (first_fault f xs) (first_fault f ys)

-- one item more, and what is known of it
pub known_more : (view : ValuesView) (items : List Value) (i : ℕ) (item : Value) (one all both : AsKey) → take (i + 1) items ≡ take i items ++ item ∷ []
    → AreKnown view (take i items) all → IsKnown view item one → all.height ≤ both.height → one.height ≤ both.height → both.fault ≡ option_or all.fault one.fault
    → AreKnown view (take (i + 1) items) both
known_more view items i item one all both more known is first second fault levels few high =
    ap (first_fault (fault_within levels view)) more
    ∙ first_of_two (fault_within levels view) (take i items) (item ∷ [])
    ∙ ap (option_or (first_fault (fault_within levels view) (take i items))) (or_none (fault_within levels view item))
    ∙ ap (λ x. option_or x (fault_within levels view item)) (known levels few (omega (arith, first, high)))
    ∙ ap (option_or all.fault) (is levels few (omega (arith, second, high)))
    ∙ sym fault

-- a tuple is one level higher than its items
pub known_around : (view : ValuesView) (id : ℕ) (items : List Value) (parts all : AsKey) → slice_get view.tuples id ≡ Some items
    → AreKnown view items parts → ((levels : ℕ) → levels ≤ 100 → all.height ≤ levels → parts.height < levels) → all.fault ≡ parts.fault → IsKnown view (Tuple id) all
known_around view id items parts all at known height fault zero few high = absurd (omega (arith, height 0 few high))
known_around view id items parts all at known height fault (suc levels) few high =
    ap (λ found. first_fault (fault_within levels view) (unwrap_or found [])) at
    ∙ known levels (omega (arith, few)) (omega (arith, height (suc levels) few high))
    ∙ sym fault

-- a note more
pub with_note : (view : ValuesView) (notes : List Note) (note : Note) → AreNoted view notes → length notes < length view.tuples
    → IsNote view (length notes) note → AreNoted view (notes ++ note ∷ [])
with_note view notes note noted room is = record {
  interned = noted.interned;
  few = subst (λ n. n ≤ length view.tuples) (sym (length-behind notes note)) (omega (arith, room));
  each = λ id other at. ⊎_elim
      (λ old. noted.each id other old)
      (λ last. subst (λ i. IsNote view i other) (sym last.0) (subst (λ n. IsNote view (length notes) n) (sym last.1) is))
      (which notes note other id at);
}

-- the items of a tuple that is named are named
pub items_named : (view : ValuesView) (id : ℕ) (items : List Value) (i : ℕ) (item : Value) → AreInterned view → id < length view.tuples
    → slice_get view.tuples id ≡ Some items → slice_get items i ≡ Some item → IsNamed view item
items_named view id items i item interned within at here =
    below_more (length view.texts) id (length view.texts) (length view.tuples) item (omega arith) (omega (arith, within)) (interned.parts id items at i item here)
