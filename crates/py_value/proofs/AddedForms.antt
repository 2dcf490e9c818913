-- Only normal forms of a value's tuples come where the value is made a key.
use Rattle.std.proofs.Common.{◌≡◌, ℕ, zero, suc, ◌+◌, ◌<◌, ◌≤◌, inl, inr, ⊎_elim, List, [], ◌∷◌, ◌++◌, length, slice_get, get_or, Some, refl, sym, ap, subst, ◌∙◌, arith}
use Rattle.std.proofs.Common.{None as Nothing}
use Rattle.std.proofs.lemmas.Bool.{cases_lt}
use Rattle.std.proofs.lemmas.Option.{slice_get-get_or, same_Some}
use Rattle.py_value.specs.declared.value.Value.{Value}
use Rattle.py_value.specs.declared.value.Value.TheVariants.{None as Nought, Tuple}
use Rattle.py_value.specs.Values.{ValuesView, AreInterned, AreNamed, Keeps, Adds}
use Rattle.py_value.specs.Contents.{Contents, parts_by, contents}
use Rattle.py_value.specs.KeyOf.{normal, IsTupleIn, IsTupleInParts, AddsOnly, HasForm}
use Rattle.py_value.proofs.NormalForms.{tuple_contents, same_views, same_keeps}
use Rattle.py_value.proofs.SameContents.{contents_stay, same_contents}

last_item : {A : Type 0} (xs : List A) (x : A) → slice_get (xs ++ x ∷ []) (length xs) ≡ Some x
last_item [] x = refl
last_item (y ∷ xs) x = last_item xs x

length_more : {A : Type 0} (xs : List A) (x : A) → length (xs ++ x ∷ []) ≡ length xs + 1
length_more [] x = refl
length_more (y ∷ xs) x = omega (arith, length_more xs x)

pub only_more : (old now : ValuesView) (P Q : Contents → Type 0) → ((c : Contents) → P c → Q c) → AddsOnly old now P → AddsOnly old now Q
only_more old now P Q more only t low high = let found = only t low high in (found.0, (more found.0 found.1.0, found.1.1))

-- one step after another
pub only_then : (old mid new : ValuesView) (P : Contents → Type 0) → AreInterned mid → Keeps mid.texts new.texts → Keeps mid.tuples new.tuples → AddsOnly old mid P → AddsOnly mid new P → AddsOnly old new P
only_then old mid new P interned texts tuples first second t low high = ⊎_elim
    (λ below. let found = first t low below in (found.0, (found.1.0, contents_stay mid new interned texts tuples (Tuple t) below ∙ found.1.1)))
    (λ above. second t above high)
    (cases_lt t (length mid.tuples))

module _ (old : ValuesView) (interned : AreInterned old) (id : ℕ) (items : List Value) (at : slice_get old.tuples id ≡ Some items) where
  pub in_whole : (c : Contents) → IsTupleInParts c (parts_by (contents old) items) → IsTupleIn c (contents old (Tuple id))
  in_whole c within = subst (IsTupleIn c) (sym (tuple_contents old interned id items at)) (inr within)

  pub is_whole : IsTupleIn (contents old (Tuple id)) (contents old (Tuple id))
  is_whole = subst (λ c. IsTupleIn c c) (sym (tuple_contents old interned id items at)) (inl refl)

-- a tuple of forms is put behind the others, where it is not there
pub only_put : (mid new : ValuesView) (number : ℕ) (forms : List Value) (whole : Contents) (P : Contents → Type 0) → P whole → AreInterned new → Adds mid.tuples new.tuples forms → slice_get new.tuples number ≡ Some forms
    → contents new (Tuple number) ≡ normal whole → AddsOnly mid new P
only_put mid new number forms whole P holds interned adds at is t low high = ⊎_elim
    (λ stays. absurd (omega (arith, low, high, ap (length {A = List Value}) stays.1)))
    (λ put.
    let count = ap (length {A = List Value}) put.1 ∙ length_more mid.tuples forms in
    let last : t ≡ length mid.tuples = omega (arith, low, high, count) in
    let there : slice_get new.tuples t ≡ Some forms = ap (λ ts. slice_get ts t) put.1 ∙ ap (slice_get (mid.tuples ++ forms ∷ [])) last ∙ last_item mid.tuples forms in
    let same : number ≡ t = interned.tuples_once number t forms at there in
    (whole, (holds, subst (λ n. contents new (Tuple n) ≡ normal whole) same is)))
    adds

-- a tuple in one of the values is in their parts
pub in_parts : (f : Value → Contents) (values : List Value) (i : ℕ) (item : Value) → slice_get values i ≡ Some item → (c : Contents) → IsTupleIn c (f item) → IsTupleInParts c (parts_by f values)
in_parts f [] i item at c within = absurd (nowhere at)
  where
    nowhere : Nothing ≡ Some item → ⊥
    nowhere is = cc
in_parts f (first ∷ values) zero item at c within = inl (subst (λ (v : Value). IsTupleIn c (f v)) (sym (same_Some first item at)) within)
in_parts f (first ∷ values) (suc i) item at c within = inr (in_parts f values i item at c within)

-- lists that keep their items and do not grow are the same
keeps_same : {A : Type 0} (xs ys : List A) → Keeps xs ys → length ys ≤ length xs → ys ≡ xs
keeps_same [] [] keeps few = refl
keeps_same [] (y ∷ ys) keeps few = absurd (omega (arith, few))
keeps_same (x ∷ xs) [] keeps few = absurd (none_kept (keeps 0 x refl))
  where
    none_kept : Nothing ≡ Some x → ⊥
    none_kept is = cc
keeps_same (x ∷ xs) (y ∷ ys) keeps few = ap (λ z. z ∷ ys) (same_Some y x (keeps 0 x refl)) ∙ ap (λ zs. x ∷ zs) (keeps_same xs ys (λ i z at. keeps (suc i) z at) (omega (arith, few)))

-- where the forms are there already, nothing comes
pub nothing_new : (old new : ValuesView) (P : Contents → Type 0) → AreInterned old → AreInterned new → new.texts ≡ old.texts → Keeps old.tuples new.tuples → AddsOnly old new P
    → ((c : Contents) → P c → HasForm old c) → new ≡ old
nothing_new old new P before after texts tuples only there = same_views new old texts (keeps_same old.tuples new.tuples tuples (⊎_elim more (λ few. few) (cases_lt (length old.tuples) (length new.tuples))))
  where
    more : length old.tuples < length new.tuples → length new.tuples ≤ length old.tuples
    more grown =
        let found = only (length old.tuples) (omega arith) grown in
        let form = there found.0 found.1.0 in
        let stays = contents_stay old new before (same_keeps old.texts new.texts texts) tuples (Tuple form.0) form.1.0 in
        let same = same_contents new after (Tuple form.0) (Tuple (length old.tuples)) (omega (arith, form.1.0, grown)) grown (stays ∙ form.1.1 ∙ sym found.1.1) in
        absurd (omega (arith, form.1.0, tuple_same form.0 (length old.tuples) same))
      where
        tuple_same : (m n : ℕ) → Tuple m ≡ Tuple n → m ≡ n
        tuple_same m n is = cc

-- the steps of the three functions that find forms
pub only_parts : (old mid : ValuesView) (id : ℕ) (items : List Value) → AreInterned old → slice_get old.tuples id ≡ Some items → AddsOnly old mid (λ c. IsTupleInParts c (parts_by (contents old) items))
    → AddsOnly old mid (λ c. IsTupleIn c (contents old (Tuple id)))
only_parts old mid id items interned at only = only_more old mid (λ c. IsTupleInParts c (parts_by (contents old) items)) (λ c. IsTupleIn c (contents old (Tuple id))) (in_whole old interned id items at) only

pub only_whole : (old mid new : ValuesView) (id number : ℕ) (items forms : List Value) → AreInterned old → AreInterned mid → AreInterned new → slice_get old.tuples id ≡ Some items → new.texts ≡ mid.texts
    → Keeps mid.tuples new.tuples → AddsOnly old mid (λ c. IsTupleInParts c (parts_by (contents old) items)) → Adds mid.tuples new.tuples forms → slice_get new.tuples number ≡ Some forms
    → contents new (Tuple number) ≡ normal (contents old (Tuple id)) → AddsOnly old new (λ c. IsTupleIn c (contents old (Tuple id)))
only_whole old mid new id number items forms before between after at texts tuples only adds there is =
    only_then old mid new (λ c. IsTupleIn c (contents old (Tuple id))) between (same_keeps mid.texts new.texts texts) tuples
    (only_parts old mid id items before at only)
    (only_put mid new number forms (contents old (Tuple id)) (λ c. IsTupleIn c (contents old (Tuple id))) (is_whole old before id items at) after adds there is)

pub only_next : (old mid new : ValuesView) (i : ℕ) (values : List Value) → i < length values → AreNamed old values → AreInterned old → AreInterned mid → mid.texts ≡ old.texts → Keeps old.tuples mid.tuples
    → new.texts ≡ mid.texts → Keeps mid.tuples new.tuples → AddsOnly old mid (λ c. IsTupleInParts c (parts_by (contents old) values))
    → AddsOnly mid new (λ c. IsTupleIn c (contents mid (get_or values i Nought))) → AddsOnly old new (λ c. IsTupleInParts c (parts_by (contents old) values))
only_next old mid new i values within named before between texts tuples texts_new tuples_new first second =
    let at = slice_get-get_or values i Nought within in
    let stays = contents_stay old mid before (same_keeps old.texts mid.texts texts) tuples (get_or values i Nought) (named i (get_or values i Nought) at) in
    only_then old mid new (λ c. IsTupleInParts c (parts_by (contents old) values)) between (same_keeps mid.texts new.texts texts_new) tuples_new first
    (only_more mid new (λ c. IsTupleIn c (contents mid (get_or values i Nought))) (λ c. IsTupleInParts c (parts_by (contents old) values))
    (λ c here. in_parts (contents old) values i (get_or values i Nought) at c (subst (IsTupleIn c) stays here)) second)
