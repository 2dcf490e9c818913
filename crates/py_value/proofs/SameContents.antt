-- Values of one run have equal contents exactly where they are the same value.
use Rattle.std.proofs.lemmas.Option.{slice_get_within}
use Rattle.std.proofs.Common.{◌≡◌, ℕ, zero, suc, ◌<◌, ◌≤◌, List, [], ◌∷◌, length, slice_get, unwrap_or, Some, refl, sym, ap, ◌∙◌, arith}
use Rattle.std.proofs.lemmas.Option.{slice_get-get_or, slice_get_within}
use Rattle.py_value.proofs.Interning.{below_more}
use Rattle.py_value.specs.declared.value.Value.{Value}
use Rattle.py_value.specs.declared.value.Value.TheVariants.{None as Nothing, Bool as Truth, Int, Text, Tuple, Range, Fn, Class, Exc, Builtin, Object}
use Rattle.py_value.specs.Values.{ValuesView, AreInterned, IsBelow, AreBelow, IsNamed, Keeps}
use Rattle.py_value.specs.Contents.{Contents, Parts, nothing, text, tuple, no_parts, part, parts_by, contents_to, contents}

abbrev pub bytes_of : Contents → List ℕ
bytes_of (text bytes) = bytes
bytes_of other = []

abbrev pub parts_of : Contents → Parts
parts_of (tuple parts) = parts
parts_of other = no_parts

pub item_at : {A : Type 0} (xs : List (List A)) (i : ℕ) → i < length xs → (ys : List A) × (slice_get xs i ≡ Some ys) × (unwrap_or (slice_get xs i) [] ≡ ys)
item_at [] i within = absurd (omega (arith, within))
item_at (x ∷ xs) zero within = (x, refl, refl)
item_at (x ∷ xs) (suc i) within = item_at xs i (omega (arith, within))

abbrev pub first_of : Contents → Parts → Contents
first_of other no_parts = other
first_of other (part first rest) = first

abbrev pub rest_of : Parts → Parts
rest_of no_parts = no_parts
rest_of (part first rest) = rest

cons_same : {A : Type 0} (v w : A) (vs ws : List A) → v ≡ w → vs ≡ ws → (v ∷ vs) ≡ (w ∷ ws)
cons_same v w vs ws one more = ap (λ x. x ∷ vs) one ∙ ap (λ xs. w ∷ xs) more

module _ (view : ValuesView) (interned : AreInterned view) where
  -- each value of the list, paired with one of the other
  same_lists : (n : ℕ) → ((v w : Value) → IsBelow (length view.texts) n v → IsBelow (length view.texts) n w → contents_to n view v ≡ contents_to n view w → v ≡ w)
      → (vs ws : List Value) → AreBelow (length view.texts) n vs → AreBelow (length view.texts) n ws → parts_by (contents_to n view) vs ≡ parts_by (contents_to n view) ws → vs ≡ ws
  same_lists n same [] [] a b is = refl
  same_lists n same [] (w ∷ ws) a b is = cc
  same_lists n same (v ∷ vs) [] a b is = cc
  same_lists n same (v ∷ vs) (w ∷ ws) a b is = cons_same v w vs ws
      (same v w (a 0 v refl) (b 0 w refl) (ap (first_of nothing) is))
      (same_lists n same vs ws (λ i item at. a (suc i) item at) (λ i item at. b (suc i) item at) (ap rest_of is))

  -- the values, of which tuples have numbers below n
  same_to : (n : ℕ) → n ≤ length view.tuples → (v w : Value) → IsBelow (length view.texts) n v → IsBelow (length view.texts) n w → contents_to n view v ≡ contents_to n view w → v ≡ w
  same_to n few Nothing Nothing a b is = refl
  same_to n few (Truth t) (Truth u) a b is = cc
  same_to n few (Int k) (Int l) a b is = cc
  same_to n few (Range start end step) (Range begin stop other) a b is = cc
  same_to n few (Fn place) (Fn other) a b is = cc
  same_to n few (Class place) (Class other) a b is = cc
  same_to n few (Exc number) (Exc other) a b is = cc
  same_to n few (Builtin number) (Builtin other) a b is = cc
  same_to n few (Object name) (Object other) a b is = cc
  same_to n few (Text i) (Text j) a b is =
      let x = item_at view.texts i a in
      let y = item_at view.texts j b in
      let same : x.0 ≡ y.0 = sym x.2 ∙ ap bytes_of is ∙ y.2 in
      ap Text (interned.texts_once i j x.0 x.1 (y.1 ∙ ap Some (sym same)))
  same_to zero few (Tuple i) w a b is = absurd (omega (arith, a))
  same_to zero few v (Tuple i) a b is = absurd (omega (arith, b))
  same_to (suc n) few (Tuple i) (Tuple j) a b is =
      let x = item_at view.tuples i (omega (arith, a, few)) in
      let y = item_at view.tuples j (omega (arith, b, few)) in
      let below_i : AreBelow (length view.texts) n x.0 = λ k item at. below_more (length view.texts) i (length view.texts) n item (omega arith) (omega (arith, a)) (interned.parts i x.0 x.1 k item at) in
      let below_j : AreBelow (length view.texts) n y.0 = λ k item at. below_more (length view.texts) j (length view.texts) n item (omega arith) (omega (arith, b)) (interned.parts j y.0 y.1 k item at) in
      let same : x.0 ≡ y.0 = same_lists n (same_to n (omega (arith, few))) x.0 y.0 below_i below_j (ap (parts_by (contents_to n view)) (sym x.2) ∙ ap parts_of is ∙ ap (parts_by (contents_to n view)) y.2) in
      ap Tuple (interned.tuples_once i j x.0 x.1 (y.1 ∙ ap Some (sym same)))
  same_to n few v w a b is = cc

  -- values with equal contents are the same value
  pub same_contents : (v w : Value) → IsNamed view v → IsNamed view w → contents view v ≡ contents view w → v ≡ w
  same_contents v w a b is = same_to (length view.tuples) (omega arith) v w a b is

pub keeps_length : {A : Type 0} (xs ys : List A) → Keeps xs ys → length xs ≤ length ys
keeps_length [] ys keeps = omega arith
keeps_length (x ∷ xs) ys keeps =
    let last = slice_get-get_or (x ∷ xs) (length xs) x (omega arith) in
    let within = slice_get_within ys (length xs) _ (keeps (length xs) _ last) in
    omega (arith, within)

module _ (old new : ValuesView) (interned : AreInterned old) (texts : Keeps old.texts new.texts) (tuples : Keeps old.tuples new.tuples) where
  pub stay_lists : (m n i : ℕ) → ((v : Value) → IsBelow (length old.texts) i v → contents_to n new v ≡ contents_to m old v)
      → (vs : List Value) → AreBelow (length old.texts) i vs → parts_by (contents_to n new) vs ≡ parts_by (contents_to m old) vs
  stay_lists m n i stay [] below = refl
  stay_lists m n i stay (v ∷ vs) below =
      ap (λ first. part first (parts_by (contents_to n new) vs)) (stay v (below 0 v refl))
      ∙ ap (part (contents_to m old v)) (stay_lists m n i stay vs (λ k item at. below (suc k) item at))

  -- the contents of a value, whose tuples have numbers below both
  pub stay_to : (m n : ℕ) (v : Value) → IsNamed old v → IsBelow (length old.texts) m v → IsBelow (length old.texts) n v → contents_to n new v ≡ contents_to m old v
  stay_to m n (Text i) named a b =
      let x = item_at old.texts i named in
      ap (λ found. text (unwrap_or found [])) (texts i x.0 x.1 ∙ sym x.1)
  stay_to zero n (Tuple i) named a b = absurd (omega (arith, a))
  stay_to (suc m) zero (Tuple i) named a b = absurd (omega (arith, b))
  stay_to (suc m) (suc n) (Tuple i) named a b =
      let x = item_at old.tuples i named in
      ap (λ found. tuple (parts_by (contents_to n new) (unwrap_or found []))) (tuples i x.0 x.1)
      ∙ ap tuple (stay_lists m n i (λ v is. stay_to m n v
      (below_more (length old.texts) i (length old.texts) (length old.tuples) v (omega arith) (omega (arith, named)) is)
      (below_more (length old.texts) i (length old.texts) m v (omega arith) (omega (arith, a)) is)
      (below_more (length old.texts) i (length old.texts) n v (omega arith) (omega (arith, b)) is)) x.0 (interned.parts i x.0 x.1))
      ∙ ap (λ found. tuple (parts_by (contents_to m old) (unwrap_or found []))) (sym x.1)
  stay_to m n Nothing named a b = refl
  stay_to m n (Truth t) named a b = refl
  stay_to m n (Int k) named a b = refl
  stay_to m n (Range start end step) named a b = refl
  stay_to m n (Fn place) named a b = refl
  stay_to m n (Class place) named a b = refl
  stay_to m n (Exc number) named a b = refl
  stay_to m n (Builtin number) named a b = refl
  stay_to m n (Object object) named a b = refl

  -- what has texts and tuples keeps its contents
  pub contents_stay : (v : Value) → IsNamed old v → contents new v ≡ contents old v
  contents_stay v named = let more = keeps_length old.tuples new.tuples tuples in stay_to (length old.tuples) (length new.tuples) v named named (below_more (length old.texts) (length old.tuples) (length old.texts) (length new.tuples) v (omega arith) more named)

-- a tuple is the tuple of its parts
pub tuple_parts : (view : ValuesView) → AreInterned view → (id : ℕ) (items : List Value) → slice_get view.tuples id ≡ Some items
    → contents view (Tuple id) ≡ tuple (parts_by (contents view) items)
tuple_parts view interned id items is = at_level (length view.tuples) refl
  where
    named : id < length view.tuples
    named = slice_get_within view.tuples id items is

    at_level : (n : ℕ) → length view.tuples ≡ n → contents_to n view (Tuple id) ≡ tuple (parts_by (contents_to n view) items)
    at_level zero none = absurd (omega (arith, named, none))
    at_level (suc m) some =
        ap (λ found. tuple (parts_by (contents_to m view) (unwrap_or found []))) is
        ∙ ap tuple (stay_lists view view interned (λ i x at. at) (λ i x at. at) (suc m) m id
        (λ v below. stay_to view view interned (λ i x at. at) (λ i x at. at) (suc m) m v
        (below_more (length view.texts) id (length view.texts) (length view.tuples) v (omega arith) (omega (arith, named)) below)
        (below_more (length view.texts) id (length view.texts) (suc m) v (omega arith) (omega (arith, named, some)) below)
        (below_more (length view.texts) id (length view.texts) m v (omega arith) (omega (arith, named, some)) below)) items (interned.parts id items is))
