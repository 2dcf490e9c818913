-- What stands in a list once locations are set.
use Rattle.std.proofs.Common.{◌≡◌, ◌<◌, ◌≤◌, ℕ, zero, suc, ◌+◌, ◌-◌, Bool, true, false, ◌&&◌, ◌==◌, if◌then◌else◌, List, [], ◌∷◌, ◌++◌, length, slice_get, take, drop, Option, Some, None, refl, sym, ap, subst, ◌∙◌, arith, eqb-true, eq-eqb}
use Rattle.std.proofs.lemmas.List.{length-append, length-drop, length-take-le}
use Rattle.py_value.specs.Contents.{Contents}
use Rattle.py_value.specs.Same.{same_location, put}
use Rattle.py_value.specs.Seen.{SeenLocation, SeenContent, SeenKind, a_list, item_at, len_at, item_is, len_is}
use Rattle.py_model.specs.Store.{RunStore, len_of, item_of}
use Rattle.model_laws.specs.Reading.{Stand, IsList, is_of}
use Rattle.model_laws.specs.TableLists.{item_in, without}

abbrev pub set : SeenLocation → SeenContent → RunStore → RunStore
set l c s = record s { at = put l c s.at }

-- these items are set, from a place on
abbrev pub block : ℕ → ℕ → List Contents → RunStore → RunStore
block o i [] s = s
block o i (item ∷ items) s = block o (suc i) items (set (item_at o i) (item_is item) s)

and_false : (b : Bool) → (b && false) ≡ false
and_false true = refl
and_false false = refl

not_equal : (k j : ℕ) → (k ≡ j → ⊥) → (k == j) ≡ false
not_equal k j differ = by_test (k == j) refl
  where
    by_test : (b : Bool) → (k == j) ≡ b → (k == j) ≡ false
    by_test true is = absurd (differ (eqb-true k j is))
    by_test false is = is

pub other_place : (o k j : ℕ) → (k ≡ j → ⊥) → same_location (item_at o k) (item_at o j) ≡ false
other_place o k j differ = ap (λ b. (o == o) && b) (not_equal k j differ) ∙ and_false (o == o)

pub same_place : (o k : ℕ) → same_location (item_at o k) (item_at o k) ≡ true
same_place o k = ap (λ b. b && (k == k)) (eq-eqb o o refl) ∙ eq-eqb k k refl

pub other_object : (o i : ℕ) (l : SeenLocation) → is_of o l ≡ false → same_location (item_at o i) l ≡ false
other_object o i (item_at p j) apart = ap (λ b. b && (i == j)) apart
other_object o i l apart = refl

-- what is read at a place
abbrev found : Option SeenContent → Option Contents
found (Some (item_is item)) = Some item
found other = None

pub set_elsewhere : (l m : SeenLocation) (c : SeenContent) (s : RunStore) → same_location l m ≡ false → (set l c s).at m ≡ s.at m
set_elsewhere l m c s apart = ap (λ b. if b then Some c else s.at m) apart

pub block_elsewhere : (o i : ℕ) (items : List Contents) (s : RunStore) (l : SeenLocation)
    → ((k : ℕ) → i ≤ k → same_location (item_at o k) l ≡ false) → (block o i items s).at l ≡ s.at l
block_elsewhere o i [] s l apart = refl
block_elsewhere o i (item ∷ items) s l apart =
    block_elsewhere o (suc i) items (set (item_at o i) (item_is item) s) l (λ k later. apart k (omega (arith, later)))
    ∙ set_elsewhere (item_at o i) l (item_is item) s (apart i (omega arith))

pub block_kinds : (o i : ℕ) (items : List Contents) (s : RunStore) → (block o i items s).kinds ≡ s.kinds
block_kinds o i [] s = refl
block_kinds o i (item ∷ items) s = block_kinds o (suc i) items (set (item_at o i) (item_is item) s)

-- items that are not set stay
pub stand_kept : (s t : RunStore) (o i : ℕ) (items : List Contents)
    → ((k : ℕ) → i ≤ k → k < i + length items → t.at (item_at o k) ≡ s.at (item_at o k)) → Stand s o i items → Stand t o i items
stand_kept s t o i [] kept stand = tt
stand_kept s t o i (item ∷ items) kept stand =
    (ap found (kept i (omega arith) (omega arith)) ∙ stand.0, stand_kept s t o (suc i) items (λ k from below. kept k (omega (arith, from)) (omega (arith, below))) stand.1)

pub stand_set : (s : RunStore) (o i : ℕ) (item : Contents) → item_of (set (item_at o i) (item_is item) s) o i ≡ Some item
stand_set s o i item = ap (λ b. found (if b then Some (item_is item) else s.at (item_at o i))) (same_place o i)

-- the items that are set stand there
pub block_stands : (o i : ℕ) (items : List Contents) (s : RunStore) → Stand (block o i items s) o i items
block_stands o i [] s = tt
block_stands o i (item ∷ items) s =
    let next = set (item_at o i) (item_is item) s in
    (ap found (block_elsewhere o (suc i) items next (item_at o i) (λ k later. other_place o k i (λ is. omega (arith, later, is)))) ∙ stand_set s o i item, block_stands o (suc i) items next)

-- items before and behind
pub stand_joined : (s : RunStore) (o i : ℕ) (xs ys : List Contents) → Stand s o i xs → Stand s o (i + length xs) ys → Stand s o i (xs ++ ys)
stand_joined s o i [] ys front back = subst (λ k. Stand s o k ys) (omega arith) back
stand_joined s o i (x ∷ xs) ys front back = (front.0, stand_joined s o (suc i) xs ys front.1 (subst (λ k. Stand s o k ys) (omega arith) back))

pub stand_taken : (s : RunStore) (o i n : ℕ) (xs : List Contents) → Stand s o i xs → Stand s o i (take n xs)
stand_taken s o i zero xs stand = tt
stand_taken s o i (suc n) [] stand = tt
stand_taken s o i (suc n) (x ∷ xs) stand = (stand.0, stand_taken s o (suc i) n xs stand.1)

pub stand_dropped : (s : RunStore) (o i n : ℕ) (xs : List Contents) → Stand s o i xs → Stand s o (i + n) (drop n xs)
stand_dropped s o i zero xs stand = subst (λ k. Stand s o k xs) (omega arith) stand
stand_dropped s o i (suc n) [] stand = tt
stand_dropped s o i (suc n) (x ∷ xs) stand = subst (λ k. Stand s o k (drop n xs)) (omega arith) (stand_dropped s o (suc i) n xs stand.1)

pub stand_at : (s : RunStore) (o i p : ℕ) (xs : List Contents) → Stand s o i xs → p < length xs → item_of s o (i + p) ≡ Some (item_in xs p)
stand_at s o i p [] stand below = absurd (omega (arith, below))
stand_at s o i zero (x ∷ xs) stand below = subst (λ k. item_of s o k ≡ Some x) (omega arith) stand.0
stand_at s o i (suc p) (x ∷ xs) stand below = subst (λ k. item_of s o k ≡ Some (item_in xs p)) (omega arith) (stand_at s o (suc i) p xs stand.1 (omega (arith, below)))

-- what a length is once it is set
abbrev pub length_in : Option SeenContent → ℕ
length_in (Some (len_is n)) = n
length_in other = 0

pub length_set : (s : RunStore) (o n : ℕ) → len_of (set (len_at o) (len_is n) s) o ≡ n
length_set s o n = ap (λ b. length_in (if b then Some (len_is n) else s.at (len_at o))) (eq-eqb o o refl)

pub other_length : (o : ℕ) (l : SeenLocation) → is_of o l ≡ false → same_location (len_at o) l ≡ false
other_length o (len_at p) apart = apart
other_length o l apart = refl

-- A list is cut after some of its items, other items are set behind these, and the length is set.
module _ (s : RunStore) (o : ℕ) (xs ys : List Contents) (stand : Stand s o 0 xs) where
  pub front_kept : (p : ℕ) → length xs ≤ p → Stand (block o p ys s) o 0 xs
  front_kept p is = stand_kept s (block o p ys s) o 0 xs
      (λ k from below. block_elsewhere o p ys s (item_at o k) (λ j later. other_place o j k (λ same. omega (arith, below, later, same, is)))) stand

  pub blocked : (p : ℕ) → p ≡ length xs → Stand (block o p ys s) o 0 (xs ++ ys)
  blocked p is = stand_joined (block o p ys s) o 0 xs ys (front_kept p (omega (arith, is))) (subst (λ k. Stand (block o p ys s) o k ys) (omega (arith, is)) (block_stands o p ys s))

pub with_length : (s : RunStore) (o n : ℕ) (xs : List Contents) → slice_get s.kinds o ≡ Some a_list → n ≡ length xs → Stand s o 0 xs → IsList (set (len_at o) (len_is n) s) o xs
with_length s o n xs kind is stand = record {
  kind_is = kind;
  length_is = length_set s o n ∙ is;
  items_stand = stand_kept s (set (len_at o) (len_is n) s) o 0 xs (λ k from below. refl) stand;
}

-- an item is put at a place, before items that stand behind it
pub stand_put : (s : RunStore) (o p : ℕ) (xs ys : List Contents) (item : Contents) → p ≡ length xs → Stand s o 0 xs → Stand s o (suc p) ys
    → Stand (set (item_at o p) (item_is item) s) o 0 (xs ++ item ∷ ys)
stand_put s o p xs ys item is front back =
    let t = set (item_at o p) (item_is item) s in
    stand_joined t o 0 xs (item ∷ ys)
    (stand_kept s t o 0 xs (λ k from below. set_elsewhere (item_at o p) (item_at o k) (item_is item) s (other_place o p k (λ same. omega (arith, below, same, is)))) front)
    (subst (λ k. Stand t o k (item ∷ ys)) (omega (arith, is))
    (stand_set s o p item, stand_kept s t o (suc p) ys (λ k from below. set_elsewhere (item_at o p) (item_at o k) (item_is item) s (other_place o p k (λ same. omega (arith, from, same)))) back))

-- the items before a place, and without or with another one there
pub taken_length : (p : ℕ) (xs : List Contents) → p ≤ length xs → p ≡ length (take p xs)
taken_length p xs below = sym (length-take-le p xs below)

pub length_without : (p : ℕ) (xs : List Contents) → p < length xs → length xs - 1 ≡ length (without p xs)
length_without p xs below =
    omega (arith, below, length-append (take p xs) (drop (suc p) xs), length-take-le p xs (omega (arith, below)), length-drop (suc p) xs)

pub length_exchanged : (p : ℕ) (xs : List Contents) (item : Contents) → p < length xs → length xs ≡ length (take p xs ++ item ∷ drop (suc p) xs)
length_exchanged p xs item below =
    omega (arith, below, length-append (take p xs) (item ∷ drop (suc p) xs), length-take-le p xs (omega (arith, below)), length-drop (suc p) xs)

pub length_inserted : (p : ℕ) (xs : List Contents) (item : Contents) → p ≤ length xs → suc (length xs) ≡ length (take p xs ++ item ∷ drop p xs)
length_inserted p xs item below =
    omega (arith, below, length-append (take p xs) (item ∷ drop p xs), length-take-le p xs below, length-drop p xs)

pub block_apart : (o i : ℕ) (items : List Contents) (s : RunStore) (l : SeenLocation) → is_of o l ≡ false → (block o i items s).at l ≡ s.at l
block_apart o i items s l apart = block_elsewhere o i items s l (λ k later. other_object o k l apart)

pub length_apart : (s : RunStore) (o n : ℕ) (l : SeenLocation) → is_of o l ≡ false → (set (len_at o) (len_is n) s).at l ≡ s.at l
length_apart s o n l apart = set_elsewhere (len_at o) l (len_is n) s (other_length o l apart)

pub item_apart : (s : RunStore) (o p : ℕ) (item : Contents) (l : SeenLocation) → is_of o l ≡ false → (set (item_at o p) (item_is item) s).at l ≡ s.at l
item_apart s o p item l apart = set_elsewhere (item_at o p) l (item_is item) s (other_object o p l apart)

-- all items are set, and the length stays
pub with_items : (s : RunStore) (o : ℕ) (xs ys : List Contents) → IsList s o xs → length ys ≡ length xs → IsList (block o 0 ys s) o ys
with_items s o xs ys listed same = record {
  kind_is = ap (λ (kinds : List SeenKind). slice_get kinds o) (block_kinds o 0 ys s) ∙ listed.kind_is;
  length_is = ap length_in (block_elsewhere o 0 ys s (len_at o) (λ k later. refl)) ∙ listed.length_is ∙ sym same;
  items_stand = block_stands o 0 ys s;
}

-- besides the map nothing changes
pub block_rest : (o i : ℕ) (items : List Contents) (s : RunStore) → block o i items s ≡ record s { at = (block o i items s).at }
block_rest o i [] s = refl
block_rest o i (item ∷ items) s = block_rest o (suc i) items (set (item_at o i) (item_is item) s)

pub only_map : (s t : RunStore) (map : SeenLocation → Option SeenContent) → s ≡ record t { at = s.at } → record s { at = map } ≡ record t { at = map }
only_map s t map is = ap (λ (u : RunStore). record u { at = map }) is
