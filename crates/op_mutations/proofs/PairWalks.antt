-- The pairs of a display, one after the other.
use Rattle.std.proofs.Common.{◌≡◌, ◌∙◌, refl, sym, ap, arith, ℕ, ◌+◌, ◌*◌, ◌/◌, ◌%◌, ◌<◌, ◌≤◌, length, Bool, true, false, List, [], ◌∷◌, drop, slice_index_or, if◌then◌else◌, ◌↔◌}
use Rattle.std.proofs.Math.Path.{fun_ext}
use Rattle.op_mutations.specs.declared.pairs.Pair.{Pair}
use Rattle.op_mutations.specs.Pairs.{ArePairs, pair_seen, pairs_seen, has_key, with_value, pairs_behind}
use Rattle.op_lists.proofs.Writing.{drop_next, drop_all}
use Rattle.op_lists.specs.ValuesSeen.{values_seen}
use Rattle.op_work.specs.Entries.{IsKeyOf}
use Rattle.op_work.specs.Work.{Plans}
use Rattle.py_model.specs.Dicts.{with_pair, with_pairs, new_dict}
use Rattle.py_model.specs.Faults.{wrong_number}
use Rattle.py_model.specs.Keys.{with_key_of}
use Rattle.py_model.specs.Plan.{Plan}
use Rattle.py_value.specs.Contents.{Contents, contents}
use Rattle.py_value.specs.KeyOf.{IsNormalOf, normal}
use Rattle.py_value.specs.Same.{same_value}
use Rattle.py_value.specs.Values.{ValuesView, AreInterned, IsNamed}
use Rattle.py_value.specs.contracts.value.ValuePartialEq.TheImpl.{ghosts as values_eq}
use Rattle.py_value.specs.declared.key.Key.{Key}
use Rattle.py_value.specs.declared.value.Value.{Value}
use Rattle.py_value.specs.declared.value.Value.TheVariants.{None as NoneValue}

-- the plan of a display goes on with its pairs
pub display_is : (items : List Contents) (pairs : List (Contents × Contents)) → with_pairs items pairs ≡ pairs_behind items pairs new_dict
display_is [] pairs = refl
display_is (key ∷ []) pairs = refl
display_is (key ∷ (item ∷ rest)) pairs = ap (with_key_of key) (fun_ext (λ k. display_is rest (with_pair k item pairs)))

-- pairs stay pairs with one more
if_pairs : (values : ValuesView) (b : Bool) (ps qs : List Pair) → ArePairs values ps → ArePairs values qs → ArePairs values (if b then ps else qs)
if_pairs values true ps qs one other = one
if_pairs values false ps qs one other = other

pub put_are : (values : ValuesView) (key : Key) (first item : Value) → IsKeyOf first values key → IsNamed values item → (ps : List Pair) → ArePairs values ps → ArePairs values (with_value key first item ps)
put_are values key first item is named [] are = ((is, named), tt)
put_are values key first item is named (p ∷ ps) are = if_pairs values (has_key key p) (record p { item = item } ∷ ps) (p ∷ with_value key first item ps)
    ((are.0.0, named), are.1) (are.0, put_are values key first item is named ps are.1)

-- the laws of the values
pub record ValueLaws (table : ValuesView) : Type 0 where
  pub same_values : (v w : Value) → (values_eq.eq v w ≡ true) ↔ (v ≡ w)
  pub same_tests : (v w : Contents) → (same_value v w ≡ true) ↔ (v ≡ w)
  pub same_keys : (v w k l : Value) → IsNormalOf table table v k → IsNormalOf table table w l → (k ≡ l) ↔ (normal (contents table v) ≡ normal (contents table w))

pub laws : ((v w : Value) → (values_eq.eq v w ≡ true) ↔ (v ≡ w)) → ((v w : Contents) → (same_value v w ≡ true) ↔ (v ≡ w))
    → ((view : ValuesView) (v w k l : Value) → AreInterned view → IsNormalOf view view v k → IsNormalOf view view w l → (k ≡ l) ↔ (normal (contents view v) ≡ normal (contents view w)))
    → (table : ValuesView) → AreInterned table → ValueLaws table
laws values tests keys table interned = record { same_values = values; same_tests = tests; same_keys = λ v w k l one other. keys table v w k l interned one other }

same_bool : (a b : Bool) → (a ≡ true → b ≡ true) → (b ≡ true → a ≡ true) → a ≡ b
same_bool true true one other = refl
same_bool true false one other = sym (one refl)
same_bool false true one other = other refl
same_bool false false one other = refl

module _ {table : ValuesView} (laws : ValueLaws table) (key : Key) (first item : Value) (is : IsKeyOf first table key) where
  test_is : (p : Pair) → IsKeyOf p.first table p.key → same_value (normal (contents table first)) (normal (contents table p.first)) ≡ has_key key p
  test_is p own = same_bool (same_value (normal (contents table first)) (normal (contents table p.first))) (has_key key p)
      (λ yes. (laws.same_values p.key.value key.value).1 ((laws.same_keys p.first first p.key.value key.value own.1 is.1).1 (sym ((laws.same_tests (normal (contents table first)) (normal (contents table p.first))).0 yes))))
      (λ yes. (laws.same_tests (normal (contents table first)) (normal (contents table p.first))).1 (sym ((laws.same_keys p.first first p.key.value key.value own.1 is.1).0 ((laws.same_values p.key.value key.value).0 yes))))

  by_test : (b : Bool) (p : Pair) (ps : List Pair) (rest : List (Contents × Contents)) → rest ≡ pairs_seen table (with_value key first item ps)
      → (if b then (contents table p.first, contents table item) ∷ pairs_seen table ps else pair_seen table p ∷ rest)
      ≡ pairs_seen table (if b then record p { item = item } ∷ ps else p ∷ with_value key first item ps)
  by_test true p ps rest same = refl
  by_test false p ps rest same = ap (λ qs. pair_seen table p ∷ qs) same

  pub put_seen : (ps : List Pair) → ArePairs table ps → with_pair (contents table first) (contents table item) (pairs_seen table ps) ≡ pairs_seen table (with_value key first item ps)
  put_seen [] are = refl
  put_seen (p ∷ ps) are =
      ap (λ b. if b then (contents table p.first, contents table item) ∷ pairs_seen table ps else pair_seen table p ∷ with_pair (contents table first) (contents table item) (pairs_seen table ps)) (test_is p are.0.0)
      ∙ by_test (has_key key p) p ps (with_pair (contents table first) (contents table item) (pairs_seen table ps)) (put_seen ps are.1)

-- what is left of a display behind so many pairs, and behind the next key
abbrev pub left : List Value → ℕ → List Pair → Plans (List (Contents × Contents))
left ops i ps table go = pairs_behind (values_seen table (drop (2 * i) ops)) (pairs_seen table ps) go

abbrev pub next : List Value → ℕ → List Pair → ValuesView → Contents → (List (Contents × Contents) → Plan) → Plan
next ops i ps table k go = pairs_behind (values_seen table (drop (2 * (i + 1)) ops)) (with_pair k (contents table (slice_index_or ops (2 * i + 1) NoneValue)) (pairs_seen table ps)) go

two_more : (ops : List Value) (k : ℕ) → k + 1 < length ops → drop k ops ≡ slice_index_or ops k NoneValue ∷ (slice_index_or ops (k + 1) NoneValue ∷ drop (k + 2) ops)
two_more ops k less = drop_next ops k (omega (arith, less)) ∙ ap (λ rest. slice_index_or ops k NoneValue ∷ rest) (drop_next ops (k + 1) less
    ∙ ap (λ n. slice_index_or ops (k + 1) NoneValue ∷ drop n ops) (two k))
  where
    two : (k : ℕ) → k + 1 + 1 ≡ k + 2
    two k = omega (arith)

there : (i n : ℕ) → i < n / 2 → 2 * i + 1 < n
there i n less = omega (arith, less)

pub key_there : (i n : ℕ) → i < n / 2 → 2 * i < n
key_there i n less = omega (arith, less)

pub item_there : (i n : ℕ) → i < n / 2 → 2 * i + 1 < n
item_there i n less = there i n less

pub left_is : (ops : List Value) (i : ℕ) (ps : List Pair) → i < length ops / 2 → (table : ValuesView) (go : List (Contents × Contents) → Plan)
    → left ops i ps table go ≡ with_key_of (contents table (slice_index_or ops (2 * i) NoneValue)) (λ k. next ops i ps table k go)
left_is ops i ps less table go = ap (λ vs. pairs_behind (values_seen table vs) (pairs_seen table ps) go) (two_more ops (2 * i) (there i (length ops) less))
    ∙ ap (λ n. with_key_of (contents table (slice_index_or ops (2 * i) NoneValue)) (λ k. pairs_behind (values_seen table (drop n ops)) (with_pair k (contents table (slice_index_or ops (2 * i + 1) NoneValue)) (pairs_seen table ps)) go)) (two i)
  where
    two : (i : ℕ) → 2 * i + 2 ≡ 2 * (i + 1)
    two i = omega (arith)

-- behind the last pair
pub left_none : (ops : List Value) (i : ℕ) (ps : List Pair) → length ops / 2 ≤ i → length ops % 2 ≡ 0 → (table : ValuesView) (go : List (Contents × Contents) → Plan)
    → left ops i ps table go ≡ go (pairs_seen table ps)
left_none ops i ps past even table go = ap (λ vs. pairs_behind (values_seen table vs) (pairs_seen table ps) go) (drop_all ops (2 * i) (all i (length ops) past even))
  where
    all : (i n : ℕ) → n / 2 ≤ i → n % 2 ≡ 0 → n ≤ 2 * i
    all i n past even = omega (arith, past, even)

pub left_odd : (ops : List Value) (i : ℕ) (ps : List Pair) → length ops / 2 ≤ i → i ≤ length ops / 2 → (length ops % 2 ≡ 0 → ⊥) → (table : ValuesView) (go : List (Contents × Contents) → Plan)
    → left ops i ps table go ≡ wrong_number
left_odd ops i ps past within odd table go = ap (λ vs. pairs_behind (values_seen table vs) (pairs_seen table ps) go) (one_left ops (2 * i) (one i (length ops) past within odd))
  where
    one : (i n : ℕ) → n / 2 ≤ i → i ≤ n / 2 → (n % 2 ≡ 0 → ⊥) → n ≡ 2 * i + 1
    one i n past within odd = omega (arith, past, within, odd)

    one_left : (ops : List Value) (k : ℕ) → length ops ≡ k + 1 → drop k ops ≡ slice_index_or ops k NoneValue ∷ []
    one_left ops k is = drop_next ops k (omega (arith, is)) ∙ ap (λ rest. slice_index_or ops k NoneValue ∷ rest) (drop_all ops (k + 1) (omega (arith, is)))
