-- Answers that were sorted: each stands before the next one, and the same are kept.
use Rattle.std.proofs.Common.{◌≡◌, ℕ, suc, zero, ◌+◌, ◌<◌, Bool, true, false, ◌⊎◌, inl, inr, List, [], ◌∷◌, slice_get, get_or, length, Option, Some, None, refl, sym, ap, subst, ⊎_elim, ◌∙◌, true≢false, arith, if◌then◌else◌}
use Rattle.std.specs.List.{IsDistinct, Contains, find}
use Rattle.std.specs.List.Sorted.{IsSorted, IsPermutation}
use Rattle.std.specs.Ordering.{is_lt}
use Rattle.std.proofs.lemmas.List.Sorted.{list_any-IsPermutation, Contains-permutation, IsPermutation-sym}
use Rattle.std.proofs.lemmas.Map.Keys.{apart_from_distinct}
use Rattle.std.proofs.lemmas.Option.{slice_get_within, slice_get-get_or, get_or_from_slice_get}
use Rattle.std.proofs.lemmas.Bool.Decides.{nat_tests}
use Rattle.prov_base.specs.declared.place.Pos.{Pos}
use Rattle.capture.proofs.Lasts.{same_place}
use Rattle.prov_base.specs.contracts.place.PosPartialEq.TheImpl.{ghosts as places}
use Rattle.capture.specs.contracts.answer.AskedOrd.TheImpl.{ghosts as orders}
use Rattle.capture.specs.contracts.answer.AskedPartialEq.TheImpl.{ghosts as tests}
use Rattle.capture.specs.declared.answer.Asked.{Asked}
use Rattle.capture.specs.Answers.{IsEarlier, AreInOrder, AreOnce, IsLast, is_under, answer_at}

pub not_later : (a b : Asked) → is_lt (orders.cmp b a) ≡ false → tests.eq a b ≡ false → IsEarlier a b
not_later a b not_before differs = grind (arith, nat_tests)

pub in_order : (xs : List Asked) → IsSorted orders.cmp xs → IsDistinct tests.eq xs → AreInOrder xs
in_order xs sorted distinct i a b at_i at_next =
    let within : i + 1 < length xs = slice_get_within xs (i + 1) b at_next in
    let a_is : get_or xs i a ≡ a = get_or_from_slice_get xs i a a at_i in
    let b_is : get_or xs (i + 1) a ≡ b = get_or_from_slice_get xs (i + 1) b a at_next in
    not_later a b
    (subst (λ x. is_lt (orders.cmp b x) ≡ false) a_is (subst (λ y. is_lt (orders.cmp y (get_or xs i a)) ≡ false) b_is (sorted i a (omega arith) within)))
    (subst (λ x. tests.eq x b ≡ false) a_is (subst (λ y. tests.eq (get_or xs i a) y ≡ false) b_is (apart_from_distinct tests.eq xs i (i + 1) a distinct (omega arith) within)))

-- the last number at a place stays where answers change their order
pub last_reordered : (xs ys : List Asked) → IsPermutation xs ys → (at : Pos) (last : ℕ) → IsLast xs at last → IsLast ys at last
last_reordered xs ys moved at last is = record {
  none_later = λ k more. sym (list_any-IsPermutation (is_under at k) xs ys moved) ∙ is.none_later k more;
  reached = ⊎_elim inl (λ there. inr (sym (list_any-IsPermutation (is_under at last) xs ys moved) ∙ there)) is.reached;
}

-- the same place and number, so the same key
same_key : (a b : Asked) → a.at ≡ b.at → a.k ≡ b.k → tests.eq a b ≡ true
same_key a b at k = grind (arith, nat_tests, ap (λ (p : Pos). p.line) at, ap (λ (p : Pos). p.col) at)

under_key : (at : Pos) (k : ℕ) (a : Asked) → is_under at k a ≡ true → (at ≡ a.at) × (k ≡ a.k)
under_key at k a is = (same_place at a.at (first is), grind (arith, nat_tests))
  where
    first : is_under at k a ≡ true → places.eq at a.at ≡ true
    first is = grind (arith, nat_tests)

order_of : (i j : ℕ) → (i < j) ⊎ ((j < i) ⊎ (i ≡ j))
order_of i j = grind (arith, nat_tests)

pub once : (xs : List Asked) → IsDistinct tests.eq xs → AreOnce xs
once xs distinct i j a b at_i at_j at k =
    ⊎_elim (λ less. absurd (clash i j a b less at_i at_j (same_key a b at k)))
    (λ rest. ⊎_elim (λ more. absurd (clash j i b a more at_j at_i (same_key b a (sym at) (sym k)))) (λ same. same) rest)
    (order_of i j)
  where
    clash : (i j : ℕ) (a b : Asked) → i < j → slice_get xs i ≡ Some a → slice_get xs j ≡ Some b → tests.eq a b ≡ true → ⊥
    clash i j a b less at_i at_j same =
        let apart = apart_from_distinct tests.eq xs i j a distinct less (slice_get_within xs j b at_j) in
        true≢false (sym same ∙ subst (λ x. tests.eq x b ≡ false) (get_or_from_slice_get xs i a a at_i) (subst (λ y. tests.eq (get_or xs i a) y ≡ false) (get_or_from_slice_get xs j b a at_j) apart))

found_at : (p : Asked → Bool) (xs : List Asked) (a : Asked) → find p xs ≡ Some a → (i : ℕ) × (slice_get xs i ≡ Some a) × (p a ≡ true)
found_at p [] a is = cc
found_at p (x ∷ xs) a is = by (p x) refl is (λ rest. found_at p xs a rest)
  where
    by : (b : Bool) → p x ≡ b → (if b then Some x else find p xs) ≡ Some a → (find p xs ≡ Some a → (i : ℕ) × (slice_get xs i ≡ Some a) × (p a ≡ true)) → (i : ℕ) × (slice_get (x ∷ xs) i ≡ Some a) × (p a ≡ true)
    by true passes is later = let same : x ≡ a = cc in (zero, is, subst (λ y. p y ≡ true) same passes)
    by false fails is later = let rest = later is in (suc rest.0, rest.1, rest.2)

finds : (p : Asked → Bool) (xs : List Asked) (a : Asked) (i : ℕ) → slice_get xs i ≡ Some a → p a ≡ true → find p xs ≡ None → ⊥
finds p [] a i at_i passes none = cc
finds p (x ∷ xs) a zero at_i passes none =
    let same : x ≡ a = cc in
    some≢none x (sym (ap (λ b. if b then Some x else find p xs) (subst (λ y. p y ≡ true) (sym same) passes)) ∙ none)
  where
    some≢none : (y : Asked) → Some y ≡ None → ⊥
    some≢none y is = cc
finds p (x ∷ xs) a (suc i) at_i passes none = by (p x) none (λ rest. finds p xs a i at_i passes rest)
  where
    by : (b : Bool) → (if b then Some x else find p xs) ≡ None → (find p xs ≡ None → ⊥) → ⊥
    by true is later = cc
    by false is later = later is

moved_to : (xs ys : List Asked) → IsPermutation xs ys → (a : Asked) (i : ℕ) → slice_get xs i ≡ Some a → (j : ℕ) × (slice_get ys j ≡ Some a)
moved_to xs ys moved a i at_i =
    let has : Contains ys a = Contains-permutation xs ys a moved (i, slice_get_within xs i a at_i, get_or_from_slice_get xs i a a at_i) in
    (has.0, slice_get-get_or ys has.0 a has.1 ∙ ap Some has.2)

-- what is found by place and number stays where answers change their order
pub found_reordered : (xs ys : List Asked) → IsPermutation xs ys → IsDistinct tests.eq xs → (at : Pos) (k : ℕ) → answer_at ys at k ≡ answer_at xs at k
found_reordered xs ys moved distinct at k = by (answer_at xs at k) (answer_at ys at k) refl refl
  where
    by : (o n : Option Asked) → answer_at xs at k ≡ o → answer_at ys at k ≡ n → n ≡ o
    by None None old new = refl
    by None (Some b) old new =
        let there = found_at (is_under at k) ys b new in
        let back = moved_to ys xs (IsPermutation-sym xs ys moved) b there.0 there.1 in
        absurd (finds (is_under at k) xs b back.0 back.1 there.2 old)
    by (Some a) None old new =
        let there = found_at (is_under at k) xs a old in
        let on = moved_to xs ys moved a there.0 there.1 in
        absurd (finds (is_under at k) ys a on.0 on.1 there.2 new)
    by (Some a) (Some b) old new =
        let first = found_at (is_under at k) xs a old in
        let second = found_at (is_under at k) ys b new in
        let back = moved_to ys xs (IsPermutation-sym xs ys moved) b second.0 second.1 in
        let a_key = under_key at k a first.2 in
        let b_key = under_key at k b second.2 in
        let same : back.0 ≡ first.0 = once xs distinct back.0 first.0 b a back.1 first.1 (sym b_key.0 ∙ a_key.0) (sym b_key.1 ∙ a_key.1) in
        sym back.1 ∙ ap (slice_get xs) same ∙ first.1
