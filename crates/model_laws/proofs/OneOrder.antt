-- There is one list that is sorted of given items.
use Rattle.std.proofs.Common.{◌≡◌, ◌∙◌, refl, sym, ap, subst, arith, inl, inr, zero, suc, Bool, true, false, List, [], ◌∷◌, if◌then◌else◌, None}
use Rattle.std.specs.Prelude.{filter, IsPermutation, Contains}
use Rattle.std.proofs.lemmas.List.Sorted.{IsPermutation-sym, Contains-permutation}
use Rattle.py_model.specs.Sorting.{ranked, is_first, refused_to}
use Rattle.py_model.specs.Store.{RunStore}
use Rattle.py_model.specs.Walks.{Comparison, alike, before, behind, apart, is_alike, deepest}
use Rattle.py_value.specs.Contents.{Contents}
use Rattle.model_laws.specs.Comparing.{precedes, as_great}
use Rattle.model_laws.specs.InOrder.{NoneLess, InOrder, IsSortedOf}
use Rattle.model_laws.proofs.Kin.{AreAllRanked, all_ranked, IsOrdered, rank_ordered}
use Rattle.py_model.specs.Kin.{In}
use Rattle.model_laws.proofs.Ranks.{rank_itself, rank_turned, turn}
use Rattle.model_laws.proofs.Sorting.{Within, first_is, level_is, contained}

in_filter : (test : Contents → Bool) (items : List Contents) (v : Contents) → In v (filter test items) → In v items
in_filter test [] v i = i
in_filter test (item ∷ items) v i = by_test (test item) i (in_filter test items v)
  where
    by_test : (b : Bool) → In v (if b then item ∷ filter test items else filter test items) → (In v (filter test items) → In v items) → In v (item ∷ items)
    by_test true (inl is) more = inl is
    by_test true (inr i) more = inr (more i)
    by_test false i more = inr (more i)

pub contains : (items : List Contents) (v : Contents) → In v items → Contains items v
contains [] v i = absurd i
contains (item ∷ items) v (inl is) = (zero, omega arith, sym is)
contains (item ∷ items) v (inr i) = let place = contains items v i in (suc place.0, omega (arith, place.1), place.2)

heads_same : (v w : Contents) (r s : List Contents) → v ∷ r ≡ w ∷ s → v ≡ w
heads_same v w r s is = cc

tails_same : (v w : Contents) (r s : List Contents) → v ∷ r ≡ w ∷ s → r ≡ s
tails_same v w r s is = cc

empty_not : (v : Contents) (r : List Contents) → [] ≡ v ∷ r → ⊥
empty_not v r is = cc

differ : true ≡ false → ⊥
differ is = cc

-- two values of which neither ranks before the other are level
neither_first : (how : Comparison) → IsOrdered how → is_first how ≡ false → is_first (turn how) ≡ false → is_alike how ≡ true
neither_first alike ordered one other = refl
neither_first before ordered one other = absurd (differ one)
neither_first behind ordered one other = absurd (differ other)
neither_first apart ordered one other = absurd ordered

module _ (store : RunStore) (all : List Contents) (so : AreAllRanked store deepest all) where
  level_itself : (v : Contents) → In v all → as_great store v v ≡ true
  level_itself v i = level_is store all so v v i i ∙ ap is_alike (rank_itself v (so v v i i).0)

  -- none of these is less, so one of them that is not the first is not less
  not_less : (first v : Contents) (items : List Contents) → NoneLess store first items → In v items → precedes store v first ≡ false
  not_less first v [] none i = absurd i
  not_less first v (item ∷ items) none (inl is) = subst (λ (w : Contents). precedes store w first ≡ false) (sym is) none.0
  not_less first v (item ∷ items) none (inr i) = not_less first v items none.1 i

  abbrev SameLevels : List Contents → List Contents → Type 0
  SameLevels xs ys = (v : Contents) → In v all → filter (as_great store v) xs ≡ filter (as_great store v) ys

  with_first : (v x : Contents) (xs : List Contents) → as_great store v x ≡ true → filter (as_great store v) (x ∷ xs) ≡ x ∷ filter (as_great store v) xs
  with_first v x xs is = ap (λ (b : Bool). if b then x ∷ filter (as_great store v) xs else filter (as_great store v) xs) is

  first_inside : (x : Contents) (xs ys : List Contents) → In x all → SameLevels (x ∷ xs) ys → In x ys
  first_inside x xs ys ix same = in_filter (as_great store x) ys x (subst (λ (row : List Contents). In x row) (sym (with_first x x xs (level_itself x ix)) ∙ same x ix) (inl refl))

  levelled : (x y : Contents) (xs ys : List Contents) → In x all → In y all → InOrder store (x ∷ xs) → InOrder store (y ∷ ys) → In x (y ∷ ys) → In y (x ∷ xs) → as_great store x y ≡ true
  levelled x y xs ys ix iy one other (inl is) back = subst (λ (w : Contents). as_great store x w ≡ true) is (level_itself x ix)
  levelled x y xs ys ix iy one other (inr i) (inl is) = subst (λ (w : Contents). as_great store x w ≡ true) (sym is) (level_itself x ix)
  levelled x y xs ys ix iy one other (inr i) (inr j) =
      level_is store all so x y ix iy
      ∙ neither_first (ranked x y) (rank_ordered x y) (sym (first_is store all so x y ix iy) ∙ not_less y x ys other.0 i)
      (ap is_first (sym (rank_turned x y (so x y ix iy).0 (so y x iy ix).0 (so x x ix ix).0)) ∙ (sym (first_is store all so y x iy ix) ∙ not_less x y xs one.0 j))

  rest_same : (x : Contents) (xs ys : List Contents) → SameLevels (x ∷ xs) (x ∷ ys) → SameLevels xs ys
  rest_same x xs ys same v iv = by_test (as_great store v x) (same v iv)
    where
      by_test : (b : Bool) → (if b then x ∷ filter (as_great store v) xs else filter (as_great store v) xs) ≡ (if b then x ∷ filter (as_great store v) ys else filter (as_great store v) ys)
          → filter (as_great store v) xs ≡ filter (as_great store v) ys
      by_test true is = tails_same x x (filter (as_great store v) xs) (filter (as_great store v) ys) is
      by_test false is = is

  same_order : (xs ys : List Contents) → Within all xs → Within all ys → InOrder store xs → InOrder store ys → SameLevels xs ys → xs ≡ ys
  same_order [] [] inside within one other same = refl
  same_order [] (y ∷ ys) inside within one other same = let iy = within y (inl refl) in absurd (empty_not y (filter (as_great store y) ys) (same y iy ∙ with_first y y ys (level_itself y iy)))
  same_order (x ∷ xs) [] inside within one other same = let ix = inside x (inl refl) in absurd (empty_not x (filter (as_great store x) xs) (sym (same x ix) ∙ with_first x x xs (level_itself x ix)))
  same_order (x ∷ xs) (y ∷ ys) inside within one other same =
      let ix = inside x (inl refl) in
      let iy = within y (inl refl) in
      let level = levelled x y xs ys ix iy one other (first_inside x xs (y ∷ ys) ix same) (first_inside y ys (x ∷ xs) iy (λ v iv. sym (same v iv))) in
      let is : x ≡ y = heads_same x y (filter (as_great store x) xs) (filter (as_great store x) ys) (sym (with_first x x xs (level_itself x ix)) ∙ (same x ix ∙ with_first x y ys level)) in
      ap (λ (w : Contents). w ∷ xs) is
      ∙ ap (λ (row : List Contents). y ∷ row)
      (same_order xs ys (λ v i. inside v (inr i)) (λ v i. within v (inr i)) one.1 other.1 (rest_same y xs ys (λ v iv. ap (λ (w : Contents). filter (as_great store v) (w ∷ xs)) (sym is) ∙ same v iv)))

pub one_sorted : (store : RunStore) (items one other : List Contents) → refused_to deepest items ≡ None → IsSortedOf store items one → IsSortedOf store items other → one ≡ other
one_sorted store items one other none is also =
    same_order store items (all_ranked store deepest items none) one other (inside one is.same_items) (inside other also.same_items) is.in_order also.in_order
    (λ v i. is.stable v (contains items v i) ∙ sym (also.stable v (contains items v i)))
  where
    inside : (row : List Contents) → IsPermutation items row → Within items row
    inside row same v i = let place = Contains-permutation row items v (IsPermutation-sym items row same) (contains row v i) in contained items v place.0 place.1 place.2
