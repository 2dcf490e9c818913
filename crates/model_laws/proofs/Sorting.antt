-- The items that the plan of a sort puts in order are sorted.
use Rattle.std.proofs.Common.{◌≡◌, ◌∙◌, ◌⊎◌, ◌<◌, refl, sym, ap, arith, inl, inr, ℕ, zero, suc, Bool, true, false, List, [], ◌∷◌, length, if◌then◌else◌, None}
use Rattle.std.specs.Prelude.{filter, IsPermutation, slice_index_or}
use Rattle.std.proofs.lemmas.List.Sorted.{IsPermutation-refl, IsPermutation-cons, IsPermutation-trans, IsPermutation-middle}
use Rattle.py_model.specs.Sorting.{ranked, is_first, put_in, in_order, refused_to}
use Rattle.py_model.specs.Store.{RunStore}
use Rattle.py_model.specs.Walks.{Comparison, alike, before, behind, apart, is_alike, deepest}
use Rattle.py_value.specs.Contents.{Contents}
use Rattle.model_laws.specs.Comparing.{comes, comes_first, are_level, precedes, as_great}
use Rattle.model_laws.specs.InOrder.{NoneLess, InOrder, IsSortedOf}
use Rattle.model_laws.proofs.Kin.{AreAllRanked, all_ranked}
use Rattle.py_model.specs.Kin.{In}
use Rattle.model_laws.proofs.Ranks.{rank_itself}
use Rattle.py_model.proofs.Ranks.{Joins, values_join, none_joins}

abbrev pub first_rank : Contents → Contents → Bool
first_rank v w = is_first (ranked v w)

abbrev pub level_rank : Contents → Contents → Bool
level_rank v w = is_alike (ranked v w)

no_less : true ≡ false → ⊥
no_less is = cc

-- of two values that rank one before the other, no third is level with both
apart_from : (r s t : Comparison) → Joins r s t → is_alike r ≡ true → is_first s ≡ true → is_alike t ≡ false
apart_from alike before t joins level first = ap is_alike joins
apart_from alike alike t joins level first = absurd (no_less (sym first))
apart_from alike behind t joins level first = absurd (no_less (sym first))
apart_from alike apart t joins level first = absurd joins
apart_from before s t joins level first = absurd (no_less (sym level))
apart_from behind s t joins level first = absurd (no_less (sym level))
apart_from apart s t joins level first = absurd joins

-- of two values that rank one before the other, the other is not before the one
turned : (r s t : Comparison) → Joins r s t → t ≡ alike → is_first r ≡ true → is_first s ≡ false
turned before before t joins same first = absurd (two (sym joins ∙ same))
  where
    two : before ≡ alike → ⊥
    two is = cc
turned before alike t joins same first = refl
turned before behind t joins same first = refl
turned before apart t joins same first = absurd joins
turned alike s t joins same first = absurd (no_less (sym first))
turned behind s t joins same first = absurd (no_less (sym first))
turned apart s t joins same first = absurd joins

-- moved : an item behind another that ranks first
one_behind : (x a : Contents) (rest : List Contents) → IsPermutation (x ∷ a ∷ rest) (a ∷ x ∷ rest)
one_behind x a rest = IsPermutation-middle (x ∷ []) a rest

put_same : (x : Contents) (items : List Contents) → IsPermutation (x ∷ items) (put_in x items)
put_same x [] = IsPermutation-refl (x ∷ [])
put_same x (a ∷ rest) = by_test (first_rank a x) (put_same x rest)
  where
    by_test : (b : Bool) → IsPermutation (x ∷ rest) (put_in x rest) → IsPermutation (x ∷ a ∷ rest) (if b then a ∷ put_in x rest else x ∷ (a ∷ rest))
    by_test true same = IsPermutation-trans (x ∷ a ∷ rest) (a ∷ x ∷ rest) (a ∷ put_in x rest) (one_behind x a rest) (IsPermutation-cons a (x ∷ rest) (put_in x rest) same)
    by_test false same = IsPermutation-refl (x ∷ a ∷ rest)

order_same : (items : List Contents) → IsPermutation items (in_order items)
order_same [] = IsPermutation-refl []
order_same (x ∷ items) = IsPermutation-trans (x ∷ items) (x ∷ in_order items) (put_in x (in_order items)) (IsPermutation-cons x items (in_order items) (order_same items)) (put_same x (in_order items))

-- what is in order stood there before
put_inside : (x : Contents) (items : List Contents) (v : Contents) → In v (put_in x items) → (v ≡ x) ⊎ In v items
put_inside x [] v (inl is) = inl is
put_inside x [] v (inr i) = absurd i
put_inside x (a ∷ items) v i = by (is_first (ranked a x)) i (put_inside x items v)
  where
    deeper : (v ≡ x) ⊎ In v items → (v ≡ x) ⊎ In v (a ∷ items)
    deeper (inl is) = inl is
    deeper (inr i) = inr (inr i)

    by : (t : Bool) → In v (if t then a ∷ put_in x items else x ∷ (a ∷ items)) → (In v (put_in x items) → (v ≡ x) ⊎ In v items) → (v ≡ x) ⊎ In v (a ∷ items)
    by true (inl is) more = inr (inl is)
    by true (inr i) more = deeper (more i)
    by false (inl is) more = inl is
    by false (inr i) more = inr i

order_inside : (items : List Contents) (v : Contents) → In v (in_order items) → In v items
order_inside [] v i = i
order_inside (x ∷ items) v i = by (put_inside x (in_order items) v i) (order_inside items v)
  where
    by : (v ≡ x) ⊎ In v (in_order items) → (In v (in_order items) → In v items) → In v (x ∷ items)
    by (inl is) more = inl is
    by (inr i) more = inr (more i)

abbrev pub Within : List Contents → List Contents → Type 0
Within all items = (v : Contents) → In v items → In v all

pub contained : (items : List Contents) (v : Contents) (k : ℕ) → k < length items → slice_index_or items k v ≡ v → In v items
contained [] v k below is = absurd (omega (arith, below))
contained (x ∷ items) v zero below is = inl (sym is)
contained (x ∷ items) v (suc k) below is = inr (contained items v k (omega (arith, below)) is)

module _ (store : RunStore) (all : List Contents) (so : AreAllRanked store deepest all) where
  pub first_is : (v w : Contents) → In v all → In w all → precedes store v w ≡ first_rank v w
  first_is v w one other = ap comes_first (so v w one other).1 ∙ by_rank (ranked v w)
    where
      by_rank : (how : Comparison) → comes_first (comes how) ≡ is_first how
      by_rank alike = refl
      by_rank before = refl
      by_rank behind = refl
      by_rank apart = refl

  pub level_is : (v w : Contents) → In v all → In w all → as_great store v w ≡ level_rank v w
  level_is v w one other = ap are_level (so v w one other).1 ∙ by_rank (ranked v w)
    where
      by_rank : (how : Comparison) → are_level (comes how) ≡ is_alike how
      by_rank alike = refl
      by_rank before = refl
      by_rank behind = refl
      by_rank apart = refl

  joined : (a b c : Contents) → In a all → In b all → In c all → Joins (ranked a b) (ranked b c) (ranked a c)
  joined a b c ia ib ic = values_join a b c (so a b ia ib).0 (so b c ib ic).0

  -- a value that ranks before another does not rank behind it
  not_turned : (a x : Contents) → In a all → In x all → first_rank a x ≡ true → first_rank x a ≡ false
  not_turned a x ia ix is = turned (ranked a x) (ranked x a) (ranked a a) (joined a x a ia ix ia) (rank_itself a (so a a ia ia).0) is

  none_put : (a x : Contents) (items : List Contents) → precedes store x a ≡ false → NoneLess store a items → NoneLess store a (put_in x items)
  none_put a x [] is none = (is, tt)
  none_put a x (b ∷ items) is none = by_test (first_rank b x) (none_put a x items is none.1)
    where
      by_test : (t : Bool) → NoneLess store a (put_in x items) → NoneLess store a (if t then b ∷ put_in x items else x ∷ (b ∷ items))
      by_test true more = (none.0, more)
      by_test false more = (is, none)

  none_behind : (x a : Contents) (items : List Contents) → In x all → In a all → Within all items → first_rank a x ≡ false → NoneLess store a items → NoneLess store x items
  none_behind x a [] ix ia within is none = tt
  none_behind x a (b ∷ items) ix ia within is none =
      let ib = within b (inl refl) in (
        first_is b x ib ix ∙ none_joins (ranked b a) (ranked a x) (ranked b x) (joined b a x ib ia ix) (sym (first_is b a ib ia) ∙ none.0) is,
        none_behind x a items ix ia (λ v i. within v (inr i)) is none.1,
      )

  put_ordered : (x : Contents) (items : List Contents) → In x all → Within all items → InOrder store items → InOrder store (put_in x items)
  put_ordered x [] ix within ordered = (tt, tt)
  put_ordered x (a ∷ rest) ix within ordered = by_test (first_rank a x) refl (put_ordered x rest ix (λ v i. within v (inr i)) ordered.1)
    where
      ia : In a all
      ia = within a (inl refl)

      by_test : (t : Bool) → first_rank a x ≡ t → InOrder store (put_in x rest) → InOrder store (if t then a ∷ put_in x rest else x ∷ (a ∷ rest))
      by_test true is more = (none_put a x rest (first_is x a ix ia ∙ not_turned a x ia ix is) ordered.0, more)
      by_test false is more = ((first_is a x ia ix ∙ is, none_behind x a rest ix ia (λ v i. within v (inr i)) is ordered.0), ordered)

  all_ordered : (items : List Contents) → Within all items → InOrder store (in_order items)
  all_ordered [] within = tt
  all_ordered (x ∷ items) within = put_ordered x (in_order items) (within x (inl refl)) (λ v i. within v (inr (order_inside items v i))) (all_ordered items (λ v i. within v (inr i)))

  -- items that are level with a value
  put_level : (v x : Contents) (items : List Contents) → In v all → In x all → Within all items → filter (as_great store v) (put_in x items) ≡ filter (as_great store v) (x ∷ items)
  put_level v x [] iv ix within = refl
  put_level v x (a ∷ rest) iv ix within = by_test (first_rank a x) refl (put_level v x rest iv ix (λ w i. within w (inr i)))
    where
      ia : In a all
      ia = within a (inl refl)

      level : Contents → Bool
      level w = as_great store v w

      by_levels : (t u : Bool) → (t ≡ true → u ≡ false) → (more : List Contents) → (if t then a ∷ (if u then x ∷ more else more) else if u then x ∷ more else more) ≡ (if u then x ∷ (if t then a ∷ more else more) else if t then a ∷ more else more)
      by_levels true true one more = absurd (no_less (one refl))
      by_levels true false one more = refl
      by_levels false true one more = refl
      by_levels false false one more = refl

      by_test : (t : Bool) → first_rank a x ≡ t → filter (as_great store v) (put_in x rest) ≡ filter (as_great store v) (x ∷ rest)
          → filter (as_great store v) (if t then a ∷ put_in x rest else x ∷ (a ∷ rest)) ≡ filter (as_great store v) (x ∷ (a ∷ rest))
      by_test true is more = ap (λ (others : List Contents). if as_great store v a then a ∷ others else others) more
          ∙ by_levels (as_great store v a) (as_great store v x)
          (λ same. level_is v x iv ix ∙ apart_from (ranked v a) (ranked a x) (ranked v x) (joined v a x iv ia ix) (sym (level_is v a iv ia) ∙ same) is)
          (filter (as_great store v) rest)
      by_test false is more = refl

  all_level : (v : Contents) (items : List Contents) → In v all → Within all items → filter (as_great store v) (in_order items) ≡ filter (as_great store v) items
  all_level v [] iv within = refl
  all_level v (x ∷ items) iv within = put_level v x (in_order items) iv (within x (inl refl)) (λ w i. within w (inr (order_inside items w i)))
      ∙ ap (λ (others : List Contents). if as_great store v x then x ∷ others else others) (all_level v items iv (λ w i. within w (inr i)))

pub sorted_of : (store : RunStore) (items : List Contents) → refused_to deepest items ≡ None → IsSortedOf store items (in_order items)
sorted_of store items none = record {
  same_items = order_same items;
  in_order = all_ordered store items so items (λ v i. i);
  stable = λ v at. all_level store items so v items (contained items v at.0 at.1 at.2) (λ w i. i);
}
  where
    so : AreAllRanked store deepest items
    so = all_ranked store deepest items none
