-- Pairs of two lists, and numbered items, one after the other.
use Rattle.std.proofs.Common.{◌≡◌, ◌∙◌, refl, ap, arith, ℕ, suc, ◌+◌, ◌<◌, ◌≤◌, pos, length, List, [], ◌∷◌, drop, get_or, min, ◌⊎◌, ⊎_elim, inl, inr, subst}
use Rattle.std.proofs.Math.Nat.{min-eq_left, min-eq_right}
use Rattle.std.proofs.lemmas.Bool.{cases_lt}
use Rattle.py_model.specs.Dicts.{paired}
use Rattle.py_model.specs.Lists.{numbered}
use Rattle.py_value.specs.Contents.{Contents, contents, int, tuple, part, no_parts}
use Rattle.py_value.specs.Values.{ValuesView}
use Rattle.py_value.specs.declared.value.Value.{Value}
use Rattle.py_value.specs.declared.value.Value.TheVariants.{None as NoneValue}
use Rattle.op_lists.specs.ValuesSeen.{values_seen}
use Rattle.op_lists.proofs.Writing.{drop_next, drop_all}

-- the tuple of two
abbrev pub two_of : Contents → Contents → Contents
two_of x y = tuple (part x (part y no_parts))

-- the pairs behind so many
abbrev pub pairs_left : List Value → List Value → ℕ → ValuesView → List Contents
pairs_left lefts rights i table = paired (values_seen table (drop i lefts)) (values_seen table (drop i rights))

pub pairs_next : (lefts rights : List Value) (i : ℕ) → i < length lefts → i < length rights → (table : ValuesView)
    → pairs_left lefts rights i table ≡ two_of (contents table (get_or lefts i NoneValue)) (contents table (get_or rights i NoneValue)) ∷ pairs_left lefts rights (i + 1) table
pairs_next lefts rights i less_left less_right table =
    ap (λ vs. paired (values_seen table vs) (values_seen table (drop i rights))) (drop_next lefts i less_left)
    ∙ ap (λ vs. paired (contents table (get_or lefts i NoneValue) ∷ values_seen table (drop (i + 1) lefts)) (values_seen table vs)) (drop_next rights i less_right)

no_pairs : (xs : List Contents) → paired xs [] ≡ []
no_pairs [] = refl
no_pairs (x ∷ xs) = refl

pub pairs_end : (lefts rights : List Value) (i : ℕ) → min (length lefts) (length rights) ≤ i → (table : ValuesView) → pairs_left lefts rights i table ≡ []
pairs_end lefts rights i past table = ⊎_elim
    (λ few. ap (λ vs. paired (values_seen table vs) (values_seen table (drop i rights))) (drop_all lefts i few))
    (λ few. ap (λ vs. paired (values_seen table (drop i lefts)) (values_seen table vs)) (drop_all rights i few) ∙ no_pairs (values_seen table (drop i lefts)))
    (shorter (length lefts) (length rights) i past)
  where
    shorter : (m n i : ℕ) → min m n ≤ i → (m ≤ i) ⊎ (n ≤ i)
    shorter m n i past = ⊎_elim (λ few. inl (subst (λ (k : ℕ). k ≤ i) (min-eq_left (omega (arith, few))) past)) (λ few. inr (subst (λ (k : ℕ). k ≤ i) (min-eq_right few) past)) (cases_lt m n)

-- the numbered items behind so many
abbrev pub numbers_left : List Value → ℕ → ValuesView → List Contents
numbers_left items i table = numbered i (values_seen table (drop i items))

pub numbers_next : (items : List Value) (i : ℕ) → i < length items → (table : ValuesView)
    → numbers_left items i table ≡ two_of (int (pos i)) (contents table (get_or items i NoneValue)) ∷ numbers_left items (i + 1) table
numbers_next items i less table = ap (λ vs. numbered i (values_seen table vs)) (drop_next items i less)
    ∙ ap (λ k. two_of (int (pos i)) (contents table (get_or items i NoneValue)) ∷ numbered k (values_seen table (drop (i + 1) items))) (one i)
  where
    one : (i : ℕ) → suc i ≡ i + 1
    one i = omega (arith)

pub numbers_end : (items : List Value) (i : ℕ) → length items ≤ i → (table : ValuesView) → numbers_left items i table ≡ []
numbers_end items i past table = ap (λ vs. numbered i (values_seen table vs)) (drop_all items i past)
