-- The value of a key is put to pairs at its place, or behind them.
use Rattle.std.proofs.Common.{◌≡◌, ◌∙◌, refl, ap, arith, ℕ, zero, suc, ◌<◌, ◌≤◌, length, Bool, true, false, List, [], ◌∷◌, ◌++◌, get_or, slice_set, position, Some, None, if◌then◌else◌}
use Rattle.std.proofs.lemmas.List.Quantifiers.{position-Some}
use Rattle.std.proofs.lemmas.Grind.{common_steps}
use Rattle.std.proofs.lemmas.List.Sums.{fails_before_first}
use Rattle.std.specs.List.{position_or_len}
use Rattle.op_mutations.specs.declared.pairs.Pair.{Pair}
use Rattle.op_mutations.specs.Pairs.{has_key, with_value}
use Rattle.py_value.specs.declared.key.Key.{Key}
use Rattle.py_value.specs.declared.value.Value.{Value}

abbrev changed : Value → Pair → Pair
changed item pair = record pair { item = item }

by_true : {A : Type 0} (b : Bool) (one other : A) → b ≡ true → one ≡ (if b then one else other)
by_true true one other is = refl
by_true false one other is = absurd (cc)

by_false : {A : Type 0} (b : Bool) (one other : A) → b ≡ false → other ≡ (if b then one else other)
by_false true one other is = absurd (cc)
by_false false one other is = refl

module _ (key : Key) (first item : Value) where
  at_place : (pairs : List Pair) (i : ℕ) (d : Pair) → i < length pairs → has_key key (get_or pairs i d) ≡ true → ((k : ℕ) → k < i → has_key key (get_or pairs k d) ≡ false)
      → slice_set pairs i (changed item (get_or pairs i d)) ≡ with_value key first item pairs
  at_place [] i d less is before = absurd (omega (arith, less))
  at_place (pair ∷ pairs) zero d less is before = by_true (has_key key pair) (changed item pair ∷ pairs) (pair ∷ with_value key first item pairs) is
  at_place (pair ∷ pairs) (suc i) d less is before =
      ap (λ rest. pair ∷ rest) (at_place pairs i d (omega (arith, less)) is (λ k small. before (suc k) (omega (arith, small))))
      ∙ by_false (has_key key pair) (changed item pair ∷ pairs) (pair ∷ with_value key first item pairs) (before 0 (omega (arith)))

  pub found : (pairs : List Pair) (i : ℕ) (pair d : Pair) → position (has_key key) pairs ≡ Some i → pair ≡ get_or pairs i d
      → slice_set pairs i (changed item pair) ≡ with_value key first item pairs
  found pairs i pair d is got = ap (λ p. slice_set pairs i (changed item p)) got
      ∙ (let at = position-Some (has_key key) pairs i d is in at_place pairs i d at.0 at.1 at.2)

  behind_all : (pairs : List Pair) (d : Pair) → ((k : ℕ) → k < length pairs → has_key key (get_or pairs k d) ≡ false)
      → pairs ++ record { key = key; first = first; item = item } ∷ [] ≡ with_value key first item pairs
  behind_all [] d none = refl
  behind_all (pair ∷ pairs) d none = ap (λ rest. pair ∷ rest) (behind_all pairs d (λ k small. none (suc k) (omega (arith, small))))
      ∙ by_false (has_key key pair) (changed item pair ∷ pairs) (pair ∷ with_value key first item pairs) (none 0 (omega (arith)))

  pub absent : (pairs : List Pair) (d : Pair) → position (has_key key) pairs ≡ None → pairs ++ record { key = key; first = first; item = item } ∷ [] ≡ with_value key first item pairs
  absent pairs d is =
      let many : length pairs ≤ position_or_len (has_key key) pairs = grind (arith, common_steps) in
      behind_all pairs d (λ k small. fails_before_first (has_key key) pairs k d (omega (arith, small, many)))
