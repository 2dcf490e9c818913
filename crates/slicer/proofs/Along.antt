-- Lists of statements in a set, and sets that are closed along pairs, from one end of the list to the other.
use Rattle.std.proofs.Common.{◌≡◌, ℕ, zero, suc, ◌<◌, Bool, true, false, ◌||◌, List, [], ◌∷◌, length, refl, sym, ap, subst, ◌∙◌, arith, eqb-true, eq-eqb}
use Rattle.std.proofs.lemmas.Bool.{false≢true}
use Rattle.std.specs.Prelude.{slice_index_or, nat_eq, not, replicate}
use Rattle.py_tree.specs.StmtSet.{has}
use Rattle.slicer.specs.Along.{AllIn, IsClosedAlong, AreBelow, ArePairsBelow}

pub all_in_more : (one other : ℕ → Bool) → ((s : ℕ) → one s ≡ true → other s ≡ true) → (numbers : List ℕ) → AllIn one numbers → AllIn other numbers
all_in_more one other more [] all = tt
all_in_more one other more (s ∷ numbers) all = (more s all.0, all_in_more one other more numbers all.1)

-- two sets with the same statements are closed along the same pairs
pub closed_same : (one other : ℕ → Bool) → ((s : ℕ) → one s ≡ other s) → (pairs : List (ℕ × ℕ)) → IsClosedAlong one pairs → IsClosedAlong other pairs
closed_same one other same [] closed = tt
closed_same one other same (pair ∷ pairs) closed = (λ is. sym (same pair.1) ∙ closed.0 (same pair.0 ∙ is), closed_same one other same pairs closed.1)

pub below_at : (bound : ℕ) (numbers : List ℕ) (i : ℕ) → i < length numbers → AreBelow bound numbers → slice_index_or numbers i 0 < bound
below_at bound [] i less all = absurd (omega (arith, less))
below_at bound (first ∷ numbers) zero less all = all.0
below_at bound (first ∷ numbers) (suc i) less all = below_at bound numbers i (omega (arith, less)) all.1

pub pair_below_at : (bound : ℕ) (pairs : List (ℕ × ℕ)) (i : ℕ) (pair : ℕ × ℕ) → i < length pairs → ArePairsBelow bound pairs
    → ((slice_index_or pairs i pair).0 < bound) × ((slice_index_or pairs i pair).1 < bound)
pair_below_at bound [] i pair less all = absurd (omega (arith, less))
pair_below_at bound (first ∷ pairs) zero pair less all = all.0
pair_below_at bound (first ∷ pairs) (suc i) pair less all = pair_below_at bound pairs i pair (omega (arith, less)) all.1

pub all_in_at : (keep : ℕ → Bool) (numbers : List ℕ) (i : ℕ) → i < length numbers → AllIn keep numbers → keep (slice_index_or numbers i 0) ≡ true
all_in_at keep [] i less all = absurd (omega (arith, less))
all_in_at keep (first ∷ numbers) zero less all = all.0
all_in_at keep (first ∷ numbers) (suc i) less all = all_in_at keep numbers i (omega (arith, less)) all.1

pub closed_at : (keep : ℕ → Bool) (pairs : List (ℕ × ℕ)) (i : ℕ) (pair : ℕ × ℕ) → i < length pairs → IsClosedAlong keep pairs
    → keep (slice_index_or pairs i pair).0 ≡ true → keep (slice_index_or pairs i pair).1 ≡ true
closed_at keep [] i pair less closed = absurd (omega (arith, less))
closed_at keep (first ∷ pairs) zero pair less closed = closed.0
closed_at keep (first ∷ pairs) (suc i) pair less closed = closed_at keep pairs i pair (omega (arith, less)) closed.1

-- a set with one more
module _ (old new : ℕ → Bool) (s : ℕ) (members : (i : ℕ) → new i ≡ (old i || nat_eq i s)) where
  or_true : (b : Bool) → (b || true) ≡ true
  or_true true = refl
  or_true false = refl

  pub was_in : (i : ℕ) → old i ≡ true → new i ≡ true
  was_in i is = members i ∙ ap (λ b. b || nat_eq i s) is

  pub now_in : new s ≡ true
  now_in = members s ∙ ap (λ b. old s || b) (eq-eqb s s refl) ∙ or_true (old s)

  pub only_in : (other : ℕ → Bool) → ((i : ℕ) → old i ≡ true → other i ≡ true) → other s ≡ true → (i : ℕ) → new i ≡ true → other i ≡ true
  only_in other before own i is = by_old (old i) refl
    where
      by_same : (b : Bool) → nat_eq i s ≡ b → old i ≡ false → other i ≡ true
      by_same true same not = subst (λ k. other k ≡ true) (sym (eqb-true i s same)) own
      by_same false same not = absurd (false≢true (sym (members i ∙ ap (λ b. b || nat_eq i s) not ∙ same) ∙ is))

      by_old : (b : Bool) → old i ≡ b → other i ≡ true
      by_old true there = before i there
      by_old false not = by_same (nat_eq i s) refl not

  -- nothing is new where it was there
  pub still_in : old s ≡ true → (i : ℕ) → old i ≡ new i
  still_in there i = by_same (nat_eq i s) refl ∙ sym (members i)
    where
      by_same : (b : Bool) → nat_eq i s ≡ b → old i ≡ (old i || nat_eq i s)
      by_same true same = subst (λ k. old k ≡ true) (sym (eqb-true i s same)) there ∙ sym (ap (λ b. b || nat_eq i s) (subst (λ k. old k ≡ true) (sym (eqb-true i s same)) there))
      by_same false same = sym (ap (λ b. old i || b) same ∙ or_false (old i))
        where
          or_false : (b : Bool) → (b || false) ≡ b
          or_false true = refl
          or_false false = refl

pub not_false : (b : Bool) → not b ≡ false → b ≡ true
not_false true is = refl
not_false false is = sym is

pub not_true : (b : Bool) → not b ≡ true → b ≡ false
not_true true is = sym is
not_true false is = refl

-- the empty set has none
pub none_in : (n s : ℕ) → has (replicate n false) s ≡ true → ⊥
none_in zero s is = absurd (false≢true is)
none_in (suc n) zero is = absurd (false≢true is)
none_in (suc n) (suc s) is = none_in n s is

pub so_many : (n : ℕ) → length (replicate n false) ≡ n
so_many zero = refl
so_many (suc n) = ap suc (so_many n)
