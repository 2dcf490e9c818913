-- The rows up to a place are kept.
use Rattle.std.proofs.Common.{◌≡◌, ℕ, zero, suc, ◌+◌, ◌<◌, ◌≤◌, ⊎_elim, List, [], ◌∷◌, take, length, slice_get, Some, refl, sym, ap, subst, ◌∙◌, arith}
use Rattle.std.proofs.lemmas.Bool.{cases_lt}
use Rattle.std.proofs.lemmas.Option.{slice_get_within, same_Some}
use Rattle.trace_rows.specs.declared.row.Row.{Row}
use Rattle.row_checks.specs.KeptRows.{MayStand, AreKeptRows, IsFirstUnkept, earlier_in}

take_take : {A : Type 0} (i n : ℕ) (xs : List A) → i ≤ n → take i (take n xs) ≡ take i xs
take_take zero n xs few = refl
take_take (suc i) zero xs few = absurd (omega (arith, few))
take_take {A} (suc i) (suc n) [] few = refl
take_take (suc i) (suc n) (x ∷ xs) few = ap (λ ys. x ∷ ys) (take_take i n xs (omega (arith, few)))

front_at : {A : Type 0} (n j : ℕ) (xs : List A) (x : A) → slice_get (take n xs) j ≡ Some x → (j < n) × (slice_get xs j ≡ Some x)
front_at zero j xs x at = absurd (none_at j at)
  where
    none_at : (j : ℕ) → slice_get (take zero xs) j ≡ Some x → ⊥
    none_at zero at = cc
    none_at (suc j) at = cc
front_at (suc n) zero [] x at = absurd (cc)
front_at (suc n) (suc j) [] x at = absurd (cc)
front_at (suc n) zero (y ∷ ys) x at = (omega arith, at)
front_at (suc n) (suc j) (y ∷ ys) x at = let rest = front_at n j ys x at in let below = rest.0 in (omega (arith, below), rest.1)

in_front : {A : Type 0} (n j : ℕ) (xs : List A) (x : A) → j < n → slice_get xs j ≡ Some x → slice_get (take n xs) j ≡ Some x
in_front zero j xs x below at = absurd (omega (arith, below))
in_front (suc n) zero [] x below at = at
in_front (suc n) (suc j) [] x below at = at
in_front (suc n) zero (y ∷ ys) x below at = at
in_front (suc n) (suc j) (y ∷ ys) x below at = in_front n j ys x (omega (arith, below)) at

module _ (statements : ℕ) (rows : List Row) where
  -- the first rows are kept
  pub record KeptTo (n : ℕ) : Type 0 where
    pub each : (j : ℕ) (row : Row) → j < n → slice_get rows j ≡ Some row → MayStand (earlier_in statements (take j rows)) row

  pub none_kept : KeptTo 0
  none_kept = record { each = λ j row below at. absurd (omega (arith, below)) }

  pub one_kept : (n : ℕ) (row : Row) → KeptTo n → slice_get rows n ≡ Some row → MayStand (earlier_in statements (take n rows)) row → KeptTo (n + 1)
  one_kept n row kept at may = record {
    each = λ j other below here. ⊎_elim
        (λ before. kept.each j other before here)
        (λ after. last j other (omega (arith, below, after)) here)
        (cases_lt j n);
  }
    where
      last : (j : ℕ) (other : Row) → j ≡ n → slice_get rows j ≡ Some other → MayStand (earlier_in statements (take j rows)) other
      last j other is here =
          subst (λ m. MayStand (earlier_in statements (take m rows)) other) (sym is)
          (subst (MayStand (earlier_in statements (take n rows))) (same_Some row other (sym at ∙ ap (slice_get rows) (sym is) ∙ here)) may)

  pub front_kept : (n : ℕ) → KeptTo n → AreKeptRows statements (take n rows)
  front_kept n kept j row at =
      let here = front_at n j rows row at in
      let below = here.0 in
      subst (λ before. MayStand (earlier_in statements before) row) (sym (take_take j n rows (omega (arith, below)))) (kept.each j row below here.1)

  pub kept_front : (n : ℕ) → AreKeptRows statements (take n rows) → KeptTo n
  kept_front n kept = record {
    each = λ j row below at.
        subst (λ before. MayStand (earlier_in statements before) row) (take_take j n rows (omega (arith, below))) (kept j row (in_front n j rows row below at));
  }

  pub all_kept : (n : ℕ) → length rows ≤ n → KeptTo n → AreKeptRows statements rows
  all_kept n above kept j row at = let below = slice_get_within rows j row at in kept.each j row (omega (arith, above, below)) at

  pub first_of_kept : (n : ℕ) → AreKeptRows statements rows → KeptTo n
  first_of_kept n kept = record { each = λ j row below at. kept j row at }

  pub fewer_kept : (n m : ℕ) → m ≤ n → KeptTo n → KeptTo m
  fewer_kept n m few kept = record { each = λ j row below at. kept.each j row (omega (arith, few, below)) at }

  pub is_first : (i : ℕ) (row : Row) → KeptTo i → slice_get rows i ≡ Some row → (MayStand (earlier_in statements (take i rows)) row → ⊥) → IsFirstUnkept statements rows i
  is_first i row kept at may_not = record {
    within = slice_get_within rows i row at;
    kept = front_kept i kept;
    unkept = λ more. may_not ((kept_front (i + 1) more).each i row (omega arith) at);
  }

  pub not_both : (i : ℕ) → AreKeptRows statements rows → IsFirstUnkept statements rows i → ⊥
  not_both i kept first = first.unkept (front_kept (i + 1) (first_of_kept (i + 1) kept))

  not_before : (i j : ℕ) → i < j → IsFirstUnkept statements rows i → IsFirstUnkept statements rows j → ⊥
  not_before i j before first other = first.unkept (front_kept (i + 1) (fewer_kept j (i + 1) (omega (arith, before)) (kept_front j other.kept)))

  pub one_first : (i j : ℕ) → IsFirstUnkept statements rows i → IsFirstUnkept statements rows j → i ≡ j
  one_first i j first other = ⊎_elim
      (λ before. absurd (not_before i j before first other))
      (λ above. ⊎_elim (λ before. absurd (not_before j i before other first)) (λ below. omega (arith, above, below)) (cases_lt j i))
      (cases_lt i j)
