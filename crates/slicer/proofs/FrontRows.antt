-- A fact of rows, shown from one front to the next.
use Rattle.std.proofs.Common.{◌≡◌, ℕ, zero, suc, ◌+◌, ◌<◌, ◌≤◌, List, [], ◌∷◌, ◌++◌, take, drop, reverse, length, slice_get, Some, refl, sym, ap, subst, ◌∙◌, arith}
use Rattle.py_value.specs.Values.{ValuesView}
use Rattle.row_checks.proofs.RowSteps.{front_more}
use Rattle.row_moments.specs.Moments.{told_with, moments_by}
use Rattle.row_moments.proofs.Interned.{turned}
use Rattle.trace_rows.specs.declared.row.Row.{Row}

pub item_of : {A : Type 0} (xs : List A) (i : ℕ) → i < length xs → (x : A) × (slice_get xs i ≡ Some x)
item_of [] i below = absurd (omega (arith, below))
item_of (x ∷ xs) zero below = (x, refl)
item_of (x ∷ xs) (suc i) below = item_of xs i (omega (arith, below))

pub front_and_rest : {A : Type 0} (n : ℕ) (xs : List A) → take n xs ++ drop n xs ≡ xs
front_and_rest zero xs = refl
front_and_rest {A} (suc n) [] = refl
front_and_rest (suc n) (x ∷ xs) = ap (λ rest. x ∷ rest) (front_and_rest n xs)

pub next_front : {A : Type 0} (xs : List A) (n : ℕ) (x : A) → slice_get xs n ≡ Some x → take (suc n) xs ≡ take n xs ++ x ∷ []
next_front xs n x at = subst (λ m. take m xs ≡ take n xs ++ x ∷ []) next (front_more xs n x at)
  where
    next : n + 1 ≡ suc n
    next = omega arith

pub by_fronts : (rows : List Row) (P : List Row → Type 0) → P []
    → ((j : ℕ) (row : Row) → slice_get rows j ≡ Some row → P (take j rows) → P (take j rows ++ row ∷ [])) → (n : ℕ) → n ≤ length rows → P (take n rows)
by_fronts rows P start more zero fits = start
by_fronts rows P start more (suc n) fits =
    let found = item_of rows n (omega (arith, fits)) in
    subst P (sym (next_front rows n found.0 found.1)) (more n found.0 found.1 (by_fronts rows P start more n (omega (arith, fits))))

-- what one row more tells
pub told_more : (view : ValuesView) (rows : List Row) (row : Row) → moments_by view (reverse (rows ++ row ∷ [])) ≡ told_with view row (moments_by view (reverse rows))
told_more view rows row = ap (moments_by view) (turned rows row)

pub told_next : (view : ValuesView) (rows : List Row) (n : ℕ) (row : Row) → slice_get rows n ≡ Some row
    → moments_by view (reverse (take (suc n) rows)) ≡ told_with view row (moments_by view (reverse (take n rows)))
told_next view rows n row at = ap (λ front. moments_by view (reverse front)) (next_front rows n row at) ∙ told_more view (take n rows) row

pub told_after : (view : ValuesView) (rows : List Row) (n : ℕ) (row : Row) → slice_get rows n ≡ Some row
    → moments_by view (reverse (take (n + 1) rows)) ≡ told_with view row (moments_by view (reverse (take n rows)))
told_after view rows n row at = ap (λ front. moments_by view (reverse front)) (front_more rows n row at) ∙ told_more view (take n rows) row
