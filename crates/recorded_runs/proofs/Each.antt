-- What holds of the items of a list up to a place, and so of all.
use Rattle.std.proofs.Common.{◌≡◌, ◌⊎◌, inl, inr, ℕ, ◌+◌, ◌<◌, ◌≤◌, ◌^◌, List, length, slice_get, Some, sym, subst, ◌∙◌, arith}
use Rattle.std.proofs.lemmas.Bool.{cases_lt}
use Rattle.std.proofs.lemmas.Option.{slice_get_within}
use Rattle.recorded_runs.specs.Typed.{EachOf}

-- so it is with each item below the place
abbrev pub Below : {A : Type 0} → (A → Type 0) → List A → ℕ → Type 0
Below {A = A} P items n = (i : ℕ) (item : A) → i < n → slice_get items i ≡ Some item → P item

some_same : {A : Type 0} (a b : A) → Some a ≡ Some b → a ≡ b
some_same a b is = cc

pub below_more : {A : Type 0} (P : A → Type 0) (items : List A) (n : ℕ) (item : A) → Below P items n → slice_get items n ≡ Some item → P item → Below P items (n + 1)
below_more P items n item all there is i other less at = by (cases_lt i n)
  where
    by : (i < n) ⊎ (n ≤ i) → P other
    by (inl small) = all i other small at
    by (inr large) =
        let same : n ≡ i = omega (arith, less, large) in
        subst P (some_same item other (sym there ∙ subst (λ (k : ℕ). slice_get items k ≡ Some other) (sym same) at)) is

pub each_of : {A : Type 0} (P : A → Type 0) (items : List A) (n : ℕ) → length items ≤ n → length items < 2 ^ 64 → Below P items n → EachOf P items
each_of P items n end few all = (few, λ i item at. let within = slice_get_within items i item at in all i item (omega (arith, within, end)) at)
