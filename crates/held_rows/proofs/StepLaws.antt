-- The steps of an order, one after the other.
use Rattle.std.proofs.Common.{◌≡◌, ℕ, zero, suc, ◌+◌, ◌<◌, ◌≤◌, List, [], ◌∷◌, ◌++◌, take, drop, length, slice_index_or, arith, refl, sym, ap, ◌∙◌}
use Rattle.std.specs.Prelude.{Result, Ok, Err, IfOk}
use Rattle.std.proofs.lemmas.List.{take_more}
use Rattle.py_value.specs.Contents.{Contents}
use Rattle.py_value.specs.Values.{ValuesView}
use Rattle.row_words.specs.Fits.{Each}
use Rattle.held_rows.specs.declared.steps.Step.{Step}
use Rattle.held_rows.specs.Steps.{step_done, keys_after}

pub if_ok : {T E : Type 0} {P Q : T → Type 0} (r : Result T E) → IfOk r P → ((t : T) → P t → Q t) → IfOk r Q
if_ok (Ok t) holds follows = follows t holds
if_ok (Err e) holds follows = tt

pub step_more : (view : ValuesView) (steps : List Step) (step : Step) (keys : List Contents) → keys_after view (steps ++ step ∷ []) keys ≡ step_done view step (keys_after view steps keys)
step_more view [] step keys = refl
step_more view (first ∷ steps) step keys = step_more view steps step (step_done view first keys)

pub steps_next : (view : ValuesView) (steps : List Step) (i : ℕ) (d : Step) → i < length steps → step_done view (slice_index_or steps i d) (keys_after view (take i steps) []) ≡ keys_after view (take (i + 1) steps) []
steps_next view steps i d below = sym (ap (λ these. keys_after view these []) (take_more steps i d below) ∙ step_more view (take i steps) (slice_index_or steps i d) [])

pub drop_next : {A : Type 0} (xs : List A) (i : ℕ) (d : A) → i < length xs → drop i xs ≡ slice_index_or xs i d ∷ drop (i + 1) xs
drop_next [] i d below = absurd (omega (arith, below))
drop_next (x ∷ xs) zero d below = refl
drop_next (x ∷ xs) (suc i) d below = drop_next xs i d (omega (arith, below)) ∙ ap (λ n. slice_index_or xs i d ∷ n) (same i)
  where
    same : (i : ℕ) → drop (i + 1) xs ≡ drop (suc i + 1) (x ∷ xs)
    same i = ap (λ n. drop n (x ∷ xs)) (next i)
      where
        next : (i : ℕ) → suc (i + 1) ≡ suc i + 1
        next i = omega arith

pub each_in : {A : Type 0} (P : A → Type 0) (xs : List A) (i : ℕ) (d : A) → Each P xs → i < length xs → P (slice_index_or xs i d)
each_in P [] i d all below = absurd (omega (arith, below))
each_in P (x ∷ xs) zero d all below = all.0
each_in P (x ∷ xs) (suc i) d all below = each_in P xs i d all.1 (omega (arith, below))

pub drop_end : {A : Type 0} (xs : List A) (i : ℕ) → length xs ≤ i → drop i xs ≡ []
drop_end [] zero few = refl
drop_end [] (suc i) few = refl
drop_end (x ∷ xs) zero few = absurd (omega (arith, few))
drop_end (x ∷ xs) (suc i) few = drop_end xs i (omega (arith, few))

pub if_both : {T E : Type 0} {P Q R S : T → Type 0} (r : Result T E) → IfOk r P → IfOk r Q → IfOk r R → ((t : T) → P t → Q t → R t → S t) → IfOk r S
if_both (Ok t) p q s follows = follows t p q s
if_both (Err e) p q s follows = tt
