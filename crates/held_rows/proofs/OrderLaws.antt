-- The keys of all orders, one order after the other.
use Rattle.std.proofs.Common.{◌≡◌, ℕ, ◌==◌, ◌⊎◌, inl, inr, Bool, true, false, List, [], ◌∷◌, map, unwrap_or, Some, refl, sym, ap, subst, ◌∙◌, eqb-true, true≢false, if◌then◌else◌}
use Rattle.std.proofs.lemmas.Bool.{eq-eqb}
use Rattle.std.specs.Map.{lookup}
use Rattle.py_value.specs.declared.value.Value.{Value}
use Rattle.py_value.specs.Contents.{Contents}
use Rattle.py_value.specs.Values.{ValuesView}
use Rattle.slice_law.specs.Closed.{IsIn}
use Rattle.held_rows.specs.declared.steps.Step.{Step}
use Rattle.held_rows.specs.HeldStore.{keys_in}
use Rattle.held_rows.specs.Settled.{AreKeys}
use Rattle.held_rows.specs.Steps.{steps_in, keys_after}

there_or_none : (entries : List (ℕ × List Step)) (p : ℕ) → IsIn (map (λ entry. entry.0) entries) p ⊎ (steps_in entries p ≡ [])
there_or_none [] p = inr refl
there_or_none (first ∷ entries) p = by (p == first.0) refl (there_or_none entries p)
  where
    by : (b : Bool) → (p == first.0) ≡ b → IsIn (map (λ entry. entry.0) entries) p ⊎ (steps_in entries p ≡ [])
        → ((first.0 ≡ p) ⊎ IsIn (map (λ entry. entry.0) entries) p) ⊎ (unwrap_or (if b then Some first.1 else lookup (λ q. p == q) entries) [] ≡ [])
    by true is rest = inl (inl (sym (eqb-true p first.0 is)))
    by false is (inl there) = inl (inr there)
    by false is (inr none) = inr none

pub no_order_yet : (view : ValuesView) (entries : List (ℕ × List Step)) (all : List (ℕ × List Value)) (items : List ℕ) → all ≡ [] → items ≡ map (λ entry. entry.0) entries → (p : ℕ)
    → AreKeys view (keys_in all p) (keys_after view (steps_in entries p) []) ⊎ IsIn items p
no_order_yet view entries all items empty are p = by (there_or_none entries p)
  where
    by : IsIn (map (λ entry. entry.0) entries) p ⊎ (steps_in entries p ≡ []) → AreKeys view (keys_in all p) (keys_after view (steps_in entries p) []) ⊎ IsIn items p
    by (inl there) = inr (subst (λ these. IsIn these p) (sym are) there)
    by (inr none) = inl (subst (λ keys. AreKeys view keys (keys_after view (steps_in entries p) [])) (sym (ap (λ these. keys_in these p) empty))
        (subst (λ steps. AreKeys view [] (keys_after view steps [])) (sym none) (record { is = refl; named = tt })))

pub order_more : (view : ValuesView) (order : ℕ → List Contents) (old new : List (ℕ × List Value)) (o : ℕ) (keys : List Value) (rest : List ℕ) → AreKeys view keys (order o)
    → ((p : ℕ) → keys_in new p ≡ (if o == p then keys else keys_in old p)) → (p : ℕ) → AreKeys view (keys_in old p) (order p) ⊎ IsIn (o ∷ rest) p → AreKeys view (keys_in new p) (order p) ⊎ IsIn rest p
order_more view order old new o keys rest here put p before = by (o == p) refl before
  where
    now : (b : Bool) → (o == p) ≡ b → keys_in new p ≡ (if b then keys else keys_in old p)
    now b is = put p ∙ ap (λ t. if t then keys else keys_in old p) is

    by : (b : Bool) → (o == p) ≡ b → AreKeys view (keys_in old p) (order p) ⊎ IsIn (o ∷ rest) p → AreKeys view (keys_in new p) (order p) ⊎ IsIn rest p
    by true is before = inl (subst (λ these. AreKeys view these (order p)) (sym (now true is)) (subst (λ q. AreKeys view keys (order q)) (eqb-true o p is) here))
    by false is (inl there) = inl (subst (λ these. AreKeys view these (order p)) (sym (now false is)) there)
    by false is (inr (inl same)) = absurd (true≢false (sym (eq-eqb o p same) ∙ is))
    by false is (inr (inr later)) = inr later
