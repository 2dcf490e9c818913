-- An evaluation that is the latest of some moments is found among these with any moments behind it.
use Rattle.std.proofs.Common.{◌≡◌, ◌≤◌, ℕ, suc, Bool, true, false, ◌&&◌, ◌==◌, if◌then◌else◌, List, [], ◌∷◌, ◌++◌, Some, refl, ap, ◌∙◌, arith, eqb-true, eq-eqb}
use Rattle.std.proofs.lemmas.Bool.{and_from}
use Rattle.prov_base.specs.declared.place.Pos.{Pos}
use Rattle.py_model.specs.Moment.{Moment}
use Rattle.py_model.specs.Occurrences.{is_evaluation_at, evaluations_at, up_to_evaluation}

-- the latest moment is the k-th evaluation at the place
abbrev pub LastEvaluates : Pos → ℕ → List Moment → Type 0
LastEvaluates at k [] = ⊥
LastEvaluates at k (moment ∷ before) = (is_evaluation_at at moment ≡ true) × (suc (evaluations_at at before) ≡ k)

and_false : (b : Bool) → (b && false) ≡ false
and_false true = refl
and_false false = refl

evaluations_grow : (q : Pos) (after told : List Moment) → evaluations_at q told ≤ evaluations_at q (after ++ told)
evaluations_grow q [] told = omega arith
evaluations_grow q (moment ∷ after) told = by_test (is_evaluation_at q moment) (evaluations_grow q after told)
  where
    by_test : (test : Bool) → evaluations_at q told ≤ evaluations_at q (after ++ told) → evaluations_at q told ≤ (if test then suc (evaluations_at q (after ++ told)) else evaluations_at q (after ++ told))
    by_test true most = omega (arith, most)
    by_test false most = most

-- nothing behind it is the k-th
pub found_behind : (q : Pos) (k : ℕ) (after told : List Moment) → LastEvaluates q k told → up_to_evaluation q k (after ++ told) ≡ Some told
found_behind q k after [] last = absurd last
found_behind q k [] (moment ∷ before) last =
    ap (λ test. if test then Some (moment ∷ before) else up_to_evaluation q k before)
    (and_from (is_evaluation_at q moment) (suc (evaluations_at q before) == k) last.0 (eq-eqb (suc (evaluations_at q before)) k last.1))
found_behind q k (first ∷ after) (moment ∷ before) last =
    ap (λ test. if is_evaluation_at q first && test then Some (first ∷ (after ++ moment ∷ before)) else up_to_evaluation q k (after ++ moment ∷ before)) (too_many (suc (evaluations_at q (after ++ moment ∷ before)) == k) refl)
    ∙ (ap (λ test. if test then Some (first ∷ (after ++ moment ∷ before)) else up_to_evaluation q k (after ++ moment ∷ before)) (and_false (is_evaluation_at q first))
    ∙ found_behind q k after (moment ∷ before) last)
  where
    here_counts : evaluations_at q (moment ∷ before) ≡ k
    here_counts = ap (λ test. if test then suc (evaluations_at q before) else evaluations_at q before) last.0 ∙ last.1

    too_many : (test : Bool) → (suc (evaluations_at q (after ++ moment ∷ before)) == k) ≡ test → (suc (evaluations_at q (after ++ moment ∷ before)) == k) ≡ false
    too_many true is = absurd (omega (arith, eqb-true (suc (evaluations_at q (after ++ moment ∷ before))) k is, evaluations_grow q after (moment ∷ before), here_counts))
    too_many false is = is
