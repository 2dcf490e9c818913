-- An evaluation that is found among the first moments of a run is found among all of them, with the same moments up to it.
use Rattle.std.proofs.Common.{◌≡◌, ℕ, suc, Bool, true, false, ◌&&◌, ◌==◌, if◌then◌else◌, List, [], ◌∷◌, ◌++◌, Some, refl, sym, ap, subst, ◌∙◌, append_assoc, eqb-true}
use Rattle.std.proofs.lemmas.Bool.{and_parts}
use Rattle.prov_base.specs.declared.place.Pos.{Pos}
use Rattle.py_model.specs.History.{Extends}
use Rattle.py_model.specs.Moment.{Moment}
use Rattle.py_model.specs.Occurrences.{is_evaluation_at, evaluations_at, up_to_evaluation}
use Rattle.replays.proofs.Counting.{LastEvaluates, found_behind}

-- the moments up to the evaluation, and what is behind it
pub record IsFoundIn (q : Pos) (k : ℕ) (all upto : List Moment) : Type 0 where
  pub news : List Moment
  pub all_is : all ≡ news ++ upto
  pub last_is : LastEvaluates q k upto

some_same : (xs ys : List Moment) → Some xs ≡ Some ys → xs ≡ ys
some_same xs ys is = cc

pub found_in : (q : Pos) (k : ℕ) (all upto : List Moment) → up_to_evaluation q k all ≡ Some upto → IsFoundIn q k all upto
found_in q k [] upto is = absurd cc
found_in q k (moment ∷ before) upto is = by_test (is_evaluation_at q moment && (suc (evaluations_at q before) == k)) refl is (found_in q k before upto)
  where
    by_test : (test : Bool) → (is_evaluation_at q moment && (suc (evaluations_at q before) == k)) ≡ test
        → (if test then Some (moment ∷ before) else up_to_evaluation q k before) ≡ Some upto → (up_to_evaluation q k before ≡ Some upto → IsFoundIn q k before upto) → IsFoundIn q k (moment ∷ before) upto
    by_test true so is rest =
        let parts : (is_evaluation_at q moment ≡ true) × ((suc (evaluations_at q before) == k) ≡ true) = and_parts (is_evaluation_at q moment) (suc (evaluations_at q before) == k) so in
        subst (IsFoundIn q k (moment ∷ before)) (some_same (moment ∷ before) upto is) (record { news = []; all_is = refl; last_is = (parts.0, eqb-true (suc (evaluations_at q before)) k parts.1) })
    by_test false so is rest = let found = rest is in
        record { news = moment ∷ found.news; all_is = ap (λ (told : List Moment). moment ∷ told) found.all_is; last_is = found.last_is }

pub reached_too : (q : Pos) (k : ℕ) (told all upto : List Moment) → Extends told all → up_to_evaluation q k told ≡ Some upto → up_to_evaluation q k all ≡ Some upto
reached_too q k told all upto begins is =
    let found = found_in q k told upto is in
    ap (up_to_evaluation q k) (begins.longer_is ∙ (ap (λ (ms : List Moment). begins.news ++ ms) found.all_is ∙ sym (append_assoc begins.news found.news upto)))
    ∙ found_behind q k (begins.news ++ found.news) upto found.last_is
