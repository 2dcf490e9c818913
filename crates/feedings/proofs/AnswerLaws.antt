-- The marked moments of a run, as the evaluations that are answered.
use Rattle.std.proofs.Common.{◌≡◌, ◌↔◌, ℕ, suc, ◌<◌, ◌≤◌, ◌==◌, ◌&&◌, Bool, true, false, List, [], ◌∷◌, length, Some, refl, sym, ap, ◌∙◌, arith, if◌then◌else◌}
use Rattle.std.proofs.lemmas.Option.{same_Some}
use Rattle.prov_base.specs.declared.place.Pos.{Pos}
use Rattle.py_tree.specs.Tree.{ScriptTree}
use Rattle.py_model.specs.Moment.{Moment}
use Rattle.py_model.specs.Occurrences.{up_to_evaluation, evaluations_at, is_evaluation_at}
use Rattle.feedings.specs.declared.site.Site.{Site}
use Rattle.feedings.specs.declared.site.Way.{Way}
use Rattle.feedings.specs.Sites.{AreSites, sites, IsTimeOf, Leads, AreFed}
use Rattle.feedings.specs.Marks.{mark_at}

-- the moments up to an evaluation are no more than all
short : (at : Pos) (k : ℕ) (told upto : List Moment) → up_to_evaluation at k told ≡ Some upto → length upto ≤ length told
short at k [] upto is = absurd (cc)
short at k (moment ∷ before) upto is = by (short at k before upto) (is_evaluation_at at moment && (suc (evaluations_at at before) == k)) refl
  where
    by : (up_to_evaluation at k before ≡ Some upto → length upto ≤ length before) → (b : Bool) → (is_evaluation_at at moment && (suc (evaluations_at at before) == k)) ≡ b → length upto ≤ suc (length before)
    by earlier true so = let same : length (moment ∷ before) ≡ length upto = ap length (same_Some (moment ∷ before) upto (ap (λ b. if b then Some (moment ∷ before) else up_to_evaluation at k before) (sym so) ∙ is)) in omega (arith, same)
    by earlier false so = let less = earlier (ap (λ b. if b then Some (moment ∷ before) else up_to_evaluation at k before) (sym so) ∙ is) in omega (arith, less)

pub time_within : (at : Pos) (k : ℕ) (told : List Moment) (time : ℕ) → IsTimeOf at k told time → time < length told
time_within at k told time is = let less = short at k told is.upto is.reached in let same = is.length_is in omega (arith, less, same)

marked_sites : (told : List Moment) (Chosen : ℕ → Type 0) (marks : List Bool) (list : List Site) → ((t : ℕ) → (mark_at marks t ≡ true) ↔ Chosen t) → list ≡ sites (mark_at marks) told → AreSites told Chosen list
marked_sites told Chosen marks list same are = record { chosen = mark_at marks; only = λ t. (same t).0; all = λ t. (same t).1; are = are }

module _ (script : ScriptTree) (at : Pos) (k : ℕ) (told : List Moment) (time : ℕ) (is_time : IsTimeOf at k told time) (marks : List Bool) (list : List Site) (are : list ≡ sites (mark_at marks) told) where
  pub found_fed : (way : Way) → ((t : ℕ) → (mark_at marks t ≡ true) ↔ Leads way script told t time) → AreFed way script at k told list
  found_fed way same = record { time = time; is_time = is_time; are = marked_sites told (λ t. Leads way script told t time) marks list same are }
