-- The text of the value of an evaluation in rows of a run is that of its value in the run.
use Rattle.std.proofs.Common.{◌≡◌, ap, subst, ◌∙◌, ℕ, Bool, true, List, None}
use Rattle.held_rows.specs.ValueTexts.{IsValueText}
use Rattle.prov_base.specs.declared.place.Pos.{Pos}
use Rattle.py_model.specs.Capture.{Capture, with_bytes}
use Rattle.py_model.specs.Occurrences.{up_to_evaluation}
use Rattle.py_model.specs.Store.{opening}
use Rattle.py_tree.specs.Tree.{ScriptTree}
use Rattle.row_moments.specs.Moments.{moments_in}
use Rattle.slice_law.specs.Slices.{told_by}
use Rattle.trace_rows.specs.declared.row.Row.{Row}
use Rattle.replays.proofs.Reached.{reached_too}
use Rattle.replays.specs.Fronts.{IsFrontOf}
use Rattle.replays.specs.Replay.{IsReplayText, LacksEvaluation}

module _ (script : ScriptTree) (path : List ℕ) (arguments words : List (List ℕ)) (words_are : words ≡ arguments) (capture : Capture) (steps : ℕ) (at : Pos) (k : ℕ) (rows seen : List Row) (seen_is : seen ≡ rows) (whole : Bool)
    (front : IsFrontOf (told_by script capture path arguments steps) rows whole) where
  own_text : (text : List ℕ) (cost : ℕ) → IsValueText script (opening path arguments (with_bytes capture.files)) at k rows text cost → IsReplayText script path arguments capture steps at k text cost
  own_text text cost value = record {
    upto = value.upto;
    reached = reached_too at k (moments_in rows) (told_by script capture path arguments steps) value.upto front.begins value.reached;
    text_is = value.text_is;
    steps_are = value.steps_are;
  }

  pub text_told : (text : List ℕ) (cost : ℕ) → ((files : List (List ℕ × List ℕ)) → IsValueText script (opening path words files) at k seen text cost) → IsReplayText script path arguments capture steps at k text cost
  text_told text cost value = own_text text cost
      (subst (λ (rs : List Row). IsValueText script (opening path arguments (with_bytes capture.files)) at k rs text cost) seen_is
      (subst (λ (names : List (List ℕ)). IsValueText script (opening path names (with_bytes capture.files)) at k seen text cost) words_are (value (with_bytes capture.files))))

  pub lacking : whole ≡ true → up_to_evaluation at k (moments_in seen) ≡ None → LacksEvaluation script path arguments capture steps at k
  lacking ended none = ap (up_to_evaluation at k) (front.whole ended) ∙ subst (λ (rs : List Row). up_to_evaluation at k (moments_in rs) ≡ None) seen_is none
