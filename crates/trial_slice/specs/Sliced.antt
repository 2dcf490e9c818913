-- The slice of an evaluation of a kept trial (Korel and Laski 1988, and this project's profile).
use Rattle.std.specs.Prelude.{◌≡◌, ℕ, Bool, List, Some}
use Rattle.prov_base.specs.declared.place.Pos.{Pos}
use Rattle.py_tree.specs.Erasure.{script_of}
use Rattle.py_model.specs.Moment.{Moment}
use Rattle.py_model.specs.Occurrences.{up_to_evaluation}
use Rattle.py_model.specs.Store.{opening}
use Rattle.row_moments.specs.Moments.{moments_in}
use Rattle.slice_law.specs.Closed.{IsLeast}
use Rattle.slice_text.specs.Cut.{cut_text}
use Rattle.trial_loading.specs.declared.trial.Trial.{Trial}

-- The rows tell the events of a run, among them this evaluation. The kept statements are the least closed set of the events up to it, whatever files the run found as it
-- began. The text is that of the script, cut to them.
pub record IsSliceOf (trial : Trial) (at : Pos) (k : ℕ) (keep : ℕ → Bool) (text : List ℕ) : Type 0 where
  pub upto : List Moment
  pub reached : up_to_evaluation at k (moments_in trial.rows) ≡ Some upto
  pub least : (path : List ℕ) (files : List (List ℕ × List ℕ)) → IsLeast (script_of trial.script) (opening path trial.arguments files) upto keep
  pub cut_is : text ≡ cut_text keep (script_of trial.script) trial.text
