-- What a pass over the rows of a trial gives is the slice of the trial.
use Rattle.std.proofs.Common.{◌≡◌, sym, ap, subst, ◌∙◌, ℕ, Bool, List, [], Some}
use Rattle.std.proofs.lemmas.Option.{same_Some}
use Rattle.prov_base.specs.declared.place.Pos.{Pos}
use Rattle.py_tree.specs.Erasure.{script_of}
use Rattle.py_model.specs.Moment.{Moment}
use Rattle.py_model.specs.Occurrences.{up_to_evaluation}
use Rattle.py_model.specs.Store.{opening}
use Rattle.row_moments.specs.Moments.{moments_in}
use Rattle.slice_law.specs.Closed.{IsLeast}
use Rattle.slice_text.specs.Cut.{cut_text}
use Rattle.slicer.specs.Slices.{IsSliceSet}
use Rattle.trace_rows.specs.declared.row.Row.{Row}
use Rattle.trial_loading.specs.declared.trial.Trial.{Trial}
use Rattle.trial_slice.specs.Sliced.{IsSliceOf}

-- the evaluation is the same one whatever files were found
pub is_slice : (trial : Trial) (rows : List Row) (source : List ℕ) (at : Pos) (k : ℕ) (keep : ℕ → Bool) (text : List ℕ) → rows ≡ trial.rows → source ≡ trial.text
    → ((path : List ℕ) (files : List (List ℕ × List ℕ)) → IsSliceSet (script_of trial.script) (opening path trial.arguments files) at k rows keep)
    → text ≡ cut_text keep (script_of trial.script) source → IsSliceOf trial at k keep text
is_slice trial rows source at k keep text same_rows same_text sets cut_is =
    let first : IsSliceSet (script_of trial.script) (opening [] trial.arguments []) at k rows keep = sets [] [] in
    record {
      upto = first.upto;
      reached = subst (λ (r : List Row). up_to_evaluation at k (moments_in r) ≡ Some first.upto) same_rows first.reached;
      least = λ path files. least_at path files first.upto first.reached (sets path files);
      cut_is = cut_is ∙ ap (λ (t : List ℕ). cut_text keep (script_of trial.script) t) same_text;
    }
  where
    least_at : (path : List ℕ) (files : List (List ℕ × List ℕ)) (upto : List Moment) → up_to_evaluation at k (moments_in rows) ≡ Some upto → IsSliceSet (script_of trial.script) (opening path trial.arguments files) at k rows keep
        → IsLeast (script_of trial.script) (opening path trial.arguments files) upto keep
    least_at path files upto reached here =
        subst (λ (told : List Moment). IsLeast (script_of trial.script) (opening path trial.arguments files) told keep) (same_Some _ _ (sym here.reached ∙ reached)) here.least
