-- A sound trial (this project's profile): what it keeps is what the run of its script does in its capture. What it promises of its slices.
use Rattle.std.specs.Prelude.{◌≡◌, ℕ, Bool, List, map}
use Rattle.prov_base.specs.declared.place.Pos.{Pos}
use Rattle.py_tree.specs.Erasure.{script_of}
use Rattle.answer_source.specs.Live.{capture_of}
use Rattle.op_state.specs.Finals.{file_out}
use Rattle.py_model.specs.Capture.{Capture, Telling}
use Rattle.py_model.specs.Meaning.{Run, run}
use Rattle.recorder.specs.MomentRows.{rows as rows_of}
use Rattle.row_moments.specs.Moments.{moments_in}
use Rattle.slice_law.specs.Slices.{told_by, Reproduces}
use Rattle.trace_rows.specs.RowBytes.{AreRows}
use Rattle.trial_loading.specs.declared.trial.Trial.{Trial}
use Rattle.trial_slice.specs.Sliced.{IsSliceOf}

-- what the devices gave, as the trial keeps it; what they tell at the end of the run does not matter
abbrev pub capture_in : Trial → Telling → Capture
capture_in trial ends = capture_of trial.capture ends

-- the run of the trial's script on its path and arguments, in its capture, with its budget
abbrev pub run_in : Trial → Telling → Run
run_in trial ends = run (script_of trial.script) trial.head.path trial.arguments (capture_in trial ends) trial.head.budget

-- Its rows are those of the moments of that run, and the numbers in them fit their types. Steps, output and final files are the run's.
pub record IsSound (trial : Trial) (ends : Telling) : Type 0 where
  pub rows_are : trial.rows ≡ rows_of (run_in trial ends).moments
  pub fit : AreRows trial.rows
  pub steps_are : trial.head.steps ≡ (run_in trial ends).steps
  pub output_is : trial.output ≡ (run_in trial ends).output
  pub finals_are : map file_out trial.finals.items ≡ (run_in trial ends).finals

-- The text is the slice of the evaluation: the script cut to the least closed set. The rows tell what the run of the script does. The run of the script without the other
-- statements, in the trial's capture and with the trial's steps, reaches the same occurrence: the value is equal there, as graph texts tell it, and no more steps are spent.
pub record RunsAgain (trial : Trial) (ends : Telling) (at : Pos) (k : ℕ) (text : List ℕ) : Type 0 where
  pub keep : ℕ → Bool
  pub slice : IsSliceOf trial at k keep text
  pub told_is : moments_in trial.rows ≡ told_by (script_of trial.script) (capture_in trial ends) trial.head.path trial.arguments trial.head.budget
  pub reproduces : Reproduces (script_of trial.script) (capture_in trial ends) trial.head.path trial.arguments trial.head.steps at k slice.upto keep
