-- Runs that are kept as trials (this project's profile): a run that was recorded, with the text of its script.
use Rattle.std.specs.Prelude.{◌≡◌, ℕ, List}
use Rattle.capture.specs.Capture.{CaptureView}
use Rattle.py_model.specs.Capture.{Telling}
use Rattle.py_parser.specs.Reading.{HasScript}
use Rattle.py_tree.specs.Tree.{ScriptTree}
use Rattle.recorded_runs.specs.RecordedRun.{IsRecordedRun}
use Rattle.recorded_runs.specs.declared.recording.Recorded.{Recorded}
use Rattle.keeper.specs.Tables.{TablesView, with_current}
use Rattle.trial_keeping.specs.Trial.{Run, with_trial_of}
use Rattle.trial_tables.specs.Written.{put}

-- The run is that of the script which its text is, on its path and arguments, with its budget. It was recorded over devices: so it ended, and these are its pages.
pub record WasRecorded (run : Run) : Type 0 where
  pub script : ScriptTree
  pub has : HasScript run.text script
  pub before : Telling
  pub after : Telling
  pub asked : CaptureView
  pub it : Recorded
  pub records : IsRecordedRun script run.path run.arguments run.budget before after asked it
  pub ended_is : run.ended ≡ it.ended
  pub pages_are : run.pages ≡ it.pages

-- later tables: after these, some more runs were kept as trials, one after the other, and trials were made the current ones of paths
pub data KeptMore (tables : TablesView) : TablesView → Type 0 where
  no_more : KeptMore tables tables
  one_more : {earlier later : TablesView} → KeptMore tables earlier → (run : Run) → with_trial_of run earlier ≡ put later → KeptMore tables later
  set_more : {earlier later : TablesView} → KeptMore tables earlier → (path : List ℕ) (number : ℕ) → later ≡ with_current path number earlier → KeptMore tables later
