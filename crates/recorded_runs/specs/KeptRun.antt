-- A script that is run, recorded and kept (this project's profile): start time, run, end time, and then the keeping of the trial.
use Rattle.std.specs.Prelude.{◌≡◌, ℕ, ℤ, List, [], ◌∷◌, ◌++◌, Option, Some, None, Result, Ok, Err}
use Rattle.answer_source.specs.Going.{Same}
use Rattle.prov_base.specs.declared.refusal.Memory.{Memory}
use Rattle.prov_outside.specs.Count.{one_more}
use Rattle.prov_outside.specs.ClockAndRandom.{ClockAndRandomView}
use Rattle.prov_outside.specs.Tells.{Tells}
use Rattle.py_model.specs.Capture.{Telling}
use Rattle.py_tree.specs.Tree.{ScriptTree}
use Rattle.trial_keeping.specs.Trial.{Run}
use Rattle.recorded_runs.specs.declared.recording.Recorded.{Recorded}
use Rattle.recorded_runs.specs.declared.keeping.KeptRun.{KeptRun}
use Rattle.recorded_runs.specs.declared.keeping.Timed.{Timed}
use Rattle.recorded_runs.specs.RecordedRun.{RecordsRun}

-- A clock that is asked gives one time more, or it fails and nothing has changed.
abbrev pub ClockGives : Option ℤ → ClockAndRandomView → ClockAndRandomView → Type 0
ClockGives (Some time) before after = (after.times ≡ before.times ++ time ∷ []) × (after.words ≡ before.words)
ClockGives None before after = after ≡ before

-- how often it has failed then
abbrev pub clock_faults : Option ℤ → ℕ → ℕ
clock_faults (Some time) count = count
clock_faults None count = one_more count

abbrev pub TimesAfter : Option ℤ → List ℤ → List ℤ → Type 0
TimesAfter (Some time) before after = after ≡ before ++ time ∷ []
TimesAfter None before after = after ≡ before

-- The clock was asked once, and no device was asked anything else. It gave this time, or it failed and counted that.
pub record AsksClock (time : Option ℤ) (before after : Telling) : Type 0 where
  pub times : Tells before.times after.times (TimesAfter time)
  pub words : Tells before.words after.words Same
  pub faults : after.time_faults ≡ clock_faults time before.time_faults
  pub rest : after ≡ record before { times = after.times; words = after.words; time_faults = after.time_faults }

-- The start time, the run and the end time, in this order; each time is told where the clock gave it.
pub record IsTimedRun (script : ScriptTree) (path : List ℕ) (arguments : List (List ℕ)) (steps : ℕ) (before after : Telling) (times : Option ℤ × Option ℤ) (it : Recorded) : Type 0 where
  pub began : Telling
  pub ran : Telling
  pub starts : AsksClock times.0 before began
  pub records : RecordsRun script path arguments steps began ran (Ok it)
  pub ends : AsksClock times.1 ran after

-- where memory ran out, the start time was asked and the run lacked memory
pub record LacksMemory (script : ScriptTree) (path : List ℕ) (arguments : List (List ℕ)) (steps : ℕ) (before after : Telling) (want : Memory) : Type 0 where
  pub started : Option ℤ
  pub began : Telling
  pub starts : AsksClock started before began
  pub records : RecordsRun script path arguments steps began after (Err want)

-- a run over devices that told this before it and tell that after it, with its times of start and end
abbrev pub TimesRun : ScriptTree → List ℕ → List (List ℕ) → ℕ → Telling → Telling → Result KeptRun Memory → Type 0
TimesRun script path arguments steps before after (Ok it) = IsTimedRun script path arguments steps before after it.times it.recorded
TimesRun script path arguments steps before after (Err want) = LacksMemory script path arguments steps before after want

-- the same before the keeping
abbrev pub TimedRuns : ScriptTree → List ℕ → List (List ℕ) → ℕ → Telling → Telling → Result Timed Memory → Type 0
TimedRuns script path arguments steps before after (Ok it) = IsTimedRun script path arguments steps before after it.times it.recorded
TimedRuns script path arguments steps before after (Err want) = LacksMemory script path arguments steps before after want

-- the run that is kept
abbrev pub run_in : List ℕ → List ℕ → List (List ℕ) → ℕ → KeptRun → Run
run_in text path arguments budget it = record { text = text; path = path; arguments = arguments; budget = budget; ended = it.recorded.ended; pages = it.recorded.pages; times = it.times }
