-- What `slice` and `replay` write of a trial that `run` kept (after Korel and Laski 1988; this project's profile), and which commands ask for a trial.
use Rattle.std.specs.Prelude.{◌≡◌, ◌≤◌, ⊤, ℕ, List, ◌++◌}
use Rattle.held_rows.specs.ValueTexts.{IsValueText}
use Rattle.keeper.specs.Tables.{TablesView}
use Rattle.now_top.specs.Seen.{Seen}
use Rattle.now_words.specs.declared.command.Evaluation.{Evaluation}
use Rattle.now_words.specs.declared.command.Query.{Query}
use Rattle.now_words.specs.declared.command.Query.TheVariants.{List as list_query, History, Show, Dataflow, Slice, Value, Replay, Sources, Effects}
use Rattle.prov_outside.specs.Console.{ConsoleView}
use Rattle.prov_outside.specs.Tells.{Tells}
use Rattle.py_model.specs.Capture.{Telling, opening_in}
use Rattle.py_tree.specs.Erasure.{script_of}
use Rattle.sound_trials.specs.Sound.{IsSound, RunsAgain, capture_in}
use Rattle.trial_loading.specs.Loading.{IsLoaded}
use Rattle.trial_loading.specs.declared.trial.Trial.{Trial}
use Rattle.trial_slice.specs.Slices.{HasSlice}
use Rattle.trial_value.specs.Lines.{value_lines}
use Rattle.trial_value.specs.Values.{IsValueAt}

-- The console got the slice of the evaluation by the tables, and nothing else. Its trial is sound, and the slice runs again: the run of the script without the other
-- statements, in what the devices gave, has an equal value at the same occurrence, in no more steps than the trial took.
pub record WritesSliceThatRuns (of : Evaluation) (tables : TablesView) (ends : Telling) (before after : Seen) : Type 0 where
  pub text : List ℕ
  pub slice : HasSlice tables of.trial of.at of.k text
  pub sound : IsSound slice.trial ends
  pub runs_again : RunsAgain slice.trial ends of.at of.k text
  pub console : Tells before.console after.console (λ (was is : ConsoleView). is.written ≡ was.written ++ text)

-- The trial has a value at the evaluation, with this graph text and so many steps up to it, and these two lines are all that `value` may write of it. The console got the
-- same graph text with the steps of the run of the slice, which are no more, and nothing else.
pub record GivesTheValue (of : Evaluation) (tables : TablesView) (ends : Telling) (before after : Seen) : Type 0 where
  pub trial : Trial
  pub loaded : IsLoaded tables of.trial trial
  pub sound : IsSound trial ends
  pub graph : List ℕ
  pub steps : ℕ
  pub cost : ℕ
  pub value : IsValueText (script_of trial.script) (opening_in (capture_in trial ends) trial.head.path trial.arguments) of.at of.k trial.rows graph steps
  pub written : (text : List ℕ) → IsValueAt of.at of.k trial text → text ≡ value_lines graph steps
  pub no_more : cost ≤ steps
  pub console : Tells before.console after.console (λ (was is : ConsoleView). is.written ≡ was.written ++ value_lines graph cost)

-- the command that reads the store asks for this trial, or for none
abbrev pub AsksNoOther : ℕ → Query → Type 0
AsksNoOther number list_query = ⊤
AsksNoOther number History = ⊤
AsksNoOther number (Show trial) = trial ≡ number
AsksNoOther number (Dataflow trial) = trial ≡ number
AsksNoOther number (Slice of) = of.trial ≡ number
AsksNoOther number (Value of) = of.trial ≡ number
AsksNoOther number (Replay of) = of.trial ≡ number
AsksNoOther number (Sources of) = of.trial ≡ number
AsksNoOther number (Effects of) = of.trial ≡ number
