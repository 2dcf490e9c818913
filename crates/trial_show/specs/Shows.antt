-- What `show` answers (this project's profile): the lines of a loaded trial.
use Rattle.std.specs.Prelude.{◌≡◌, ℕ, List, ◌++◌, None, Result, Ok, Err}
use Rattle.keeper.specs.Keeping.{KeeperView}
use Rattle.keeper.specs.Tables.{head_at}
use Rattle.py_tree.specs.Erasure.{script_of}
use Rattle.trial_keeping.specs.declared.fault.TrialFault.{TrialFault}
use Rattle.trial_keeping.specs.declared.fault.TrialFault.TheVariants.{NoTrial, Damaged, Keeper, Collision, Full, Memory}
use Rattle.trial_show.specs.Functions.{lines_in}
use Rattle.trial_show.specs.Shown.{opening_lines, argument_lines, middle_lines, input_lines, output_line, final_lines}
use Rattle.trial_loading.specs.Loading.{IsLoaded, IsTrial, IsDamaged}
use Rattle.trial_loading.specs.declared.trial.Trial.{Trial}
use Rattle.trial_list.specs.Lines.{start_text}

-- the head up to the script's digest, the arguments, the rest of the head, the files that were found, the printed text, the files that the run left, and the functions
abbrev pub show_bytes : Trial → List ℕ
show_bytes trial =
    opening_lines trial.number trial.head ++ argument_lines trial.arguments ++ middle_lines trial.head (start_text trial.head.started) (start_text trial.head.ended)
    ++ input_lines trial.capture.files ++ output_line trial.head trial.output ++ final_lines trial.finals.items ++ lines_in trial.rows (script_of trial.script).body

-- It answers the lines of the trial with this number, that there is none, or what is amiss of it first. It leaves all as it was, whatever it answers.
abbrev pub ShowsTrial : ℕ → Result (List ℕ) TrialFault → KeeperView → KeeperView → Type 0
ShowsTrial number (Ok text) before after = ((trial : Trial) × IsLoaded before.seen number trial × (text ≡ show_bytes trial)) × (after ≡ before)
ShowsTrial number (Err (NoTrial other)) before after = (head_at before.seen.heads number ≡ None) × (after ≡ before)
ShowsTrial number (Err (Damaged other damage)) before after = IsDamaged before.seen number damage × (after ≡ before)
ShowsTrial number (Err Keeper) before after = after ≡ before
ShowsTrial number (Err Memory) before after = after ≡ before
ShowsTrial number (Err (Collision digest kept given)) before after = ⊥
ShowsTrial number (Err Full) before after = ⊥

-- over any keeper: these are the lines of some trial with this number, whose text is its script and whose rows are kept rows
pub record AreLinesOfSome (number : ℕ) (text : List ℕ) : Type 0 where
  pub trial : Trial
  pub is_trial : IsTrial number trial
  pub lines : text ≡ show_bytes trial
