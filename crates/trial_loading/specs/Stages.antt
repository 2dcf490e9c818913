-- The stages of loading. It is the proof's means; no public clause speaks of it.
use Rattle.std.specs.Prelude.{◌≡◌, ℕ, List, Result, Ok, Err}
use Rattle.py_tree.specs.Erasure.{script_of}
use Rattle.py_tree.specs.declared.stmt.Script.{Script}
use Rattle.py_parser.specs.Reading.{HasScript}
use Rattle.py_parser.specs.declared.refusal.Refusal.{Refusal}
use Rattle.py_parser.specs.declared.refusal.Refusal.TheVariants.{At, Memory as NoMemory}
use Rattle.keeper.specs.declared.records.Head.{Head}
use Rattle.keeper.specs.Keeping.{KeeperView}
use Rattle.keeper.specs.Tables.{TablesView}
use Rattle.trial_tables.specs.Whole.{fine}
use Rattle.trial_tables.specs.declared.damage.Damage.TheVariants.{ScriptAt}
use Rattle.trial_tables.specs.declared.read_fault.ReadFault.{ReadFault}
use Rattle.trial_tables.specs.declared.read_fault.ReadFault.TheVariants.{Damaged as PartDamaged, Keeper as PartKeeper, Memory as PartMemory}
use Rattle.trial_loading.specs.Rest.{RestView, IsRest}
use Rattle.trial_loading.specs.declared.paged_rows.PagedRows.{PagedRows}
use Rattle.trial_loading.specs.TrialPages.{AreRowsOf}
use Rattle.trial_keeping.specs.declared.fault.TrialFault.{TrialFault}
use Rattle.trial_keeping.specs.declared.fault.TrialFault.TheVariants.{NoTrial, Damaged, Keeper, Collision, Full, Memory}
use Rattle.trial_loading.specs.declared.behind.Behind.{Behind}
use Rattle.trial_loading.specs.declared.trial.Trial.{Trial}
use Rattle.trial_loading.specs.Loading.{IsDamagedFrom, rest_of, pages_of}

-- a fault of a part, as one of its trial
abbrev pub of_reading : ℕ → ReadFault → TrialFault
of_reading number (PartDamaged damage) = Damaged number damage
of_reading number PartKeeper = Keeper
of_reading number PartMemory = Memory

-- a refusal of the text, as a fault of its trial
abbrev pub of_refusal : ℕ → Refusal → TrialFault
of_refusal number (At at) = Damaged number (ScriptAt at)
of_refusal number NoMemory = Memory

-- what stands behind a script with so many statements
pub record IsBehind (tables : TablesView) (number : ℕ) (head : Head) (statements : ℕ) (behind : Behind) : Type 0 where
  pub rest_is : IsRest tables head (fine behind.rest)
  pub rows_are : AreRowsOf tables number head.pages statements behind.paged

-- what was read, with the rows where these were read too
abbrev pub with_rows : RestView → Result PagedRows ReadFault → Result Behind ReadFault
with_rows rest (Ok paged) = Ok (record { rest = rest; paged = paged })
with_rows rest (Err fault) = Err fault

-- the trial has these parts
pub record IsMadeOf (number : ℕ) (head : Head) (text : List ℕ) (script : Script) (behind : Behind) (trial : Trial) : Type 0 where
  pub number_is : trial.number ≡ number
  pub same_head : trial.head ≡ head
  pub same_text : trial.text ≡ text
  pub same_script : trial.script ≡ script
  pub same_rest : rest_of trial ≡ behind.rest
  pub same_pages : pages_of trial ≡ behind.paged

-- the trial is that with this number, this head and this text
pub record IsFrom (tables : TablesView) (number : ℕ) (head : Head) (text : List ℕ) (trial : Trial) : Type 0 where
  pub number_is : trial.number ≡ number
  pub same_head : trial.head ≡ head
  pub same_text : trial.text ≡ text
  pub script_is : HasScript trial.text (script_of trial.script)
  pub rest_is : IsRest tables trial.head (fine (rest_of trial))
  pub rows_are : AreRowsOf tables number trial.head.pages trial.script.count (pages_of trial)

-- what the stages behind the text answer
abbrev pub LoadsFrom : ℕ → Head → List ℕ → Result Trial TrialFault → KeeperView → KeeperView → Type 0
LoadsFrom number head text (Ok trial) before after = IsFrom before.seen number head text trial × (after ≡ before)
LoadsFrom number head text (Err (Damaged other damage)) before after = IsDamagedFrom before.seen number head text damage × (after ≡ before)
LoadsFrom number head text (Err Keeper) before after = after ≡ before
LoadsFrom number head text (Err Memory) before after = after ≡ before
LoadsFrom number head text (Err (NoTrial other)) before after = ⊥
LoadsFrom number head text (Err (Collision digest kept given)) before after = ⊥
LoadsFrom number head text (Err Full) before after = ⊥

-- what they never answer, whatever keeper it is
abbrev pub IsOfStage : ℕ → TrialFault → Type 0
IsOfStage number (NoTrial other) = ⊥
IsOfStage number (Damaged other damage) = other ≡ number
IsOfStage number Keeper = Unit {0}
IsOfStage number (Collision digest kept given) = ⊥
IsOfStage number Full = ⊥
IsOfStage number Memory = Unit {0}
