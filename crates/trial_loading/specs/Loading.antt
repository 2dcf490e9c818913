-- A kept trial, loaded, or what is amiss of it first (this project's profile).
use Rattle.std.specs.Prelude.{◌≡◌, ℕ, List, Some, None, IsTrue, Result, Ok, Err}
use Rattle.prov_base.specs.declared.place.Pos.{Pos}
use Rattle.py_tree.specs.Erasure.{script_of}
use Rattle.py_tree.specs.Numbering.{IsNumbered}
use Rattle.py_tree.specs.Tree.{ScriptTree}
use Rattle.py_tree.specs.WellFormed.{IsWellFormed}
use Rattle.py_grammar.specs.FlatTargets.{is_flat}
use Rattle.py_parser.specs.Reading.{HasScript, IsRefusedAt}
use Rattle.keeper.specs.declared.records.Head.{Head}
use Rattle.keeper.specs.Keeping.{KeeperView}
use Rattle.keeper.specs.Tables.{TablesView, head_at}
use Rattle.row_checks.specs.KeptRows.{AreKeptRows}
use Rattle.trial_tables.specs.Whole.{fine, damaged}
use Rattle.trial_tables.specs.declared.damage.Damage.{Damage}
use Rattle.trial_tables.specs.declared.damage.Damage.TheVariants.{ScriptAt}
use Rattle.trial_loading.specs.Rest.{RestView, script_in, IsRest}
use Rattle.trial_loading.specs.declared.paged_rows.PagedRows.{PagedRows}
use Rattle.trial_loading.specs.TrialPages.{AreRowsOf, IsRowDamage}
use Rattle.trial_keeping.specs.declared.fault.TrialFault.{TrialFault}
use Rattle.trial_keeping.specs.declared.fault.TrialFault.TheVariants.{NoTrial, Damaged, Keeper, Collision, Full, Memory}
use Rattle.trial_loading.specs.declared.trial.Trial.{Trial}

-- ---- a trial that is well kept

-- what was read of it besides its script and its rows
abbrev pub rest_of : Trial → RestView
rest_of trial = record { arguments = trial.arguments; capture = trial.capture; output = trial.output; finals = trial.finals.items }

-- its rows, and how they stand on its pages
abbrev pub pages_of : Trial → PagedRows
pages_of trial = record { rows = trial.rows; cuts = trial.cuts }

-- The trial with this number is well kept, and this is it: its head stands under the number, its path is one that a script may open, its text is
-- there with its digest, the text is this script, the records and contents are there and in form, and the pages hold these rows.
pub record IsLoaded (tables : TablesView) (number : ℕ) (trial : Trial) : Type 0 where
  pub number_is : trial.number ≡ number
  pub head_is : head_at tables.heads number ≡ Some trial.head
  pub text_is : script_in tables trial.head ≡ fine trial.text
  pub script_is : HasScript trial.text (script_of trial.script)
  pub rest_is : IsRest tables trial.head (fine (rest_of trial))
  pub rows_are : AreRowsOf tables number trial.head.pages trial.script.count (pages_of trial)

-- what holds of a script that was read
pub record IsInForm (tree : ScriptTree) : Type 0 where
  pub numbered : IsNumbered tree
  pub well_formed : IsWellFormed tree
  pub flat : IsTrue (is_flat tree)

-- What holds of a loaded trial over any keeper: it has this number, its text is its script, and its rows are kept rows.
pub record IsTrial (number : ℕ) (trial : Trial) : Type 0 where
  pub number_is : trial.number ≡ number
  pub script_is : HasScript trial.text (script_of trial.script)
  pub rows_are : AreKeptRows trial.script.count trial.rows

-- ---- a trial that is not

-- This is amiss first of what stands behind a script with so many statements: the records and contents, and then the rows.
pub data IsDamagedBehind (tables : TablesView) (number : ℕ) (head : Head) (statements : ℕ) (damage : Damage) : Type 0 where
  bad_rest : IsRest tables head (damaged damage) → IsDamagedBehind tables number head statements damage
  bad_rows : (rest : RestView) → IsRest tables head (fine rest) → IsRowDamage tables number head.pages statements damage → IsDamagedBehind tables number head statements damage

-- This is amiss first of a script's text, and what stands behind it: the text is no script, or it is one and what stands behind it is amiss.
pub data IsDamagedFrom (tables : TablesView) (number : ℕ) (head : Head) (text : List ℕ) (damage : Damage) : Type 0 where
  bad_script : (at : Pos) → IsRefusedAt text at → damage ≡ ScriptAt at → IsDamagedFrom tables number head text damage
  bad_behind : (tree : ScriptTree) → HasScript text tree → IsDamagedBehind tables number head tree.count damage → IsDamagedFrom tables number head text damage

-- This is amiss first of a trial with this head: its path or its script's text, or these are fine and what comes behind is amiss.
pub data IsDamagedUnder (tables : TablesView) (number : ℕ) (head : Head) (damage : Damage) : Type 0 where
  bad_text : script_in tables head ≡ damaged damage → IsDamagedUnder tables number head damage
  bad_from : (text : List ℕ) → script_in tables head ≡ fine text → IsDamagedFrom tables number head text damage → IsDamagedUnder tables number head damage

-- This is amiss first of the trial with this number.
pub record IsDamaged (tables : TablesView) (number : ℕ) (damage : Damage) : Type 0 where
  pub head : Head
  pub head_is : head_at tables.heads number ≡ Some head
  pub damage_is : IsDamagedUnder tables number head damage

-- ---- what loading answers

-- It answers the trial with this number, that there is none, or what is amiss of it first. It leaves all as it was, whatever it answers.
abbrev pub Loads : ℕ → Result Trial TrialFault → KeeperView → KeeperView → Type 0
Loads number (Ok trial) before after = IsLoaded before.seen number trial × (after ≡ before)
Loads number (Err (NoTrial other)) before after = (head_at before.seen.heads number ≡ None) × (after ≡ before)
Loads number (Err (Damaged other damage)) before after = IsDamaged before.seen number damage × (after ≡ before)
Loads number (Err Keeper) before after = after ≡ before
Loads number (Err Memory) before after = after ≡ before
Loads number (Err (Collision digest kept given)) before after = ⊥
Loads number (Err Full) before after = ⊥

-- what loading never answers, whatever keeper it is
abbrev pub IsOfLoading : ℕ → TrialFault → Type 0
IsOfLoading number (NoTrial other) = other ≡ number
IsOfLoading number (Damaged other damage) = other ≡ number
IsOfLoading number Keeper = Unit {0}
IsOfLoading number (Collision digest kept given) = ⊥
IsOfLoading number Full = ⊥
IsOfLoading number Memory = Unit {0}
