-- The text of the command `history` (this project's profile): a line for each trial, by number.
use Rattle.std.specs.Prelude.{◌≡◌, ℕ, zero, suc, ◌==◌, if◌then◌else◌, List, [], ◌∷◌, ◌++◌, codes, Bool, false, Option, Some, None, Result, Ok, Err}
use Rattle.std.specs.Fmt.{decimal}
use Rattle.keeper.specs.declared.records.Head.{Head}
use Rattle.keeper.specs.Keeping.{KeeperView}
use Rattle.keeper.specs.Tables.{TablesView}
use Rattle.trial_keeping.specs.declared.fault.TrialFault.{TrialFault}
use Rattle.trial_list.specs.Lines.{right}

-- ---- one line

-- the number of the parent, or `-` where there is none
abbrev pub parent_text : ℕ → List ℕ
parent_text zero = codes "-"
parent_text (suc n) = decimal (suc n)

-- `*` for a trial that is the current one of its path, and a blank for every other
abbrev pub mark_text : Bool → List ℕ
mark_text marked = if marked then codes "*" else codes " "

-- number, parent, mark and path, with a blank between each two, and LF
abbrev pub history_line : ℕ → Head → Bool → List ℕ
history_line number head marked =
    right 7 (decimal number) ++ codes " " ++ right 7 (parent_text head.parent) ++ codes " " ++ mark_text marked ++ codes " " ++ head.path ++ 10 ∷ []

-- ---- all lines

-- the trial that is current is the one with this number
abbrev pub is_trial : Option ℕ → ℕ → Bool
is_trial None number = false
is_trial (Some current) number = current == number

-- whether each trial is the current one of its path, from the one with this number on
unfoldable pub marks_from : (List ℕ → Option ℕ) → ℕ → List Head → List Bool
marks_from current number [] = []
marks_from current number (head ∷ heads) = is_trial (current head.path) number ∷ marks_from current (suc number) heads

-- the lines of heads with their marks, of which the first is that of the trial with this number
unfoldable pub lines_from : ℕ → List Head → List Bool → List ℕ
lines_from number [] marks = []
lines_from number (head ∷ heads) [] = []
lines_from number (head ∷ heads) (marked ∷ marks) = history_line number head marked ++ lines_from (suc number) heads marks

-- the lines of all trials
abbrev pub history_bytes : TablesView → List ℕ
history_bytes tables = lines_from 1 tables.heads (marks_from tables.current 1 tables.heads)

-- ---- what `history` answers

-- It answers the lines of all trials. It leaves all as it was, whatever it answers.
abbrev pub TellsHistory : Result (List ℕ) TrialFault → KeeperView → KeeperView → Type 0
TellsHistory (Ok text) before after = (text ≡ history_bytes before.seen) × (after ≡ before)
TellsHistory (Err fault) before after = after ≡ before

-- over any keeper: these are the lines of some heads with some marks
pub record AreSomeLines (text : List ℕ) : Type 0 where
  pub heads : List Head
  pub marks : List Bool
  pub lines : text ≡ lines_from 1 heads marks
