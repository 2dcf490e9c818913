-- No public clause cites this file.
-- Stages of the text. It is the proof's means; no public clause speaks of it.
use Rattle.std.specs.Prelude.{◌≡◌, ℕ, List, [], ◌∷◌, ◌++◌, codes, Bool, Vec, Result, Ok, Err}
use Rattle.std.specs.Fmt.{decimal}
use Rattle.std.specs.declared.alloc.Global.{Global}
use Rattle.keeper.specs.declared.records.Head.{Head}
use Rattle.keeper.specs.Keeping.{KeeperView}
use Rattle.trial_keeping.specs.declared.fault.TrialFault.{TrialFault}
use Rattle.trial_list.specs.Lines.{right}
use Rattle.trial_history.specs.History.{is_trial, marks_from}

-- the line with these columns, of which the parent is as wide as its column
abbrev pub line_of : ℕ → List ℕ → List ℕ → List ℕ → List ℕ
line_of number parent mark path = right 7 (decimal number) ++ codes " " ++ parent ++ codes " " ++ mark ++ codes " " ++ path ++ 10 ∷ []

-- It answers whether the trial is current for the path, and leaves all as it was, whatever it answers.
abbrev pub FindsMark : ℕ → List ℕ → Result Bool TrialFault → KeeperView → KeeperView → Type 0
FindsMark number path (Ok marked) before after = (marked ≡ is_trial (before.seen.current path) number) × (after ≡ before)
FindsMark number path (Err fault) before after = after ≡ before

-- It answers the marks of these heads, and leaves all as it was, whatever it answers.
abbrev pub FindsMarks : List Head → Result (Vec Bool Global) TrialFault → KeeperView → KeeperView → Type 0
FindsMarks heads (Ok marks) before after = (marks.items ≡ marks_from before.seen.current 1 heads) × (after ≡ before)
FindsMarks heads (Err fault) before after = after ≡ before
