-- No public clause cites this file.
-- All pairs along which a set of statements is closed: those of the moments, and behind them those of parents.
use Rattle.std.specs.Prelude.{◌≡◌, ℕ, List, ◌++◌}
use Rattle.py_tree.specs.Tree.{ScriptTree}
use Rattle.py_model.specs.Moment.{Moment}
use Rattle.slice_edges.specs.declared.ask.Ask.{Ask}
use Rattle.slicer.specs.Pairs.{AreAskedIn}
use Rattle.slicer.specs.ParentPairs.{parents_below}

abbrev pub pair_of : Ask → ℕ × ℕ
pair_of a = (a.asker, a.asked)

pub record AreAllPairs (script : ScriptTree) (told : List Moment) (pairs : List (ℕ × ℕ)) : Type 0 where
  pub asked : List (ℕ × ℕ)
  pub are : AreAskedIn script told asked
  pub is : pairs ≡ asked ++ parents_below script script.count
