-- No public clause cites this file.
-- What passes to each moment, the earliest first. It is the proof's means.
use Rattle.std.specs.Prelude.{ℕ, List, [], ◌∷◌, ◌++◌}
use Rattle.py_tree.specs.Tree.{ScriptTree}
use Rattle.py_model.specs.Moment.{Moment}
use Rattle.feedings.specs.Feeding.{passed}

abbrev pub all_passed : ScriptTree → List Moment → List (List ℕ)
all_passed script [] = []
all_passed script (moment ∷ before) = all_passed script before ++ (passed script moment before ∷ [])
