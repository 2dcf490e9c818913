-- A run with the answers of a capture, and the value of one evaluation of it (this project's profile).
use Rattle.std.specs.Prelude.{◌≡◌, ℕ, List, Some, None, min}
use Rattle.prov_base.specs.declared.place.Pos.{Pos}
use Rattle.py_model.specs.Capture.{Capture, opening_in}
use Rattle.py_model.specs.History.{spent_on}
use Rattle.py_model.specs.Moment.{Moment}
use Rattle.py_model.specs.Occurrences.{up_to_evaluation}
use Rattle.py_tree.specs.Tree.{ScriptTree}
use Rattle.slice_law.specs.Slices.{last_value, told_by}

-- The run of the script at a path, with these arguments and so many steps, in a capture, reaches the k-th evaluation at a place. The text is the graph text
-- of its value in the store just after it. The cost is the lesser of 4294967295 and what the moments up to it cost.
pub record IsReplayText (script : ScriptTree) (path : List ℕ) (arguments : List (List ℕ)) (capture : Capture) (steps : ℕ) (at : Pos) (k : ℕ) (text : List ℕ) (cost : ℕ) : Type 0 where
  pub upto : List Moment
  pub reached : up_to_evaluation at k (told_by script capture path arguments steps) ≡ Some upto
  pub text_is : last_value script (opening_in capture path arguments) upto ≡ Some text
  pub steps_are : cost ≡ min 4294967295 (spent_on upto)

-- that run lacks the evaluation
abbrev pub LacksEvaluation : ScriptTree → List ℕ → List (List ℕ) → Capture → ℕ → Pos → ℕ → Type 0
LacksEvaluation script path arguments capture steps at k = up_to_evaluation at k (told_by script capture path arguments steps) ≡ None
