-- What a slice promises: the run of the script that is left in the same capture gives the same value at the same occurrence, in no more
-- steps. `slice_simulation` shows it (`slices_reproduce`).
use Rattle.std.specs.Prelude.{◌≡◌, ℕ, ◌≤◌, List, ◌∷◌, Option, Some, None}
use Rattle.prov_base.specs.declared.place.Pos.{Pos}
use Rattle.py_tree.specs.Deletion.{deleted}
use Rattle.py_tree.specs.Tree.{ScriptTree}
use Rattle.py_tree.specs.WellFormed.{IsWellFormed}
use Rattle.py_model.specs.Capture.{Capture, opening_in}
use Rattle.py_model.specs.Graph.{graph_text}
use Rattle.py_model.specs.History.{spent_on}
use Rattle.py_model.specs.Meaning.{meaning, starting}
use Rattle.py_model.specs.Moment.{Moment, does}
use Rattle.py_model.specs.Occurrences.{up_to_evaluation}
use Rattle.py_model.specs.Plan.{value}
use Rattle.py_model.specs.Running.{outcome, state_in}
use Rattle.py_model.specs.Store.{RunStore}
use Rattle.slice_law.specs.Classes.{ClassesStandOutside}
use Rattle.slice_law.specs.Closed.{StmtSet, IsLeast, store_after}

-- the moments of the run of a script, the latest first
abbrev pub told_by : ScriptTree → Capture → List ℕ → List (List ℕ) → ℕ → List Moment
told_by script capture path arguments steps = (state_in (outcome capture (meaning script steps) (starting capture path arguments steps))).told

-- the graph text of the value that the last moment gave, in the store just after it
abbrev pub last_value : ScriptTree → RunStore → List Moment → Option (List ℕ)
last_value script opening (does at number values (value v) made accesses weight ∷ before) =
    Some (graph_text script (store_after opening (does at number values (value v) made accesses weight ∷ before)) v)
last_value script opening told = None

-- The k-th evaluation at a place, reached in the run of the script by some moments, is reached in the run of the slice too, with as many
-- steps as the whole run took: the value has the same graph text there, and no more steps are spent.
pub record Reproduces (script : ScriptTree) (capture : Capture) (path : List ℕ) (arguments : List (List ℕ)) (spent : ℕ) (at : Pos) (k : ℕ) (upto : List Moment) (keep : StmtSet) : Type 0 where
  pub again : List Moment
  pub reached : up_to_evaluation at k (told_by (deleted keep script) capture path arguments spent) ≡ Some again
  pub same_value : last_value (deleted keep script) (opening_in capture path arguments) again ≡ last_value script (opening_in capture path arguments) upto
  pub no_more : spent_on again ≤ spent_on upto

-- for every script whose numbers and places are as a parser gives them and whose classes stand outside functions, every capture and budget, every
-- evaluation and its least set
abbrev pub SlicesReproduce : Type 0
SlicesReproduce = (script : ScriptTree) → IsWellFormed script → ClassesStandOutside script → (capture : Capture) (path : List ℕ) (arguments : List (List ℕ)) (steps : ℕ) (at : Pos) (k : ℕ)
    (upto : List Moment) (keep : StmtSet)
    → up_to_evaluation at k (told_by script capture path arguments steps) ≡ Some upto → IsLeast script (opening_in capture path arguments) upto keep
    → Reproduces script capture path arguments (spent_on (told_by script capture path arguments steps)) at k upto keep
