-- What the run of a slice does beside the script's run (after Korel and Laski 1988; this project's profile).
use Rattle.std.specs.Prelude.{◌≡◌, ◌≤◌, ℕ, true, List, ◌∷◌, ◌++◌, map, Option, Some, None}
use Rattle.std.specs.Option.{option_map}
use Rattle.prov_base.specs.declared.place.Pos.{Pos}
use Rattle.py_tree.specs.Deletion.{deleted}
use Rattle.py_tree.specs.Tree.{ScriptTree}
use Rattle.py_value.specs.Seen.{SeenLocation}
use Rattle.py_model.specs.Capture.{Capture, opening_in}
use Rattle.py_model.specs.History.{held, kinds_after, spent_on}
use Rattle.py_model.specs.Moment.{Moment, does}
use Rattle.py_model.specs.Occurrences.{up_to_evaluation}
use Rattle.py_model.specs.Plan.{Answer}
use Rattle.py_model.specs.Renaming.{Renaming, renamed_answer, renamed_kind}
use Rattle.slice_law.specs.Closed.{StmtSet, IsIn}
use Rattle.slice_law.specs.Edges.{reach_stmts}
use Rattle.slice_law.specs.Slices.{told_by}
use Rattle.slice_simulation.specs.Owned.{SamePlace}
use Rattle.slice_simulation.specs.Related.{Follows, kept_of}
use Rattle.slice_simulation.specs.Renaming.{marks_after, Fits, IsShifted, Matches, all_marks}

-- The run of the slice performs, up to some moment, exactly the moments of the script's run without those of statements that are not kept, and a
-- `pass` for each execution of an emptied suite, but in activations that such a statement entered. Statements are named by their places. In the stores there, what stands at a location whose
-- reach is kept corresponds, and so do the kinds of the objects of both runs, up to the numbers of objects. No more steps are spent.
pub record Simulates (script : ScriptTree) (capture : Capture) (path : List ℕ) (arguments : List (List ℕ)) (budget : ℕ) (keep : StmtSet) (upto : List Moment) : Type 0 where
  pub renaming : IsShifted (all_marks keep upto) 0
  pub again : List Moment
  pub after : List Moment
  pub reached : told_by (deleted keep script) capture path arguments budget ≡ after ++ again
  pub follows : Follows (SamePlace script (deleted keep script)) keep (all_marks keep upto) upto again
  pub contents : (l : SeenLocation) → ((s : ℕ) → IsIn (reach_stmts l upto) s → keep s ≡ true) → (r : Renaming) → Fits (all_marks keep upto) r
      → Matches r (held (opening_in capture path arguments).at upto) (held (opening_in capture path arguments).at again) l
  pub kinds : (r : Renaming) → Fits (all_marks keep upto) r
      → kinds_after (opening_in capture path arguments).kinds again ≡ map (renamed_kind r) (kept_of (marks_after keep upto) (kinds_after (opening_in capture path arguments).kinds upto))
  pub no_more : spent_on again ≤ spent_on upto

-- what the last moment answered
abbrev pub answer_of : List Moment → Option Answer
answer_of (does at number values answer made accesses weight ∷ before) = Some answer
answer_of told = None

-- The k-th evaluation at a place is reached, with the same number at the same place, and its value corresponds: the run of the slice performs up
-- to there what the script's run does.
pub record ReachesEvaluation (script : ScriptTree) (capture : Capture) (path : List ℕ) (arguments : List (List ℕ)) (budget : ℕ) (keep : StmtSet) (at : Pos) (k : ℕ) (upto : List Moment) : Type 0 where
  pub simulates : Simulates script capture path arguments budget keep upto
  pub found : up_to_evaluation at k (told_by (deleted keep script) capture path arguments budget) ≡ Some simulates.again
  pub answers : (r : Renaming) → Fits (all_marks keep upto) r → answer_of simulates.again ≡ option_map (renamed_answer r) (answer_of upto)
