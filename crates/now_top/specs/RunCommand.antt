-- What `run` comes to, with `--bare` and without (this project's profile): the run of the script at FILE in what the devices give.
use Rattle.std.specs.Prelude.{◌≡◌, ℕ, List, map, Option, Some, None, is_some}
use Rattle.capture.specs.Capture.{is_among}
use Rattle.delivery.specs.Ending.{Ending, done, uncaught, refused, nothing_there, out_of_steps}
use Rattle.op_state.specs.Uncaught.{class_raised, text_raised}
use Rattle.prov_base.specs.declared.place.Pos.{Pos}
use Rattle.py_model.specs.Act.{How, threw}
use Rattle.py_model.specs.Capture.{Capture, Kept, found_in}
use Rattle.py_model.specs.Meaning.{run, meaning, starting}
use Rattle.py_model.specs.Running.{Asking, Ended, over, spent, lacking, state_in, outcome}
use Rattle.py_model.specs.Store.{RunStore}
use Rattle.py_tree.specs.Tree.{ScriptTree}
use Rattle.py_parser.specs.Reading.{HasScript, IsRefusedAt}
use Rattle.now_top.specs.World.{World, Plan, closing, StandsAt, IsNowhere, IsUnasked}

-- How the command ends after a run: of an exception that nothing caught it says the name of its class, the line in which it was raised
-- last, and its argument where it has one alone that is a text.
abbrev pub ending_by : How → RunStore → Ending
ending_by (threw o line) store = uncaught (class_raised store o) line (text_raised store o)
ending_by how store = done

-- a run that lacks an answer has none
abbrev pub ending_in : Ended → Option Ending
ending_in (over how s) = Some (ending_by how s.store)
ending_in (spent s) = Some out_of_steps
ending_in (lacking s) = None

-- what an answer was given to
abbrev pub asking_of : Kept → Asking
asking_of kept = record { at = kept.at; k = kept.k; what = kept.what }

-- The run of a script at FILE with these arguments and so many steps in a capture: its end, its output, and the files that it opened for writing,
-- in order of first opening. The capture has an answer for each asking of the run, in the order of asking, and the files that it
-- fetched, and no more.
pub record IsRunOf (script : ScriptTree) (file : List ℕ) (arguments : List (List ℕ)) (steps : ℕ) (capture : Capture) (plan : Plan) : Type 0 where
  pub ending : ending_in (outcome capture (meaning script steps) (starting capture file arguments steps)) ≡ Some plan.ending
  pub text : (run script file arguments capture steps).output ≡ plan.text
  pub files : (run script file arguments capture steps).finals ≡ plan.files
  pub asked : (run script file arguments capture steps).asked ≡ map asking_of capture.answers
  pub fetched : (path : List ℕ) → is_among path (state_in (outcome capture (meaning script steps) (starting capture file arguments steps))).fetches ≡ is_some (found_in capture.files path)

-- what a text at FILE comes to
pub data RunsText (file text : List ℕ) (steps : ℕ) (arguments : List (List ℕ)) (capture : Capture) : Plan → Type 0 where
  no_script : (at : Pos) → IsRefusedAt text at → IsUnasked capture → RunsText file text steps arguments capture (closing (refused file at.line at.col))
  runs : (script : ScriptTree) → HasScript text script → (plan : Plan) → IsRunOf script file arguments steps capture plan → RunsText file text steps arguments capture plan

pub data MeansRun (file : List ℕ) (steps : ℕ) (arguments : List (List ℕ)) (world : World) : Plan → Type 0 where
  nowhere : IsNowhere file world.files → IsUnasked world.capture → MeansRun file steps arguments world (closing nothing_there)
  stands : (text : List ℕ) → StandsAt file world.files text → (plan : Plan) → RunsText file text steps arguments world.capture plan → MeansRun file steps arguments world plan
