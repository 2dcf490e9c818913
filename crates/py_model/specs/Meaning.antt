-- What a script means (this project's profile): its run in a capture with so many steps.
use Rattle.std.specs.Prelude.{ℕ, zero, suc, ◌-◌, List, [], ◌∷◌, reverse, None, unwrap_or}
use Rattle.py_tree.specs.Tree.{ScriptTree}
use Rattle.py_model.specs.Act.{Act, How, stop, threw}
use Rattle.py_model.specs.Capture.{Capture, opening_in}
use Rattle.py_model.specs.Expressions.{Here, Task}
use Rattle.py_model.specs.Moment.{Moment}
use Rattle.py_model.specs.Running.{Asking, State, Ended, over, spent, lacking, state_in, outcome}
use Rattle.py_model.specs.Statements.{suite, task}
use Rattle.py_model.specs.Store.{RunStore, file_of}

-- A task with so many turns and calls one inside the other; past them is `stop`.
unfoldable pub level : ScriptTree → ℕ → Task → Act
level script zero what = stop
level script (suc n) what = task script (level script n) what

-- at module level, before the first statement
abbrev pub at_start : Here
at_start = record { activation = 0; function = None; open_activations = 0; handled = None; in_class = None; line = 0 }

-- Every turn of a loop and every call costs a step, so as many levels as there are steps are enough, and one more.
abbrev pub meaning : ScriptTree → ℕ → Act
meaning script steps = suite script (level script (suc steps)) at_start script.body

abbrev pub starting : Capture → List ℕ → List (List ℕ) → ℕ → State
starting capture path arguments steps = record { store = opening_in capture path arguments; left = steps; entered = 0; told = []; askings = []; fetches = [] }

-- how a run ends: at the end of the script; by an exception, its object and the line of the innermost statement that raised it; since
-- its steps do not suffice; or since the capture lacks an answer
pub data RunEnd : Type 0 where
  finished : RunEnd
  uncaught : ℕ → ℕ → RunEnd
  out_of_steps : RunEnd
  unanswered_run : RunEnd

-- A run: how it ended, the steps that it took, what it printed, the files that it opened for writing in order of first opening, each with
-- its bytes, its moments in order, and the askings and paths that it asked the capture for.
pub record Run : Type 0 where
  pub end : RunEnd
  pub steps : ℕ
  pub output : List ℕ
  pub finals : List (List ℕ × List ℕ)
  pub moments : List Moment
  pub asked : List Asking
  pub fetched : List (List ℕ)

abbrev pub end_of : How → RunEnd
end_of (threw o line) = uncaught o line
end_of how = finished

abbrev pub end_in : Ended → RunEnd
end_in (over how s) = end_of how
end_in (spent s) = out_of_steps
end_in (lacking s) = unanswered_run

abbrev pub final_files : RunStore → List (List ℕ) → List (List ℕ × List ℕ)
final_files store [] = []
final_files store (path ∷ paths) = (path, unwrap_or (file_of store path) []) ∷ final_files store paths

abbrev pub run_of : ℕ → Ended → Run
run_of steps ended = record {
  end = end_in ended;
  steps = steps - (state_in ended).left;
  output = (state_in ended).store.printed;
  finals = final_files (state_in ended).store (state_in ended).store.opened;
  moments = reverse (state_in ended).told;
  asked = reverse (state_in ended).askings;
  fetched = reverse (state_in ended).fetches;
}

abbrev pub run : ScriptTree → List ℕ → List (List ℕ) → Capture → ℕ → Run
run script path arguments capture steps = run_of steps (outcome capture (meaning script steps) (starting capture path arguments steps))
