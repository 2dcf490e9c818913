-- A run over devices (this project's profile): it is the run of the script in what the devices gave, and a watch is told its moments.
use Rattle.std.specs.Prelude.{◌≡◌, ℕ, List, [], ◌++◌, map, Option, Result, Ok, Err}
use Rattle.answer_source.specs.Live.{IsCaptureOf, asking_seen, capture_of, has_file}
use Rattle.capture.specs.Capture.{CaptureView, is_among}
use Rattle.prov_base.specs.declared.refusal.Memory.{Memory}
use Rattle.capture.specs.declared.ended.Ended.{Ended as EndedRun}
use Rattle.capture.specs.declared.ended.RunEnd.{RunEnd as EndTold}
use Rattle.capture.specs.declared.ended.RunEnd.TheVariants.{Finished, Raised, Spent}
use Rattle.op_state.specs.Finals.{file_out}
use Rattle.op_state.specs.Uncaught.{class_raised, text_raised}
use Rattle.py_model.specs.Capture.{Capture, Telling}
use Rattle.py_model.specs.Meaning.{run, meaning, starting, end_in, finished, uncaught, out_of_steps}
use Rattle.py_model.specs.Moment.{Moment}
use Rattle.py_model.specs.Running.{Ended, state_in, outcome}
use Rattle.py_model.specs.Told.{TellsOn}
use Rattle.py_tree.specs.Tree.{ScriptTree}

-- nothing is kept yet
abbrev pub nothing_kept : CaptureView
nothing_kept = record { answers = []; files = []; written = [] }

-- how a run came out is told so: of an exception the name of its class, the line in which it was raised last, and its argument where it has one
-- alone that is a text
abbrev pub EndsAs : Ended → EndTold → Type 0
EndsAs ended Finished = end_in ended ≡ finished
EndsAs ended (Raised class line text) = (o : ℕ) × ((end_in ended ≡ uncaught o line) × ((class_raised (state_in ended).store o ≡ class) × (text_raised (state_in ended).store o ≡ text)))
EndsAs ended Spent = end_in ended ≡ out_of_steps

-- A run that is over is that of the script at a path, with these arguments and so many steps, in a capture: its end, the steps that it took, what it
-- printed, and the files that it opened for writing. What is kept was asked by it in this order, and the files that are kept are those that it fetched.
pub record IsEnded (script : ScriptTree) (path : List ℕ) (arguments : List (List ℕ)) (steps : ℕ) (capture : Capture) (over : EndedRun) : Type 0 where
  pub end_is : EndsAs (outcome capture (meaning script steps) (starting capture path arguments steps)) over.end
  pub steps_are : (run script path arguments capture steps).steps ≡ over.steps
  pub output_is : (run script path arguments capture steps).output ≡ over.output
  pub finals_are : (run script path arguments capture steps).finals ≡ map file_out over.finals.items
  pub asked_are : (run script path arguments capture steps).asked ≡ map asking_seen over.capture.answers
  pub fetched_are : (one : List ℕ) → is_among one (state_in (outcome capture (meaning script steps) (starting capture path arguments steps))).fetches ≡ has_file over.capture one

-- A run over devices that told this before it and tell that after it. It is the run of the script in the capture that it answers, and that capture is what
-- the devices gave in the meantime, one answer after the other. After a lack of memory some capture is.
abbrev pub RunsBare : ScriptTree → List ℕ → List (List ℕ) → ℕ → Telling → Telling → Result EndedRun Memory → Type 0
RunsBare script path arguments steps before after (Ok over) =
    IsCaptureOf nothing_kept before (capture_of over.capture after) × IsEnded script path arguments steps (capture_of over.capture after) over
RunsBare script path arguments steps before after (Err want) = (view : CaptureView) × IsCaptureOf nothing_kept before (capture_of view after)

-- Where the watch tells what it was told, that has grown by exactly the moments of the run in the capture that is answered, the latest first.
abbrev pub RunsTold : ScriptTree → List ℕ → List (List ℕ) → ℕ → Telling → Option (List Moment) → Option (List Moment) → Result EndedRun Memory → Type 0
RunsTold script path arguments steps after was is (Ok over) =
    TellsOn was is (λ told more. more ≡ (state_in (outcome (capture_of over.capture after) (meaning script steps) (starting (capture_of over.capture after) path arguments steps))).told ++ told)
RunsTold script path arguments steps after was is (Err want) = Unit {0}

-- a run over devices of which a watch is told
abbrev pub RunsRecorded : ScriptTree → List ℕ → List (List ℕ) → ℕ → Telling → Telling → Option (List Moment) → Option (List Moment) → Result EndedRun Memory → Type 0
RunsRecorded script path arguments steps before after was is result = RunsBare script path arguments steps before after result × RunsTold script path arguments steps after was is result
