-- A run over devices that is recorded (this project's profile): it is the bare run, the answers of its capture are put in order, and its pages
-- are those of the rows of its moments.
use Rattle.std.specs.Prelude.{◌≡◌, ℕ, List, map, reverse, Result, Ok, Err}
use Rattle.std.specs.List.Sorted.{IsPermutation}
use Rattle.prov_base.specs.declared.place.Pos.{Pos}
use Rattle.prov_base.specs.declared.refusal.Memory.{Memory}
use Rattle.capture.specs.Answers.{answer_at, AreInOrder, AreOnce}
use Rattle.capture.specs.Capture.{CaptureView, is_among}
use Rattle.capture.specs.declared.ended.Ended.{Ended as EndedRun}
use Rattle.answer_source.specs.Live.{asking_seen, capture_of, has_file}
use Rattle.op_state.specs.Finals.{file_out}
use Rattle.py_model.specs.Capture.{Capture, Telling}
use Rattle.py_model.specs.Meaning.{run, meaning, starting}
use Rattle.py_model.specs.Moment.{Moment}
use Rattle.py_model.specs.Running.{state_in, outcome}
use Rattle.py_tree.specs.Tree.{ScriptTree}
use Rattle.run_engine.specs.Bare.{EndsAs, RunsBare}
use Rattle.trace_rows.specs.RowBytes.{AreRows}
use Rattle.recorder.specs.MomentRows.{rows as rows_of}
use Rattle.recorder.specs.PageCuts.{pages as pages_of_rows}
use Rattle.recorded_runs.specs.Typed.{AreTexts, FitsTypes}
use Rattle.recorded_runs.specs.declared.recording.Recorded.{Recorded}

-- a run that is over, with this capture in the place of its own
abbrev pub with_capture : EndedRun → CaptureView → EndedRun
with_capture over capture = record over { capture = capture }

-- What was answered in the order of asking is kept in ascending order of place and number. No answer is lost and none is new, and under each place
-- and number stands what stood there. No two answers have one place and number.
pub record PutsInOrder (asked kept : CaptureView) : Type 0 where
  pub ascending : AreInOrder kept.answers
  pub permuted : IsPermutation asked.answers kept.answers
  pub found : (at : Pos) (k : ℕ) → answer_at kept.answers at k ≡ answer_at asked.answers at k
  pub rest : kept ≡ record asked { answers = kept.answers }
  pub asked_once : AreOnce asked.answers
  pub kept_once : AreOnce kept.answers

-- The pages are those of the rows of these moments. The numbers in these rows fit their types, so each page is decoded as the next of them.
pub record ArePagesOf (moments : List Moment) (pages : List (List ℕ)) : Type 0 where
  pub pages_are : pages ≡ pages_of_rows (rows_of moments)
  pub fit : AreRows (rows_of moments)

-- The run is the bare one, in the capture with its answers as they were asked. Its pages are those of the moments that the script has in that capture. Path and arguments
-- are texts, and what is kept fits the types in which it is held.
pub record IsRecordedRun (script : ScriptTree) (path : List ℕ) (arguments : List (List ℕ)) (steps : ℕ) (before after : Telling) (asked : CaptureView) (it : Recorded) : Type 0 where
  pub runs : RunsBare script path arguments steps before after (Ok (with_capture it.ended asked))
  pub in_order : PutsInOrder asked it.ended.capture
  pub pages : ArePagesOf (run script path arguments (capture_of asked after) steps).moments it.pages
  pub texts : AreTexts path arguments
  pub fits : FitsTypes it.ended

-- A run over devices that told this before it and tell that after it, recorded. After a lack of memory all is as after a bare run that lacked it.
abbrev pub RecordsRun : ScriptTree → List ℕ → List (List ℕ) → ℕ → Telling → Telling → Result Recorded Memory → Type 0
RecordsRun script path arguments steps before after (Ok it) = (asked : CaptureView) × IsRecordedRun script path arguments steps before after asked it
RecordsRun script path arguments steps before after (Err want) = RunsBare script path arguments steps before after (Err want)

-- what a bare run says, said of a recorded one, with its answers as they were asked
abbrev pub IsBareOf : ScriptTree → List ℕ → List (List ℕ) → ℕ → Telling → Telling → Result Recorded Memory → Type 0
IsBareOf script path arguments steps before after (Ok it) = (asked : CaptureView) × (PutsInOrder asked it.ended.capture × RunsBare script path arguments steps before after (Ok (with_capture it.ended asked)))
IsBareOf script path arguments steps before after (Err want) = RunsBare script path arguments steps before after (Err want)

-- The run in a capture is the recorded one: how it ended, its steps, its output, its files, and its moments by their pages. It asks what is kept, each
-- once, and nothing else, and it fetches the files that are kept and no other.
pub record IsRunOf (script : ScriptTree) (path : List ℕ) (arguments : List (List ℕ)) (steps : ℕ) (capture : Capture) (it : Recorded) : Type 0 where
  pub end_is : EndsAs (outcome capture (meaning script steps) (starting capture path arguments steps)) it.ended.end
  pub steps_are : (run script path arguments capture steps).steps ≡ it.ended.steps
  pub output_is : (run script path arguments capture steps).output ≡ it.ended.output
  pub finals_are : (run script path arguments capture steps).finals ≡ map file_out it.ended.finals.items
  pub pages : ArePagesOf (run script path arguments capture steps).moments it.pages
  pub asked : IsPermutation (run script path arguments capture steps).asked (map asking_seen it.ended.capture.answers)
  pub fetched : (one : List ℕ) → is_among one (state_in (outcome capture (meaning script steps) (starting capture path arguments steps))).fetches ≡ has_file it.ended.capture one

-- both runs end so, took as many steps, printed the same and left the same files
pub record ComeOutAlike (one other : EndedRun) : Type 0 where
  pub end : one.end ≡ other.end
  pub steps : one.steps ≡ other.steps
  pub output : one.output ≡ other.output
  pub finals : one.finals.items ≡ other.finals.items

-- ---- how a run that is over is made a recorded one

-- The moments are given the latest first, as a recorder tells them.
pub record IsFinished (ended : EndedRun) (told : List Moment) (it : Recorded) : Type 0 where
  pub runs : with_capture it.ended ended.capture ≡ ended
  pub in_order : PutsInOrder ended.capture it.ended.capture
  pub pages : ArePagesOf (reverse told) it.pages
  pub fits : FitsTypes it.ended
