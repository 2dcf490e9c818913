-- What fits a live source and what it stands for (this project's profile): by what is kept, and by what its devices tell now.
use Rattle.std.specs.Prelude.{◌≡◌, ℕ, Bool, List, ◌++◌, map, reverse, Option, Some, None, is_some}
use Rattle.std.specs.Option.{option_map}
use Rattle.prov_base.specs.declared.place.Pos.{Pos}
use Rattle.prov_outside.specs.Console.{ConsoleView}
use Rattle.prov_outside.specs.Folder.{Files}
use Rattle.prov_outside.specs.ClockAndRandom.{ClockAndRandomView}
use Rattle.prov_outside.specs.Tells.{Tells}
use Rattle.prov_outside.specs.declared.folder.Found.{Found as FoundThere}
use Rattle.capture.specs.Answers.{IsLast}
use Rattle.capture.specs.Capture.{CaptureView, is_among}
use Rattle.capture.specs.Files.{file_at}
use Rattle.capture.specs.declared.answer.Asked.{Asked}
use Rattle.answer_source.specs.Going.{Same, Goes, IsUntouched, StandsSo, fetches_failed}
use Rattle.answer_source.specs.Sources.{ask_seen, given_seen, found_seen, PathsOnce}
use Rattle.py_model.specs.Capture.{Capture, Kept, Telling, found_in}
use Rattle.py_model.specs.Plan.{Found}
use Rattle.py_model.specs.Running.{Asking, askings_at}

-- what is kept, as a capture of a run has it
abbrev pub kept_seen : Asked → Kept
kept_seen asked = record { at = asked.at; k = asked.k; what = ask_seen asked.what; given = given_seen asked.given }

abbrev pub file_seen : List ℕ × FoundThere → List ℕ × Found
file_seen file = (file.0, found_seen file.1)

-- something is kept of the path
abbrev pub has_file : CaptureView → List ℕ → Bool
has_file view path = is_some (file_at view.files path)

-- A capture of a run that began with what is kept and goes on from what the devices tell now. Its answers are those kept, in the order of
-- asking, and then those that the devices give up to the end of the run. Its files are those kept, and others that stand so in the folder,
-- which stays as it is. Of these each that was found as failed has raised the count of failing fetches by one, and nothing else has. Nothing is
-- written, and no file is put.
pub record IsCaptureOf (view : CaptureView) (now : Telling) (capture : Capture) : Type 0 where
  pub rest : List Kept
  pub answers : capture.answers ≡ map kept_seen view.answers ++ rest
  pub onward : Goes rest now capture.ends
  pub once : PathsOnce capture.files
  pub kept : (path : List ℕ) (found : FoundThere) → file_at view.files path ≡ Some found → found_in capture.files path ≡ Some (found_seen found)
  pub others : (path : List ℕ) (found : Found) → file_at view.files path ≡ None → found_in capture.files path ≡ Some found → StandsSo capture.ends.files path found
  pub folder : Tells now.files capture.ends.files Same
  pub file_faults : capture.ends.file_faults ≡ fetches_failed (has_file view) capture.files now.file_faults
  pub untouched : IsUntouched now capture.ends

-- what was asked, as a run notes it
abbrev pub asking_seen : Asked → Asking
asking_seen asked = record { at = asked.at; k = asked.k; what = ask_seen asked.what }

-- what was asked at each place is numbered so, and what is kept was asked in this order
abbrev pub AreNumbered : CaptureView → List Asking → Type 0
AreNumbered view askings = ((at : Pos) → IsLast view.answers at (askings_at at askings)) × (map asking_seen view.answers ≡ reverse askings)

-- the paths that are kept are exactly those that were fetched
abbrev pub AreFetched : CaptureView → List (List ℕ) → Type 0
AreFetched view fetches = (path : List ℕ) → has_file view path ≡ is_among path fetches

-- the capture of a run that ends now: it has what is kept, and nothing else
abbrev pub capture_of : CaptureView → Telling → Capture
capture_of view now = record { answers = map kept_seen view.answers; files = map file_seen view.files; ends = now }

-- what devices tell, and how often their calls failed
pub record Faults : Type 0 where
  pub line : ℕ
  pub write : ℕ
  pub file : ℕ
  pub source : ℕ
  pub put : ℕ
  pub time : ℕ
  pub word : ℕ

abbrev pub telling : Option ConsoleView → Option Files → Option ClockAndRandomView → Faults → Telling
telling console folder moments faults = record {
  lines = option_map (λ (view : ConsoleView). view.lines) console;
  written = option_map (λ (view : ConsoleView). view.written) console;
  files = folder;
  times = option_map (λ (view : ClockAndRandomView). view.times) moments;
  words = option_map (λ (view : ClockAndRandomView). view.words) moments;
  line_faults = faults.line;
  write_faults = faults.write;
  file_faults = faults.file;
  source_faults = faults.source;
  put_faults = faults.put;
  time_faults = faults.time;
  word_faults = faults.word;
}

-- what each device exposes, where it exposes, and how often each of their calls has failed so far
pub record Seen : Type 0 where
  pub console : Option ConsoleView
  pub folder : Option Files
  pub moments : Option ClockAndRandomView
  pub faults : Faults

abbrev pub told_by : Seen → Telling
told_by seen = telling seen.console seen.folder seen.moments seen.faults
