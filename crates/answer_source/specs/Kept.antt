-- What fits a capture that was kept and what it stands for (this project's profile).
use Rattle.std.specs.Prelude.{◌≡◌, ℕ, List, map}
use Rattle.prov_base.specs.declared.place.Pos.{Pos}
use Rattle.capture.specs.AnswersView.{noted_last}
use Rattle.capture.specs.Capture.{CaptureView}
use Rattle.answer_source.specs.Live.{kept_seen, file_seen}
use Rattle.py_model.specs.Capture.{Capture}
use Rattle.py_model.specs.Running.{Asking, askings_at}

-- a capture of a run that has what is kept, and nothing else, whatever its devices tell
pub record IsExactly (view : CaptureView) (capture : Capture) : Type 0 where
  pub answers : capture.answers ≡ map kept_seen view.answers
  pub files : capture.files ≡ map file_seen view.files

-- how often was asked at each place in this run is noted so
abbrev pub AreCounted : List (Pos × ℕ) → List Asking → Type 0
AreCounted entries askings = (at : Pos) → noted_last entries at ≡ askings_at at askings
