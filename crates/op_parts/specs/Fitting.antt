-- What parts fit and stand for (this project's profile): a store over numbers, and a source of answers.
use Rattle.std.specs.Prelude.{◌≡◌, ℕ}
use Rattle.answer_source.specs.Sources.{Fits as FitsSource, Stands as StandsSource}
use Rattle.op_state.specs.Holding.{Found}
use Rattle.op_state.specs.Held.{HeldView, StandsHeld}
use Rattle.op_state.specs.Opening.{first_of}
use Rattle.op_work.specs.Work.{Extends}
use Rattle.py_model.specs.Capture.{Capture, with_bytes}
use Rattle.py_model.specs.Doing.{Standing}
use Rattle.py_value.specs.Values.{ValuesView, AreInterned}

-- the bytes that a capture has at a path, where it has some
abbrev pub found_by : Capture → Found
found_by capture = first_of (with_bytes capture.files)

-- A table has the texts and tuples that are held, and the capture fits the source.
pub record IsFitting (source : FitsSource) (values : ValuesView) (table : ValuesView) (capture : Capture) : Type 0 where
  pub interned : AreInterned table
  pub extends : Extends values table
  pub fits : source capture

-- What is held stands for the store of the run, as many activations were entered, and the source stands for what was asked and fetched.
pub record IsStanding (source : StandsSource) (held : HeldView) (entered : ℕ) (table : ValuesView) (capture : Capture) (s : Standing) : Type 0 where
  pub stands : StandsHeld (found_by capture) table held s.store
  pub entered_is : s.entered ≡ entered
  pub asked : source s.askings s.fetches
