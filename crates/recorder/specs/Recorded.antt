-- What holds of a recorder: its rows are those of the moments that it was told.
use Rattle.std.specs.Prelude.{◌≡◌, ℕ, Bool, true, List, []}
use Rattle.py_value.specs.Values.{AreInterned}
use Rattle.py_model.specs.Moment.{Moment}
use Rattle.trace_rows.specs.declared.row.Row.{Row}
use Rattle.recorder.specs.MomentRows.{all_told}
use Rattle.recorder.specs.Naming.{Naming}
use Rattle.recorder.specs.Telling.{view_of, told_by}

-- what a recorder keeps, the latest first: the rows, and the numbers of the statements that ended, which no row has
pub record Records : Type 0 where
  pub rows : List Row
  pub ended : List ℕ

-- the moments that it was told, the latest first
abbrev pub moments_of : Records → List Moment
moments_of r = told_by r.rows r.ended

-- The rows, and the numbers of the statements that ended, are given the latest first. While it is whole, what has numbers in the rows is known.
pub record IsRecorded (rows : List Row) (ended : List ℕ) (is_whole : Bool) (naming : Naming) : Type 0 where
  pub all : all_told (told_by rows ended) ≡ record { view = view_of rows; rows = rows }
  pub known : is_whole ≡ true → naming ≡ record { view = view_of rows; rows = [] }
  pub interned : is_whole ≡ true → AreInterned naming.view
