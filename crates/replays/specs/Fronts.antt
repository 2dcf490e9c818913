-- No public clause cites this file.
-- Rows that tell the first moments of a run.
use Rattle.std.specs.Prelude.{◌≡◌, Bool, true, List}
use Rattle.py_model.specs.History.{Extends}
use Rattle.py_model.specs.Moment.{Moment}
use Rattle.row_moments.specs.Moments.{moments_in}
use Rattle.trace_rows.specs.declared.row.Row.{Row}

-- What the rows tell begins all moments of the run, and is all of them where the run came to its end.
pub record IsFrontOf (all : List Moment) (rows : List Row) (is_whole : Bool) : Type 0 where
  pub begins : Extends (moments_in rows) all
  pub whole : is_whole ≡ true → all ≡ moments_in rows
