-- The pages of a run, kept with its trial (this project's profile).
use Rattle.std.specs.Prelude.{◌≡◌, ⊤, ℕ, ◌+◌, List, [], ◌∷◌}
use Rattle.py_model.specs.Moment.{Moment}
use Rattle.keeper.specs.Tables.{TablesView}
use Rattle.recorder.specs.MomentRows.{rows as rows_of}
use Rattle.recorder.specs.PageCuts.{pages as pages_of_rows}
use Rattle.trace_rows.specs.RowBytes.{AreRows}
use Rattle.trial_tables.specs.Whole.{fine, page_in}

-- The pages are those of the rows of these moments, whose numbers fit.
pub record HoldMoments (moments : List Moment) (pages : List (List ℕ)) : Type 0 where
  pub pages_are : pages ≡ pages_of_rows (rows_of moments)
  pub fit : AreRows (rows_of moments)

-- the pages stand in the tables under a trial, numbered from here on
abbrev pub StandFrom : TablesView → ℕ → ℕ → List (List ℕ) → Type 0
StandFrom tables trial number [] = ⊤
StandFrom tables trial number (page ∷ pages) = (page_in tables trial number ≡ fine page) × StandFrom tables trial (number + 1) pages
