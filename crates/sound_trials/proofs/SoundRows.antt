-- The rows of a sound trial tell the moments of its run, and its steps are those that these moments spent.
use Rattle.std.proofs.Common.{◌≡◌, ℕ, ◌+◌, ◌-◌, List, [], reverse, Some, ap, subst, ◌∙◌, arith}
use Rattle.std.proofs.lemmas.List.{reverse-reverse}
use Rattle.py_model.specs.Going.{Open}
use Rattle.py_model.specs.History.{open_after, Nests, spent_on}
use Rattle.py_model.specs.Moment.{Moment}
use Rattle.py_model.specs.Running.{Ended, over, spent, lacking, state_in}
use Rattle.recorder.specs.MomentRows.{rows as rows_of}
use Rattle.row_moments.specs.Moments.{moments_in}
use Rattle.row_checks.specs.KeptRows.{view_in}
use Rattle.row_moments.specs.InOrder.{StandInOrder}
use Rattle.sound_trials.proofs.FitRows.{fit_rows_tell}
use Rattle.trace_rows.specs.RowBytes.{AreRows}
use Rattle.trace_rows.specs.declared.row.Row.{Row}

-- some list is open at the end of a run
pub record OpenAtEnd (told : List Moment) : Type 0 where
  pub open_ones : List Open
  pub is_open : open_after told ≡ Some open_ones

pub nested_in : (ended : Ended) → Nests [] ended → OpenAtEnd (state_in ended).told
nested_in (over how t) nests = record { open_ones = []; is_open = nests }
nested_in (spent t) nests = record { open_ones = nests.open_ones; is_open = nests.is_open }
nested_in (lacking t) nests = record { open_ones = nests.open_ones; is_open = nests.is_open }

pub tells_so : (rows : List Row) (told : List Moment) → OpenAtEnd told → rows ≡ rows_of (reverse told) → AreRows rows → ((moments : List Moment) → StandInOrder (view_in (rows_of moments)))
    → moments_in rows ≡ told
tells_so rows told at_end same fit order =
    ap moments_in same
    ∙ fit_rows_tell (reverse told) at_end.open_ones (ap open_after (reverse-reverse told) ∙ at_end.is_open) (order (reverse told)) (subst (λ (these : List Row). AreRows these) same fit)
    ∙ reverse-reverse told

pub spent_so : (told : List Moment) (left budget steps : ℕ) → spent_on told + left ≡ budget → steps ≡ budget - left → spent_on told ≡ steps
spent_so told left budget steps paid is = omega (arith, paid, is)
