-- No public clause cites this file.
-- Evaluations and moments among rows, and how many evaluations there were at a place.
use Rattle.std.specs.Prelude.{◌≡◌, ◌∷◌, [], ℕ, suc, Bool, true, false, List, reverse, Option, Some, None, unwrap_or, if◌then◌else◌}
use Rattle.std.specs.Map.{lookup}
use Rattle.prov_base.specs.declared.place.Pos.{Pos}
use Rattle.prov_base.specs.contracts.place.PosPartialEq.TheImpl.{ghosts as places}
use Rattle.py_value.specs.Values.{ValuesView}
use Rattle.py_model.specs.declared.moment.Answer.TheVariants.{Value as ValueAnswer, Raised, End as EndAnswer}
use Rattle.py_model.specs.Moment.{Moment}
use Rattle.py_model.specs.Occurrences.{evaluates, evaluations_at, up_to_evaluation}
use Rattle.row_moments.specs.Moments.{moments_by}
use Rattle.trace_rows.specs.declared.row.Row.{Row}
use Rattle.trace_rows.specs.declared.row.Row.TheVariants.{Text, Tuple, Begin, Do, Enter, Leave, End}
use Rattle.feedings.specs.declared.site.Site.{Site}
use Rattle.feedings.specs.Sites.{IsTimeOf}

-- the place of the evaluation that a row tells, if it tells one
abbrev pub evaluated : Row → Option Pos
evaluated (Do place op values (ValueAnswer v) made accesses weight) = if evaluates op then Some place else None
evaluated (Do place op values (Raised o) made accesses weight) = None
evaluated (Do place op values EndAnswer made accesses weight) = None
evaluated (Text text) = None
evaluated (Tuple parts) = None
evaluated (Begin statement) = None
evaluated (Enter call def values accesses) = None
evaluated (Leave v) = None
evaluated (End how) = None

-- a row tells a moment
abbrev pub tells : Row → Bool
tells (Text text) = false
tells (Tuple parts) = false
tells (Begin statement) = true
tells (Do place op values answer made accesses weight) = true
tells (Enter call def values accesses) = true
tells (Leave v) = true
tells (End how) = true

abbrev pub count_in : List (Pos × ℕ) → Pos → ℕ
count_in entries at = unwrap_or (lookup (places.eq at) entries) 0

-- for each place the number of evaluations there
abbrev pub AreCounted : List (Pos × ℕ) → List Moment → Type 0
AreCounted entries told = (at : Pos) → count_in entries at ≡ evaluations_at at told

-- the evaluation of one more row, where it is chosen
abbrev pub site_at : Option Pos → List (Pos × ℕ) → Bool → List Site
site_at None entries chosen = []
site_at (Some at) entries false = []
site_at (Some at) entries true = record { at = at; k = suc (count_in entries at) } ∷ []

-- the time of the moment that is the evaluation, which is the latest of some moments; and that there is none
abbrev pub FindsTime : Pos → ℕ → List Row → Option ℕ → Type 0
FindsTime at k rows None = (view : ValuesView) → up_to_evaluation at k (moments_by view (reverse rows)) ≡ None
FindsTime at k rows (Some time) = (view : ValuesView) → IsTimeOf at k (moments_by view (reverse rows)) time

-- a row tells an evaluation at a place
abbrev pub is_at : Pos → Row → Bool
is_at at row = elim (evaluated row) [ None ↦ false | Some place ↦ places.eq place at ]
