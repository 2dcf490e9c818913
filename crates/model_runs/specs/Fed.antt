-- No public clause cites this file.
-- The sources and the effects of an evaluation, computed from the moments of a run.
use Rattle.std.specs.Prelude.{ℕ, ◌==◌, ◌||◌, Bool, false, List, [], ◌∷◌, ◌++◌, length, Option, Some, None, if◌then◌else◌}
use Rattle.prov_base.specs.declared.place.Pos.{Pos}
use Rattle.py_tree.specs.Tree.{ScriptTree}
use Rattle.py_model.specs.Moment.{Moment}
use Rattle.py_model.specs.Occurrences.{up_to_evaluation}
use Rattle.slice_law.specs.Closed.{has}
use Rattle.feedings.specs.declared.site.Site.{Site}
use Rattle.feedings.specs.Feeding.{feeders}
use Rattle.feedings.specs.Sites.{sites}

-- the times from which chains lead to one of these
abbrev pub leading : ScriptTree → List Moment → List ℕ → List ℕ
leading script [] wanted = wanted
leading script (moment ∷ before) wanted = if has (length before) wanted then leading script before (feeders script moment before ++ wanted) else leading script before wanted

abbrev pub some_of : ℕ → List ℕ → List ℕ → Bool
some_of x led [] = false
some_of x led (time ∷ times) = (time == x) || (has time led || some_of x led times)

-- the times to which chains lead from one
abbrev pub led_by : ScriptTree → ℕ → List Moment → List ℕ
led_by script x [] = []
led_by script x (moment ∷ before) = if some_of x (led_by script x before) (feeders script moment before) then length before ∷ led_by script x before else led_by script x before

abbrev pub sources_found : ScriptTree → List Moment → Option (List Moment) → List Site
sources_found script told None = []
sources_found script told (Some []) = []
sources_found script told (Some (moment ∷ before)) = sites (λ time. has time (leading script before (feeders script moment before))) told

abbrev pub effects_found : ScriptTree → List Moment → Option (List Moment) → List Site
effects_found script told None = []
effects_found script told (Some []) = []
effects_found script told (Some (moment ∷ before)) = sites (λ time. has time (led_by script (length before) told)) told

-- those of the k-th evaluation at a place
abbrev pub sources : ScriptTree → List Moment → Pos × ℕ → List Site
sources script told of = sources_found script told (up_to_evaluation of.0 of.1 told)

abbrev pub effects : ScriptTree → List Moment → Pos × ℕ → List Site
effects script told of = effects_found script told (up_to_evaluation of.0 of.1 told)
