-- No public clause cites this file.
-- The best of values, as a plan that goes on with it (this project's profile).
use Rattle.std.specs.Prelude.{Bool, true, false, List, [], ◌∷◌}
use Rattle.py_model.specs.Arithmetic.{in_order, is_less, is_more, empty_or_zero}
use Rattle.py_model.specs.Plan.{Plan}
use Rattle.py_model.specs.Walks.{Comparison}
use Rattle.py_value.specs.Contents.{Contents}
use Rattle.py_value.specs.declared.value.Value.{Value}

-- what is better: more where the most is sought, else less
abbrev pub better_of : Bool → Comparison → Bool
better_of true = is_more
better_of false = is_less

-- the better of two values
abbrev pub better_value : Bool → Value → Value → Value
better_value true v other = v
better_value false v other = other

-- each item is compared with the best so far
abbrev pub best_then : (Comparison → Bool) → Contents → List Contents → (Contents → Plan) → Plan
best_then better best [] go = go best
best_then better best (item ∷ items) go = in_order item best (λ how. elim (better how) [ true ↦ best_then better item items go | false ↦ best_then better best items go ])

abbrev pub best_among : (Comparison → Bool) → List Contents → (Contents → Plan) → Plan
best_among better [] go = empty_or_zero
best_among better (item ∷ items) go = best_then better item items go
