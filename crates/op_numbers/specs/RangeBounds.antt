-- No public clause cites this file.
-- The start, the end and the step that a range is made of.
use Rattle.std.specs.Prelude.{ℤ, pos, List, [], ◌∷◌, Option, Some, None}
use Rattle.py_model.specs.Faults.{wrong_number}
use Rattle.py_model.specs.Operands.{with_number, with_numbers}
use Rattle.py_model.specs.Plan.{Plan}
use Rattle.py_value.specs.Contents.{contents}
use Rattle.py_value.specs.Values.{ValuesView}
use Rattle.py_value.specs.declared.value.Value.{Value}
use Rattle.py_value.specs.declared.value.Value.TheVariants.{Int}

-- the values of one, two or three operands, from 0 and by 1 where they do not say
abbrev pub bounds_of : List Value → Option (Value × (Value × Value))
bounds_of (end ∷ []) = Some (Int (pos 0), (end, Int (pos 1)))
bounds_of (start ∷ end ∷ []) = Some (start, (end, Int (pos 1)))
bounds_of (start ∷ end ∷ step ∷ []) = Some (start, (end, step))
bounds_of other = None

-- a plan of three numbers
abbrev pub of_bounds : ValuesView → Option (Value × (Value × Value)) → (ℤ → ℤ → ℤ → Plan) → Plan
of_bounds table (Some bounds) go = with_numbers (contents table bounds.0) (contents table bounds.1.0) (λ i j. with_number (contents table bounds.1.1) (λ k. go i j k))
of_bounds table None go = wrong_number
