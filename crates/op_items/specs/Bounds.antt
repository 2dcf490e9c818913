-- No public clause cites this file.
-- The bounds of a slice.
use Rattle.std.specs.Prelude.{ℕ, ℤ, ◌-◌, pos, true, false, Option}
use Rattle.std.specs.Prelude.{Some, None as Nothing}
use Rattle.py_model.specs.Lists.{with_bounds}
use Rattle.py_model.specs.Places.{low_bound, high_bound}
use Rattle.py_model.specs.Plan.{Plan}
use Rattle.py_value.specs.Contents.{Contents}
use Rattle.py_value.specs.declared.value.Value.{Value}
use Rattle.py_value.specs.declared.value.Value.TheVariants.{None, Int, Bool}

-- the bound that a value is, where it is one: None leaves it open
abbrev pub bound_of_value : Value → Option (Option ℤ)
bound_of_value None = Some Nothing
bound_of_value (Int i) = Some (Some i)
bound_of_value (Bool true) = Some (Some (pos 1))
bound_of_value (Bool false) = Some (Some (pos 0))
bound_of_value other = Nothing

-- the place and the length of a part among so many items
abbrev pub part_of : Option ℤ → Option ℤ → ℕ → ℕ × ℕ
part_of low high n = (low_bound low n, high_bound high n - low_bound low n)

-- both bounds, as a plan that goes on with them
abbrev pub both_bounds : Contents → Contents → (Option ℤ × Option ℤ → Plan) → Plan
both_bounds low high go = with_bounds low high (λ l h. go (l, h))
