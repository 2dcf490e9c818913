-- Chains of bases.
use Rattle.std.specs.Prelude.{ℕ, Bool, false, Option, Some, None, if◌then◌else◌}
use Rattle.prov_base.specs.declared.place.Pos.{Pos}
use Rattle.prov_base.specs.contracts.place.PosPartialEq.TheImpl.{ghosts as places}
use Rattle.py_model.specs.Classes.{is_earlier, next_class, derives}
use Rattle.py_model.specs.Plan.{Plan, read_base}
use Rattle.py_value.specs.Contents.{Contents}
use Rattle.py_value.specs.declared.value.Value.{Value}
use Rattle.py_value.specs.declared.value.Value.TheVariants.{Class, Exc}

-- the class that a chain goes on with, as a value
abbrev pub next_value : Pos → Option Value → Option Value
next_value place (Some (Class base)) = if is_earlier base place then Some (Class base) else None
next_value place (Some (Exc number)) = Some (Exc number)
next_value place other = None

-- the base is read, and it goes on with the next class of the chain
abbrev pub next_step : Pos → (Option Contents → Plan) → Plan
next_step place go = read_base place (λ base. go (next_class place base))

abbrev pub is_class_at : Value → Pos → Bool
is_class_at (Class at) place = places.eq at place
is_class_at other place = false

-- what a chain that ends with this value says of the class that is sought
abbrev pub derives_so : ℕ → Value → Bool
derives_so number (Exc from) = derives 19 number from
derives_so number sought = false

abbrev pub ends_so : Value → Value → Bool
ends_so sought (Exc number) = derives_so number sought
ends_so sought end = false

abbrev pub exception_in : Value → Option ℕ
exception_in (Exc number) = Some number
exception_in other = None
