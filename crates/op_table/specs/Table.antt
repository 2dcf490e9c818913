-- Operations by number.
use Rattle.std.specs.Prelude.{◌≤◌, ℕ, List, [], map, if◌then◌else◌}
use Rattle.py_model.specs.Operations.{Op as SeenOp, plan}
use Rattle.py_model.specs.Plan.{Plan}
use Rattle.py_model.specs.Told.{names_text}
use Rattle.py_model.specs.declared.moment.Op.{Op}
use Rattle.py_value.specs.Contents.{contents}
use Rattle.py_value.specs.Seen.{bytes_of}
use Rattle.py_value.specs.Values.{ValuesView}
use Rattle.py_value.specs.declared.value.Value.{Value}

-- an operation as if it had this number, by what its numbers of texts and tuples mean
abbrev pub seen_as : ℕ → ValuesView → Op → SeenOp
seen_as n table op = record { no = n; scope = op.scope; name = (if names_text n then bytes_of table op.name else []); value = contents table op.value }

abbrev pub planned_at : ℕ → Op → List Value → ValuesView → Plan
planned_at n op operands table = plan (seen_as n table op) (map (contents table) operands)

-- the plan of an operation
abbrev pub planned : Op → List Value → ValuesView → Plan
planned op operands table = planned_at op.no op operands table

-- the number is one of these
abbrev pub IsFrom : ℕ → ℕ → ℕ → Type 0
IsFrom first last n = (first ≤ n) × (n ≤ last)
