-- No public clause cites this file.
-- The items of tuples.
use Rattle.std.specs.Prelude.{◌≡◌, ℕ, Option, Some, None}
use Rattle.py_value.specs.Contents.{contents, no_parts}
use Rattle.py_value.specs.Values.{ValuesView}
use Rattle.py_value.specs.declared.value.Value.{Value}
use Rattle.py_value.specs.declared.value.Value.TheVariants.{Tuple}
use Rattle.py_model.specs.Statements.{parts_in}

-- the value is the tuple with a number, or it has no items
abbrev pub IsTupleId : Value → Option ℕ → Type 0
IsTupleId v None = (table : ValuesView) → parts_in (contents table v) ≡ no_parts
IsTupleId v (Some id) = v ≡ Tuple id
