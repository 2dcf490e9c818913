-- The parts of tuples.
use Rattle.std.specs.Prelude.{ℕ, List, [], slice_get, unwrap_or}
use Rattle.py_value.specs.Contents.{Parts, contents, parts_by}
use Rattle.py_value.specs.Values.{ValuesView}
use Rattle.py_value.specs.declared.value.Value.{Value}
use Rattle.py_value.specs.declared.value.Value.TheVariants.{None as NoneValue}

-- the values of a tuple, one of them, and the parts that they are
abbrev pub items_at : ValuesView → ℕ → List Value
items_at values id = unwrap_or (slice_get values.tuples id) []

abbrev pub part_in : ValuesView → ℕ → ℕ → Value
part_in values id i = unwrap_or (slice_get (items_at values id) i) NoneValue

abbrev pub parts_in : ValuesView → ℕ → Parts
parts_in table id = parts_by (contents table) (items_at table id)
