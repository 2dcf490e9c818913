-- No public clause cites this file.
-- What the first operand of a method is.
use Rattle.std.specs.Prelude.{ℕ, List, Option, Some, None, slice_get}
use Rattle.py_value.specs.declared.value.Value.{Value}
use Rattle.py_value.specs.declared.value.Value.TheVariants.{Object}

abbrev pub object_of : Option Value → Option ℕ
object_of (Some (Object o)) = Some o
object_of other = None

abbrev pub first_object : List Value → Option ℕ
first_object operands = object_of (slice_get operands 0)
