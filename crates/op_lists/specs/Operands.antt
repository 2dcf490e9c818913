-- The object that a method is called on.
use Rattle.std.specs.Prelude.{ℕ, List, ◌∷◌, Option, Some, None}
use Rattle.py_value.specs.declared.value.Value.{Value}
use Rattle.py_value.specs.declared.value.Value.TheVariants.{Object}

-- the object that comes first
abbrev pub object_first : List Value → Option ℕ
object_first (Object o ∷ others) = Some o
object_first other = None
