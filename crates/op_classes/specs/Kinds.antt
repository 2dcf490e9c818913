-- What values are.
use Rattle.std.specs.Prelude.{ℕ, zero, suc, pos, Bool, true, false, Option, Some, None}
use Rattle.prov_base.specs.declared.place.Pos.{Pos}
use Rattle.py_value.specs.declared.access.Kind.{Kind}
use Rattle.py_value.specs.declared.access.Kind.TheVariants.{File, Instance}
use Rattle.py_value.specs.declared.value.Value.{Value}
use Rattle.py_value.specs.declared.value.Value.TheVariants.{Int, Tuple, Class, Object}

abbrev pub object_in : Value → Option ℕ
object_in (Object o) = Some o
object_in other = None

abbrev pub class_in : Value → Option Pos
class_in (Class place) = Some place
class_in other = None

abbrev pub failed_call : Value → ℕ
failed_call (Int (pos zero)) = 0
failed_call (Int (pos (suc zero))) = 1
failed_call other = 2

abbrev pub is_file_kind : Option Kind → Bool
is_file_kind (Some (File path mode)) = true
is_file_kind other = false

abbrev pub instance_of : Option Kind → Option Value
instance_of (Some (Instance of)) = Some of
instance_of other = None

abbrev pub tuple_in : Value → Option ℕ
tuple_in (Tuple id) = Some id
tuple_in other = None
