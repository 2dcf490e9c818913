-- No public clause cites this file.
-- What values are to definitions and to `isinstance`.
use Rattle.std.specs.Prelude.{ℕ, Bool, true, false, ◌==◌, ◌||◌, ◌&&◌, List, [], ◌∷◌, Option, Some, None}
use Rattle.prov_base.specs.declared.place.Pos.{Pos}
use Rattle.py_model.specs.Classes.{names_kind, bool_name, dict_name, int_name, list_name, str_name, tuple_name}
use Rattle.py_value.specs.declared.access.Kind.{Kind}
use Rattle.py_value.specs.declared.access.Kind.TheVariants.{List as ListKind, Dict as DictKind}
use Rattle.py_value.specs.declared.value.Value.{Value}
use Rattle.py_value.specs.declared.value.Value.TheVariants.{Bool as TruthValue, Int, Text, Tuple, Fn, Class, Exc, Builtin}

abbrev pub function_in : Value → Option Pos
function_in (Fn place) = Some place
function_in other = None

abbrev pub builtin_in : Value → Option ℕ
builtin_in (Builtin number) = Some number
builtin_in other = None

-- a class, or a function of the language that names a kind of values
abbrev pub is_kind_value : Value → Bool
is_kind_value (Builtin number) = names_kind number
is_kind_value (Class place) = true
is_kind_value (Exc number) = true
is_kind_value other = false

abbrev pub are_kinds : List Value → Bool
are_kinds [] = true
are_kinds (v ∷ vs) = is_kind_value v && are_kinds vs

-- whether an object, and another value, is of the kind that a function of the language names
abbrev pub kind_named : Option Kind → ℕ → Bool
kind_named (Some ListKind) number = number == list_name
kind_named (Some DictKind) number = number == dict_name
kind_named kind number = false

abbrev pub value_named : Value → ℕ → Bool
value_named (TruthValue b) number = (number == bool_name) || (number == int_name)
value_named (Int i) number = number == int_name
value_named (Text id) number = number == str_name
value_named (Tuple id) number = number == tuple_name
value_named v number = false

abbrev pub plain_named : Value → Option ℕ → Bool
plain_named v (Some number) = value_named v number
plain_named v None = false
