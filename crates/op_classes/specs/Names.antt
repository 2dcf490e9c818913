-- The values that names of the language stand for.
use Rattle.std.specs.Prelude.{ℕ, List, Option, Some, None}
use Rattle.std.specs.Option.{option_map}
use Rattle.std.specs.Str.{bytes_eq}
use Rattle.py_model.specs.Names.{builtin_names, class_names}
use Rattle.py_value.specs.Seen.{number_by}
use Rattle.py_value.specs.declared.value.Value.{Value}
use Rattle.py_value.specs.declared.value.Value.TheVariants.{Builtin, Exc}

abbrev pub known_value : List ℕ → Option Value
known_value name = elim (number_by (bytes_eq name) builtin_names) [
  | Some number ↦ Some (Builtin number)
  | None ↦ option_map Exc (number_by (bytes_eq name) class_names)
]
