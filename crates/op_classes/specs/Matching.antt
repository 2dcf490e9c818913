-- No public clause cites this file.
-- Classes that an exception is matched with.
use Rattle.std.specs.Prelude.{Bool, true, false, ◌&&◌, List, [], ◌∷◌}
use Rattle.py_value.specs.declared.value.Value.{Value}
use Rattle.py_value.specs.declared.value.Value.TheVariants.{Class, Exc}

abbrev pub is_class_value : Value → Bool
is_class_value (Class place) = true
is_class_value (Exc number) = true
is_class_value other = false

abbrev pub are_classes : List Value → Bool
are_classes [] = true
are_classes (v ∷ vs) = is_class_value v && are_classes vs
