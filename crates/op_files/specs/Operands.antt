-- No public clause cites this file.
-- The operands of methods of files.
use Rattle.std.specs.Prelude.{ℕ, List, [], ◌∷◌, Option, Some, None}
use Rattle.py_model.specs.Faults.{wrong_kind, wrong_number}
use Rattle.py_model.specs.Plan.{Plan}
use Rattle.py_value.specs.Contents.{Contents, object, text}
use Rattle.py_value.specs.declared.access.Kind.{Kind}
use Rattle.py_value.specs.declared.access.Kind.TheVariants.{File}
use Rattle.py_value.specs.declared.access.Mode.{Mode}
use Rattle.py_value.specs.declared.value.Value.{Value}
use Rattle.py_value.specs.declared.value.Value.TheVariants.{Object, Text}

-- the object, and the text's number, that a value is
abbrev pub object_in : Value → Option ℕ
object_in (Object o) = Some o
object_in other = None

abbrev pub text_in : Value → Option ℕ
text_in (Text id) = Some id
text_in other = None

-- the path, by its number, and the mode of an open file
abbrev pub file_in : Option Kind → Option (ℕ × Mode)
file_in (Some (File path mode)) = Some (path, mode)
file_in other = None

-- one operand, which is an object
abbrev pub of_object : List Contents → (ℕ → Plan) → Plan
of_object (object o ∷ []) go = go o
of_object (other ∷ []) go = wrong_kind
of_object values go = wrong_number

-- an object and a text
abbrev pub of_object_text : List Contents → (ℕ → List ℕ → Plan) → Plan
of_object_text (object o ∷ text bytes ∷ []) go = go o bytes
of_object_text (one ∷ other ∷ []) go = wrong_kind
of_object_text values go = wrong_number
