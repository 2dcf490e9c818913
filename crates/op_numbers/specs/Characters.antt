-- Characters and their codes.
use Rattle.std.specs.Prelude.{ℕ, ◌<◌, ℤ, pos, negsuc, length, List, [], ◌∷◌, Option, Some, None, if◌then◌else◌}
use Rattle.py_model.specs.Texts.{is_scalar}
use Rattle.py_value.specs.Values.{ValuesView}
use Rattle.py_value.specs.declared.value.Value.{Value}
use Rattle.py_value.specs.declared.value.Value.TheVariants.{Text}

-- the one character of a list of one
abbrev pub only : List ℕ → Option ℕ
only (code ∷ []) = Some code
only other = None

-- the character with a code
abbrev pub character_of : ℤ → Option ℕ
character_of (pos code) = if is_scalar code then Some code else None
character_of (negsuc n) = None

-- a text has a number
abbrev pub IsText : ValuesView → ℕ → Type 0
IsText values id = id < length values.texts

-- the number of the text that a value is
abbrev pub text_of_value : Value → Option ℕ
text_of_value (Text id) = Some id
text_of_value other = None
