-- No public clause cites this file.
-- Numbers of texts.
use Rattle.std.specs.Prelude.{ℕ, ◌<◌, List, length, Option, Some, None}
use Rattle.py_value.specs.Seen.{bytes_of}
use Rattle.py_value.specs.Values.{ValuesView}
use Rattle.py_value.specs.declared.value.Value.{Value}
use Rattle.py_value.specs.declared.value.Value.TheVariants.{Text}

-- the number of a text, where a value is one
abbrev pub text_in : Value → Option ℕ
text_in (Text id) = Some id
text_in other = None

-- a text has the number, and a plan that goes on with its bytes goes on with those of the number
abbrev pub IsTextNumber : ValuesView → ℕ → Type 0
IsTextNumber values number = number < length values.texts

abbrev pub bytes_by : ValuesView → ℕ → List ℕ
bytes_by table number = bytes_of table number
