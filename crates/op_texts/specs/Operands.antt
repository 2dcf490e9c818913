-- What operands are taken as, as parts of plans.
use Rattle.std.specs.Prelude.{ℕ, ℤ, ◌<◌, List, [], ◌∷◌, length, Option, Some, None}
use Rattle.py_model.specs.Operands.{with_text, with_number, of_one, of_two}
use Rattle.py_model.specs.Plan.{Plan}
use Rattle.py_model.specs.TextMethods.{searched}
use Rattle.py_value.specs.Contents.{Contents}
use Rattle.py_value.specs.Seen.{bytes_of}
use Rattle.py_value.specs.Values.{ValuesView}
use Rattle.py_value.specs.declared.value.Value.{Value}
use Rattle.py_value.specs.declared.value.Value.TheVariants.{Text}

-- the only value, or both
abbrev pub one_value : List Value → Option Value
one_value (v ∷ []) = Some v
one_value other = None

abbrev pub two_values : List Value → Option (Value × Value)
two_values (v ∷ w ∷ []) = Some (v, w)
two_values other = None

-- the number of the text that a value is
abbrev pub text_of_value : Value → Option ℕ
text_of_value (Text id) = Some id
text_of_value other = None

-- a text has the number, and two have the numbers
abbrev pub IsText : ValuesView → ℕ → Type 0
IsText values id = id < length values.texts

abbrev pub IsTwoTexts : ValuesView → ℕ × ℕ → Type 0
IsTwoTexts values two = IsText values two.0 × IsText values two.1

abbrev pub bytes_of_two : ValuesView → ℕ × ℕ → List ℕ × List ℕ
bytes_of_two table two = (bytes_of table two.0, bytes_of table two.1)

-- the text that is the only operand, and the texts that both are
abbrev pub with_one_text : List Contents → (List ℕ → Plan) → Plan
with_one_text operands go = of_one (λ v. with_text v go) operands

abbrev pub with_two_texts : List Contents → (List ℕ × List ℕ → Plan) → Plan
with_two_texts operands go = of_two (λ v w. with_text v (λ bytes. with_text w (λ other. go (bytes, other)))) operands

-- the text that is the only operand, whose characters count first
abbrev pub with_one_searched : List Contents → (List ℕ → Plan) → Plan
with_one_searched operands go = of_one (λ v. with_text v (λ bytes. searched bytes (go bytes))) operands

-- a text has the first number; the second stands for itself
abbrev pub IsTextNumber : ValuesView → ℕ × ℤ → Type 0
IsTextNumber values two = IsText values two.0

abbrev pub text_number_of : ValuesView → ℕ × ℤ → List ℕ × ℤ
text_number_of table two = (bytes_of table two.0, two.1)

abbrev pub with_text_number : List Contents → (List ℕ × ℤ → Plan) → Plan
with_text_number operands go = of_two (λ v w. with_text v (λ bytes. with_number w (λ i. go (bytes, i)))) operands
