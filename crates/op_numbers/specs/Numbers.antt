-- What operands are as numbers, and pairs of values.
use Rattle.std.specs.Prelude.{ℤ, List}
use Rattle.py_model.specs.Operands.{of_one, of_two, with_number, with_numbers}
use Rattle.py_model.specs.Plan.{Plan}
use Rattle.py_value.specs.Contents.{Contents, contents}
use Rattle.py_value.specs.Values.{ValuesView, IsNamed}
use Rattle.py_value.specs.declared.value.Value.{Value}

-- two values are named, and what they are
abbrev pub IsNamedPair : ValuesView → Value × Value → Type 0
IsNamedPair values pair = IsNamed values pair.0 × IsNamed values pair.1

abbrev pub seen_pair : ValuesView → Value × Value → Contents × Contents
seen_pair table pair = (contents table pair.0, contents table pair.1)

-- the number that the one operand is, and those that two are
abbrev pub of_number : List Contents → (ℤ → Plan) → Plan
of_number operands go = of_one (λ v. with_number v go) operands

abbrev pub of_numbers : List Contents → (ℤ × ℤ → Plan) → Plan
of_numbers operands go = of_two (λ v w. with_numbers v w (λ i j. go (i, j))) operands
