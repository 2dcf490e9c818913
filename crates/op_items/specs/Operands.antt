-- No public clause cites this file.
-- Three operands.
use Rattle.std.specs.Prelude.{List, [], ◌∷◌}
use Rattle.py_model.specs.Faults.{wrong_number}
use Rattle.py_model.specs.Plan.{Plan}
use Rattle.py_value.specs.Contents.{Contents, contents}
use Rattle.py_value.specs.Values.{ValuesView, IsNamed}
use Rattle.py_value.specs.declared.value.Value.{Value}

-- operands of an operation that takes three
abbrev pub of_three : (Contents → Contents → Contents → Plan) → List Contents → Plan
of_three plan (v ∷ w ∷ x ∷ []) = plan v w x
of_three plan other = wrong_number

abbrev pub IsNamedThree : ValuesView → Value × (Value × Value) → Type 0
IsNamedThree values three = IsNamed values three.0 × (IsNamed values three.1.0 × IsNamed values three.1.1)

abbrev pub seen_three : ValuesView → Value × (Value × Value) → Contents × (Contents × Contents)
seen_three table three = (contents table three.0, (contents table three.1.0, contents table three.1.1))
