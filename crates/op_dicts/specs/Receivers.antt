-- The dictionary that a method is called on.
use Rattle.std.specs.Prelude.{ℕ, ◌==◌, List, ◌∷◌, length, if◌then◌else◌}
use Rattle.py_model.specs.Faults.{wrong_kind, wrong_number}
use Rattle.py_model.specs.Dicts.{when_dict}
use Rattle.py_model.specs.Plan.{Plan, kind_of}
use Rattle.py_value.specs.Contents.{Contents, object}

-- it goes on with the dictionary that comes first, where there are so many operands
abbrev pub with_dict : ℕ → List Contents → (ℕ → Plan) → Plan
with_dict count (object o ∷ others) go = if length (object o ∷ others) == count then kind_of o (when_dict (go o)) else wrong_number
with_dict count other go = wrong_kind
