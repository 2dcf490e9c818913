-- The list that a method is called on.
use Rattle.std.specs.Prelude.{ℕ, ◌==◌, List, ◌∷◌, length, if◌then◌else◌}
use Rattle.py_model.specs.Faults.{wrong_kind, wrong_number}
use Rattle.py_model.specs.Lists.{when_list}
use Rattle.py_model.specs.Plan.{Plan, kind_of}
use Rattle.py_value.specs.Contents.{Contents, object}

-- it goes on with the list that comes first, where there are so many operands
abbrev pub with_list : ℕ → List Contents → (ℕ → Plan) → Plan
with_list count (object o ∷ others) go = if length (object o ∷ others) == count then kind_of o (when_list (go o)) else wrong_number
with_list count other go = wrong_kind
