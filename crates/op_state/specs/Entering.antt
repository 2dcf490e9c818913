-- The parameters of an activation are set (this project's profile).
use Rattle.std.specs.Prelude.{ℕ, List, ◌∷◌, map, Some}
use Rattle.py_model.specs.Plan.{Plan, Writes, write, done, writes}
use Rattle.py_value.specs.Contents.{Contents, contents, nothing}
use Rattle.py_value.specs.Seen.{var_at, var_is}
use Rattle.py_value.specs.Values.{ValuesView}
use Rattle.py_value.specs.declared.value.Value.{Value}

-- each name is set to its value, in order, and then the rest is written
abbrev pub set_parameters : ℕ → List (List ℕ) → List Contents → Writes → Writes
set_parameters activation (name ∷ names) (v ∷ values) rest = write (var_at activation name) (var_is (Some v)) (set_parameters activation names values rest)
set_parameters activation names values rest = rest

-- as a plan
abbrev pub parameters_plan : ℕ → List (List ℕ) → List Value → ValuesView → Plan
parameters_plan activation names values table = writes (set_parameters activation names (map (contents table) values) (done nothing))
