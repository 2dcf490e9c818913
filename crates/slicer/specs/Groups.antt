-- The values of each object together.
use Rattle.std.specs.Prelude.{ℕ, ◌==◌, List, [], ◌∷◌, unwrap_or, if◌then◌else◌}
use Rattle.std.specs.Map.{lookup}
use Rattle.py_value.specs.declared.value.Value.{Value}

-- what a map has for an object
abbrev pub group_in : List (ℕ × List Value) → ℕ → List Value
group_in groups o = unwrap_or (lookup (λ p. o == p) groups) []

-- the values of an object among pairs
abbrev pub values_of : List (ℕ × Value) → ℕ → List Value
values_of [] o = []
values_of (pair ∷ pairs) o = if pair.0 == o then pair.1 ∷ values_of pairs o else values_of pairs o
