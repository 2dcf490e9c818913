-- No public clause cites this file.
-- Values of a node.
use Rattle.std.specs.Prelude.{Bool, true, false, List, [], ◌∷◌}
use Rattle.py_value.specs.declared.value.Value.{Value}

abbrev pub behind_values : List Value → Bool → List Value
behind_values [] skip = []
behind_values (v ∷ vs) true = vs
behind_values (v ∷ vs) false = v ∷ vs
