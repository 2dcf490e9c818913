-- The pairs by which statements ask for their parents.
use Rattle.std.specs.Prelude.{ℕ, zero, suc, List, [], ◌∷◌, ◌++◌, Option, Some, None}
use Rattle.py_tree.specs.Owners.{parent_of}
use Rattle.py_tree.specs.Tree.{ScriptTree}

abbrev pub pair_with : ℕ → Option ℕ → List (ℕ × ℕ)
pair_with s None = []
pair_with s (Some parent) = (s, parent) ∷ []

-- those of the statements below a number, in order
abbrev pub parents_below : ScriptTree → ℕ → List (ℕ × ℕ)
parents_below script zero = []
parents_below script (suc s) = parents_below script s ++ pair_with s (parent_of script s)
