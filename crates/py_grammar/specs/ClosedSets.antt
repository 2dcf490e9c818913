-- Which statements a script has, and which stay in a deletion.
use Rattle.std.specs.Prelude.{ℕ, ◌==◌, Bool, List}
use Rattle.std.specs.List.{list_any}
use Rattle.py_tree.specs.Tree.{ScriptTree}
use Rattle.py_tree.specs.Deletion.{kept_suite}
use Rattle.py_tree.specs.Renumbering.{suite_numbers}

abbrev pub is_among : ℕ → List ℕ → Bool
is_among s numbers = list_any (λ number. number == s) numbers

-- the script has a statement with this number
abbrev pub is_statement : ScriptTree → ℕ → Bool
is_statement script s = is_among s (suite_numbers script.body)

-- it stays in the deletion, with its old number
abbrev pub stays : (ℕ → Bool) → ScriptTree → ℕ → Bool
stays keep script s = is_among s (suite_numbers (kept_suite keep script.body))
