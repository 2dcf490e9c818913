-- No public clause cites this file.
-- Numbers of paths, each once.
use Rattle.std.specs.Prelude.{ℕ, nat_eq, List, [], ◌∷◌, ◌++◌, if◌then◌else◌}
use Rattle.std.specs.List.{list_any}

-- the numbers with one more behind them, unless it is there
abbrev pub with_number : ℕ → List ℕ → List ℕ
with_number path paths = if list_any (nat_eq path) paths then paths else paths ++ path ∷ []

abbrev pub with_numbers : List ℕ → List ℕ → List ℕ
with_numbers [] paths = paths
with_numbers (path ∷ more) paths = with_numbers more (with_number path paths)
