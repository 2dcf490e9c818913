-- A set of statements, by their numbers: for each number below a bound, whether it is in the set.
use Rattle.std.specs.Prelude.{ℕ, Bool, false, List, slice_index_or}

-- whether the number is in the set; none past the bound is
abbrev pub has : List Bool → ℕ → Bool
has members i = slice_index_or members i false
