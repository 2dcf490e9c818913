-- The two lines of a value (this project's profile): its graph text, and the steps that the run had spent just after it.
use Rattle.std.specs.Prelude.{ℕ, List, [], ◌∷◌, ◌++◌, codes}
use Rattle.std.specs.Fmt.{decimal}

abbrev pub value_lines : List ℕ → ℕ → List ℕ
value_lines graph steps = graph ++ 10 ∷ codes "steps " ++ decimal steps ++ 10 ∷ []
