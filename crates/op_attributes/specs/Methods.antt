-- No public clause cites this file.
-- The methods of the language, by number.
use Rattle.std.specs.Prelude.{ℕ, ◌+◌, List, Option, Some, None}
use Rattle.std.specs.Option.{option_map}
use Rattle.std.specs.Str.{bytes_eq}
use Rattle.py_model.specs.Faults.{not_there}
use Rattle.py_model.specs.Plan.{Plan, writes, done}
use Rattle.py_value.specs.Contents.{builtin}
use Rattle.py_value.specs.Seen.{number_by}

-- the number of the method with a name, of those whose names begin at a number
abbrev pub numbered : ℕ → List (List ℕ) → List ℕ → Option ℕ
numbered first names name = option_map (λ place. first + place) (number_by (bytes_eq name) names)

-- the method is given, where there is one
abbrev pub given : Option ℕ → Plan
given number = elim number [ None ↦ not_there | Some method ↦ writes (done (builtin method)) ]
