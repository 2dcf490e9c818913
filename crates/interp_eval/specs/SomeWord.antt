-- The number of some text.
use Rattle.std.specs.Prelude.{ℕ, ◌<◌, length, Result, Ok, Err}
use Rattle.py_model.specs.Doing.{standing, Fits, Stands, ForEach}

-- some text has this number in every table that fits, and nothing else has changed
abbrev pub IsSomeWord : {E : Type 0} → Fits → Stands → Stands → Result ℕ E → Type 0
IsSomeWord fits before after (Ok number) = ForEach fits before (λ table capture s. (number < length table.texts) × after table capture (standing s))
IsSomeWord fits before after (Err want) = ForEach fits before (λ table capture s. after table capture (standing s))
