-- No public clause cites this file.
-- The length of a list and a place in it, as a plan that goes on with both.
use Rattle.std.specs.Prelude.{ℕ, ℤ}
use Rattle.py_model.specs.Lists.{with_place}
use Rattle.py_model.specs.Plan.{Plan, read_len}

abbrev pub at_index : ℕ → ℤ → (ℕ × ℕ → Plan) → Plan
at_index o i go = read_len o (λ n. with_place i n (λ p. go (n, p)))
