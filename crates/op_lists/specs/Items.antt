-- Parts of plans that several operations share.
use Rattle.std.specs.Prelude.{ℕ, ℤ}
use Rattle.py_value.specs.Contents.{Contents}
use Rattle.py_model.specs.Lists.{with_place}
use Rattle.py_model.specs.Plan.{Plan, read_len}
use Rattle.py_model.specs.Walks.{read_value}

-- the item of a list at an index: the length is read, then the item
abbrev pub item_at_index : ℕ → ℤ → (Contents → Plan) → Plan
item_at_index o i go = read_len o (λ n. with_place i n (λ p. read_value o p go))
