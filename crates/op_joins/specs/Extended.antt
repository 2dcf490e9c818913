-- A list that is extended in place, as a plan with its answer.
use Rattle.std.specs.Prelude.{ℕ, ◌+◌, length}
use Rattle.py_model.specs.Making.{set_items}
use Rattle.py_model.specs.Plan.{Plan, write, done, read_len, writes}
use Rattle.py_model.specs.Walks.{walk, if_walked}
use Rattle.py_value.specs.Contents.{Contents}
use Rattle.py_value.specs.Seen.{len_at, len_is}

abbrev pub extended : ℕ → Contents → Contents → Plan
extended o other answer = if_walked other (read_len o (λ n. walk other (λ items.
    writes (set_items o n items (write (len_at o) (len_is (n + length items)) (done answer))))))
