-- No public clause cites this file.
-- What a raised exception sets (this project's profile).
use Rattle.std.specs.Prelude.{ℕ, [], ◌∷◌, Some}
use Rattle.py_model.specs.Plan.{Writes, write, done}
use Rattle.py_value.specs.Contents.{Contents, nothing}
use Rattle.py_value.specs.Seen.{order_at, order_is, entry_at, entry_is}

-- the order of its attributes is `args` alone, and the entry of `args` is the tuple of what it was given
abbrev pub args_set : ℕ → Contents → Contents → Writes
args_set o args items = write (order_at o) (order_is (args ∷ [])) (write (entry_at o args) (entry_is (Some (args, items))) (done nothing))
