-- No public clause cites this file.
-- What is set of an instance that is made.
use Rattle.std.specs.Prelude.{ℕ, List, [], ◌∷◌, Some}
use Rattle.py_model.specs.Classes.{args_key}
use Rattle.py_model.specs.Effect.{parts_of}
use Rattle.py_model.specs.Plan.{Writes, write, done}
use Rattle.py_value.specs.Contents.{Contents, tuple, object}
use Rattle.py_value.specs.Seen.{order_at, order_is, entry_at, entry_is}

-- an exception has the attribute `args` alone, the tuple of its arguments
abbrev pub args_begun : Contents → Contents → ℕ → Writes
args_begun args items o = write (order_at o) (order_is (args ∷ [])) (write (entry_at o args) (entry_is (Some (args, items))) (done (object o)))

-- another instance has none
abbrev pub order_begun : ℕ → Writes
order_begun o = write (order_at o) (order_is []) (done (object o))

-- an exception that is made with these arguments
abbrev pub exception_begun : List Contents → ℕ → Writes
exception_begun items o = args_begun args_key (tuple (parts_of items)) o
