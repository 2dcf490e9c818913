-- No public clause cites this file.
-- What is set of an instance.
use Rattle.std.specs.Prelude.{ℕ, List, Some, if◌then◌else◌}
use Rattle.py_model.specs.Classes.{is_module}
use Rattle.py_model.specs.Faults.{not_there, no_attribute}
use Rattle.py_model.specs.Plan.{Plan, Writes, write, change, done}
use Rattle.py_value.specs.Contents.{Contents, nothing, text}
use Rattle.py_value.specs.Seen.{entry_at, order_at, entry_is, key_inserted}

-- an attribute that is there gets another value, and keeps its first form
abbrev pub own_set : ℕ → List ℕ → Contents → Contents → Writes
own_set o name first v = write (entry_at o (text name)) (entry_is (Some (first, v))) (done nothing)

-- a new attribute goes behind the others
abbrev pub own_added : ℕ → List ℕ → Contents → Writes
own_added o name v = write (entry_at o (text name)) (entry_is (Some (text name, v))) (change (order_at o) (key_inserted (text name)) (done nothing))

-- a function or module of the language has no attribute that is set
abbrev pub builtin_refused : List ℕ → ℕ → Plan
builtin_refused name number = if is_module number then not_there else no_attribute name
