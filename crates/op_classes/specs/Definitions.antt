-- The operations that define something.
use Rattle.std.specs.Prelude.{ℕ, List}
use Rattle.py_model.specs.Operations.{Op}
use Rattle.py_value.specs.Contents.{Contents}

-- a `def` and a `class` of a name, and of the function or class that it defines
abbrev pub defining : List ℕ → Contents → Op
defining name v = record { no = 42; scope = 0; name = name; value = v }

abbrev pub beginning : List ℕ → Contents → Op
beginning name v = record { no = 43; scope = 0; name = name; value = v }
