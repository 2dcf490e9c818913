-- No public clause cites this file.
-- What is known of the first tuples of a run: whether each is an atom.
use Rattle.std.specs.Prelude.{◌≡◌, ◌<◌, ℕ, Bool, true, false, List, length, get_or, slice_get, unwrap_or}
use Rattle.py_value.specs.Contents.{contents}
use Rattle.py_value.specs.Values.{ValuesView}
use Rattle.py_value.specs.declared.value.Value.{Value}
use Rattle.py_value.specs.declared.value.Value.TheVariants.{Tuple, Fn, Class, Object}
use Rattle.op_atoms.specs.Atoms.{is_atom}

-- whether a value is an atom, by the marks of the tuples
abbrev pub marked : List Bool → Value → Bool
marked marks (Tuple id) = unwrap_or (slice_get marks id) false
marked marks (Fn place) = false
marked marks (Class place) = false
marked marks (Object o) = false
marked marks other = true

-- each mark is right
abbrev pub AreMarks : ValuesView → List Bool → Type 0
AreMarks view marks = (id : ℕ) → id < length marks → get_or marks id false ≡ is_atom (contents view (Tuple id))
