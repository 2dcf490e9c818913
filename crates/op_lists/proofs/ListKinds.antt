-- What goes on only with a list.
use Rattle.std.proofs.Common.{Option, ℕ, suc}
use Rattle.py_model.specs.Lists.{when_list}
use Rattle.py_model.specs.Plan.{Plan, Writes, write, done}
use Rattle.py_value.specs.Seen.{SeenKind, item_at, item_is, len_at, len_is}
use Rattle.py_value.specs.Contents.{Contents, nothing}
use Rattle.py_value.specs.Values.{ValuesView}

abbrev pub only_lists : ValuesView → Option SeenKind → (Unit {0} → Plan) → Plan
only_lists table kind go = when_list (go tt) kind

-- the writes of an `append`
abbrev pub length_set : ℕ → ℕ → Writes
length_set o n = write (len_at o) (len_is n) (done nothing)

abbrev pub behind : ℕ → ℕ → Contents → Writes
behind o n item = write (item_at o n) (item_is item) (length_set o (suc n))
