-- What is found at a key of a dictionary (this project's profile).
use Rattle.std.specs.Prelude.{ℕ, Option, Some, None}
use Rattle.op_work.specs.Entries.{IsKeyOf, IsNamedEntry, seen_entry}
use Rattle.py_model.specs.Keys.{with_key_of}
use Rattle.py_model.specs.Plan.{Plan, Writes, write, change, done, read_entry}
use Rattle.py_value.specs.Contents.{Contents, contents, nothing}
use Rattle.py_value.specs.Seen.{entry_at, order_at, entry_is, key_inserted, key_deleted}
use Rattle.py_value.specs.Values.{ValuesView, AreInterned}
use Rattle.py_value.specs.declared.key.Key.{Key}
use Rattle.py_value.specs.declared.value.Value.{Value}

-- the value is a key, and the entry at it is read; it goes on with both
abbrev pub with_entry : ℕ → Contents → (Contents × Option (Contents × Contents) → Plan) → Plan
with_entry o key go = with_key_of key (λ k. read_entry o k (λ entry. go (k, entry)))

-- the key of a value, and the entry at it
abbrev pub IsFound : Value → ValuesView → Key × Option (Value × Value) → Type 0
IsFound v values found = AreInterned values × (IsKeyOf v values found.0 × IsNamedEntry values found.1)

abbrev pub found_seen : Value → ValuesView → Key × Option (Value × Value) → Contents × Option (Contents × Contents)
found_seen v table found = (contents table v, seen_entry table found.1)

-- an entry is set, and where its key was not there the key goes behind the others; or the entry and its key are taken out
abbrev pub pair_set : ℕ → Contents → Contents → Contents → Writes
pair_set o form first item = write (entry_at o form) (entry_is (Some (first, item))) (done nothing)

abbrev pub pair_added : ℕ → Contents → Contents → Contents → Writes
pair_added o form first item = write (entry_at o form) (entry_is (Some (first, item))) (change (order_at o) (key_inserted first) (done nothing))

abbrev pub pair_removed : ℕ → Contents → Contents → Writes
pair_removed o form first = write (entry_at o form) (entry_is None) (change (order_at o) (key_deleted first) (done nothing))
