-- Plans that ask no device and fetch no file (this project's profile), the operations that may, and those that may note names.
use Rattle.std.specs.Prelude.{ℕ, Bool, ◌==◌, ◌||◌, List, Option, ⊤}
use Rattle.py_value.specs.Contents.{Contents}
use Rattle.py_value.specs.Seen.{SeenKind}
use Rattle.prov_base.specs.declared.place.Pos.{Pos}
use Rattle.py_model.specs.Plan.{Plan, read_var, read_len, read_item, read_entry, read_order, read_file, read_offset, read_closed, read_method, read_base, kind_of, name_of, was_opened, ask, fetch, looks, counts, prints, writes, makes, raises, raises_again, ends, runs_away}

-- `input`, `open`, `time_ns`, `randint` and `randrange`, by number
abbrev pub may_ask : ℕ → Bool
may_ask number = (number == 55) || ((number == 62) || ((number == 109) || ((number == 110) || (number == 111))))

-- `def` and the beginning of a `class`, by number
abbrev pub may_note : ℕ → Bool
may_note number = (number == 42) || (number == 43)

-- whatever is read, nothing is asked and nothing fetched
abbrev pub IsQuiet : Plan → Type 0
IsQuiet (read_var scope name go) = (v : Option Contents) → IsQuiet (go v)
IsQuiet (read_len o go) = (n : ℕ) → IsQuiet (go n)
IsQuiet (read_item o i go) = (v : Option Contents) → IsQuiet (go v)
IsQuiet (read_entry o key go) = (entry : Option (Contents × Contents)) → IsQuiet (go entry)
IsQuiet (read_order o go) = (keys : List Contents) → IsQuiet (go keys)
IsQuiet (read_file path go) = (bytes : Option (List ℕ)) → IsQuiet (go bytes)
IsQuiet (read_offset o go) = (n : ℕ) → IsQuiet (go n)
IsQuiet (read_closed o go) = (b : Bool) → IsQuiet (go b)
IsQuiet (read_method place name go) = (at : Option Pos) → IsQuiet (go at)
IsQuiet (read_base place go) = (v : Option Contents) → IsQuiet (go v)
IsQuiet (kind_of o go) = (kind : Option SeenKind) → IsQuiet (go kind)
IsQuiet (name_of place go) = (name : Option (List ℕ)) → IsQuiet (go name)
IsQuiet (was_opened path go) = (b : Bool) → IsQuiet (go b)
IsQuiet (ask what go) = ⊥
IsQuiet (fetch path go) = ⊥
IsQuiet (looks n rest) = IsQuiet rest
IsQuiet (counts n rest) = IsQuiet rest
IsQuiet (prints bytes rest) = IsQuiet rest
IsQuiet (writes all) = ⊤
IsQuiet (makes kind all) = ⊤
IsQuiet (raises of items) = ⊤
IsQuiet (raises_again o) = ⊤
IsQuiet ends = ⊤
IsQuiet runs_away = ⊤
