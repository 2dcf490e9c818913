-- What stands in a dictionary, and the keys at which it stands (this project's profile).
use Rattle.std.specs.Prelude.{⊤, Option, Some, None}
use Rattle.std.specs.Option.{option_map}
use Rattle.py_value.specs.Contents.{Contents, contents}
use Rattle.py_value.specs.KeyOf.{IsNormalOf}
use Rattle.py_value.specs.Values.{ValuesView, IsNamed}
use Rattle.py_value.specs.declared.access.Content.{Content}
use Rattle.py_value.specs.declared.access.Content.TheVariants.{Entry as EntryContent}
use Rattle.py_value.specs.declared.key.Key.{Key}
use Rattle.py_value.specs.declared.value.Value.{Value}

-- an entry: the first form of its key, and its value
abbrev pub IsNamedEntry : ValuesView → Option (Value × Value) → Type 0
IsNamedEntry values (Some entry) = IsNamed values entry.0 × IsNamed values entry.1
IsNamedEntry values None = ⊤

abbrev pub seen_entry : ValuesView → Option (Value × Value) → Option (Contents × Contents)
seen_entry table entry = option_map (λ (e : Value × Value). (contents table e.0, contents table e.1)) entry

-- what is read in a content: what was never set reads as absent
abbrev pub entry_in : Option Content → Option (Value × Value)
entry_in (Some (EntryContent entry)) = entry
entry_in other = None

-- the key is the normal form of a value that is named
abbrev pub IsKeyOf : Value → ValuesView → Key → Type 0
IsKeyOf v values key = IsNamed values v × IsNormalOf values values v key.value

-- a plan that goes on with a key goes on with the value's contents
abbrev pub value_seen : Value → ValuesView → Key → Contents
value_seen v table key = contents table v
