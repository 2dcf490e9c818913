-- What is said of an exception that nothing caught (this project's profile): the name of its class, and its argument where it has one alone that
-- is a text.
use Rattle.std.specs.Prelude.{◌≡◌, ℕ, List, slice_get, codes, Option, Some, None, unwrap_or}
use Rattle.object_store.specs.Store.{content_at}
use Rattle.op_state.specs.Holding.{Found}
use Rattle.op_state.specs.Held.{HeldView, StandsHeld}
use Rattle.op_work.specs.Entries.{IsKeyOf, entry_in, seen_entry}
use Rattle.op_work.specs.Work.{WorkView, Extends, IsSeen}
use Rattle.py_model.specs.Classes.{args_key}
use Rattle.py_model.specs.Names.{class_names}
use Rattle.py_model.specs.Printing.{named_in}
use Rattle.py_model.specs.Store.{RunStore, entry_of}
use Rattle.py_value.specs.Contents.{Contents, contents, text, tuple, class, exception_class, no_parts, part}
use Rattle.py_value.specs.Seen.{SeenKind, an_instance}
use Rattle.py_value.specs.Values.{ValuesView, AreInterned}
use Rattle.py_value.specs.declared.access.Location.TheVariants.{Entry}
use Rattle.py_value.specs.declared.key.Key.{Key}
use Rattle.py_value.specs.declared.value.Value.{Value}
use Rattle.py_value.specs.declared.value.Value.TheVariants.{Text}

abbrev pub class_name : RunStore → Contents → List ℕ
class_name run (class place) = unwrap_or (run.names place) (codes "?")
class_name run (exception_class number) = named_in class_names number
class_name run other = codes "?"

abbrev pub kind_name : RunStore → Option SeenKind → List ℕ
kind_name run (Some (an_instance of)) = class_name run of
kind_name run kind = codes "?"

-- a tuple of one text alone
abbrev pub one_text : Contents → Option (List ℕ)
one_text (tuple (part (text words) no_parts)) = Some words
one_text other = None

abbrev pub text_alone : Option (Contents × Contents) → Option (List ℕ)
text_alone (Some entry) = one_text entry.1
text_alone None = None

-- the name of the class of an exception, and the text that it has alone as its argument
abbrev pub class_raised : RunStore → ℕ → List ℕ
class_raised run o = kind_name run (slice_get run.kinds o)

abbrev pub text_raised : RunStore → ℕ → Option (List ℕ)
text_raised run o = text_alone (entry_of run o args_key)

-- in each store of a run for which what is held stands, this is what is said of an object
abbrev pub IsSaid : HeldView → ℕ → List ℕ → Option (List ℕ) → Type 0
IsSaid held o name words = (found : Found) (table : ValuesView) (run : RunStore) → Extends held.work.values table → StandsHeld found table held run
    → (class_raised run o ≡ name) × (text_raised run o ≡ words)

-- the key under which an exception has its arguments
abbrev pub IsArgsKey : ValuesView → Key → Type 0
IsArgsKey values key = (v : Value) × (IsKeyOf v values key × ((table : ValuesView) → Extends values table → contents table v ≡ args_key))

-- the same by what the store has
abbrev pub IsClassOf : WorkView → ℕ → List ℕ → Type 0
IsClassOf work o name = (table : ValuesView) (run : RunStore) → Extends work.values table → IsSeen table work.store run → class_raised run o ≡ name

abbrev pub IsNameOf : WorkView → Value → List ℕ → Type 0
IsNameOf work of name = (table : ValuesView) (run : RunStore) → Extends work.values table → IsSeen table work.store run → class_name run (contents table of) ≡ name

abbrev pub AreWordsOf : WorkView → ℕ → Key → Option (List ℕ) → Type 0
AreWordsOf work o key words = (table : ValuesView) → AreInterned table → Extends work.values table → text_alone (seen_entry table (entry_in (content_at work.store (Entry o key)))) ≡ words

-- the number of a text
abbrev pub IsTextOf : Value → Option ℕ → Type 0
IsTextOf (Text id) words = words ≡ Some id
IsTextOf other words = words ≡ None
