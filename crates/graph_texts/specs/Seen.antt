-- A drawing and its tasks as contracts see them: texts and tuples are their contents.
use Rattle.std.specs.Prelude.{⊤, ◌≡◌, ℕ, ◌+◌, ◌<◌, pos, Bool, List, [], ◌∷◌, ◌++◌, map, drop, length, slice_get, unwrap_or, if◌then◌else◌, codes, string_bytes}
use Rattle.py_value.specs.declared.value.Value.{Value}
use Rattle.py_value.specs.declared.value.Value.TheVariants.{None as NoneValue, Bool as BoolValue, Int as IntValue, Text as TextValue}
use Rattle.py_value.specs.Contents.{contents, parts_by}
use Rattle.py_value.specs.Seen.{bytes_of}
use Rattle.py_value.specs.Values.{ValuesView, IsNamed, AreNamed}
use Rattle.py_model.specs.Graph.{Drawing}
use Rattle.py_model.specs.Numbers.{int_text}
use Rattle.py_model.specs.Printing.{literal, truth_text}
use Rattle.py_model.specs.Store.{RunStore, order_of}
use Rattle.graph_texts.specs.declared.page.Page.{Page}
use Rattle.graph_texts.specs.declared.pending.Pending.{Pending}
use Rattle.graph_texts.specs.declared.pending.Pending.TheVariants.{Colon, Equals, OnlyEnd, Value as ValueTask, Key, Name, Parts, KeyParts, Items, Entries, Attributes}
use Rattle.graph_texts.specs.declared.pending.Next.{Next}
use Rattle.graph_texts.specs.declared.pending.Next.TheVariants.{Nothing, One, Two, TwoKeys, Entry}
use Rattle.graph_texts.specs.Steps.{Task, Stepped, colon, equals, only_end, one_value, one_key, one_name, rest_parts, rest_keys, rest_items, rest_entries, rest_attributes}

-- what stands behind the number of a thing
abbrev pub end_words : Bool → List ℕ
end_words fresh = if fresh then codes "=" else []

-- the number of a thing, with `=` behind it where its content follows
abbrev pub number_words : ℕ → Bool → List ℕ
number_words number fresh = codes "#" ++ int_text (pos number) ++ end_words fresh

-- a key that is no tuple
abbrev pub key_bytes : ValuesView → Value → List ℕ
key_bytes view NoneValue = codes "None"
key_bytes view (BoolValue b) = truth_text b
key_bytes view (IntValue i) = int_text i
key_bytes view (TextValue id) = literal (bytes_of view id)
key_bytes view other = codes "?"

-- the parts of a tuple from a place on
abbrev pub parts_from : ValuesView → ℕ → ℕ → List Value
parts_from view id from = drop from (unwrap_or (slice_get view.tuples id) [])

-- the task that a pending one is
abbrev pub pending_seen : ValuesView → RunStore → Pending → Task
pending_seen view store Colon = colon
pending_seen view store Equals = equals
pending_seen view store OnlyEnd = only_end
pending_seen view store (ValueTask v) = one_value (contents view v)
pending_seen view store (Key v) = one_key (contents view v)
pending_seen view store (Name v) = one_name (contents view v)
pending_seen view store (Parts id from) = rest_parts (parts_by (contents view) (parts_from view id from))
pending_seen view store (KeyParts id from) = rest_keys (parts_by (contents view) (parts_from view id from))
pending_seen view store (Items o left from) = rest_items left o from
pending_seen view store (Entries o first from) = rest_entries o first (drop from (order_of store o))
pending_seen view store (Attributes o first from) = rest_attributes o first (drop from (order_of store o))

-- a task names only what has a number, and its items are counted in 64 bits
abbrev pub IsReady : ValuesView → Pending → Type 0
IsReady view (ValueTask v) = IsNamed view v
IsReady view (Key v) = IsNamed view v
IsReady view (Name v) = IsNamed view v
IsReady view (Parts id from) = id < length view.tuples
IsReady view (KeyParts id from) = id < length view.tuples
IsReady view (Items o left from) = left + from < 18446744073709551616
IsReady view task = ⊤

abbrev pub AreReady : ValuesView → List Pending → Type 0
AreReady view [] = ⊤
AreReady view (task ∷ tasks) = IsReady view task × AreReady view tasks

-- the tasks that are left, the next one last
abbrev pub next_list : Next → List Pending
next_list Nothing = []
next_list (One task) = task ∷ []
next_list (Two task v) = task ∷ ValueTask v ∷ []
next_list (TwoKeys task v) = task ∷ Key v ∷ []
next_list (Entry rest v between key) = rest ∷ ValueTask v ∷ between ∷ key ∷ []

-- what was drawn so far
abbrev pub page_seen : ValuesView → Page → Drawing
page_seen view page = record { drawn = string_bytes page.text; things = map (contents view) page.things.keys }

-- The page is what a step draws, and the tasks are those that it leaves.
pub record Draws (view : ValuesView) (store : RunStore) (page : Page) (next : Next) (s : Stepped) : Type 0 where
  pub drawn : string_bytes page.text ≡ s.drawing.drawn
  pub things : map (contents view) page.things.keys ≡ s.drawing.things
  pub tasks : map (pending_seen view store) (next_list next) ≡ s.tasks
  pub named : AreNamed view page.things.keys
  pub ready : AreReady view (next_list next)
