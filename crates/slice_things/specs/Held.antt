-- What stands at a place, as far as it matters for what is reachable: a length, and the value of an item or an entry.
use Rattle.std.specs.Prelude.{◌≡◌, ℕ, ◌==◌, ◌&&◌, nat_lt, ◌⊎◌, ⊤, List, unwrap_or, Option, Some, None, if◌then◌else◌}
use Rattle.std.specs.Map.{lookup}
use Rattle.py_value.specs.declared.access.Access.{Access}
use Rattle.py_value.specs.declared.access.Access.TheVariants.{Read, Set, Update}
use Rattle.py_value.specs.declared.access.Content.{Content}
use Rattle.py_value.specs.declared.access.Content.TheVariants.{Var as VarContent, Len as LenContent, Item as ItemContent, Entry as EntryContent, Order as OrderContent, File as FileContent, Offset as OffsetContent, Closed as ClosedContent, Method as MethodContent, Base as BaseContent}
use Rattle.py_value.specs.declared.access.Location.{Location}
use Rattle.py_value.specs.declared.access.Location.TheVariants.{Var, Len, Item, Entry, Order, File, Offset, Closed, Method, Base}
use Rattle.py_value.specs.contracts.access.LocationPartialEq.TheImpl.{ghosts as locations}
use Rattle.py_value.specs.declared.value.Value.TheVariants.{None as NoneValue}
use Rattle.py_value.specs.Contents.{Contents, nothing, text, contents}
use Rattle.py_value.specs.Seen.{SeenContent, len_is, item_is, entry_is}
use Rattle.py_value.specs.Values.{ValuesView}
use Rattle.slice_things.specs.declared.held.Held.{Held}
use Rattle.slice_things.specs.declared.held.Held.TheVariants.{Nothing, Length, Item as HeldItem, Entry as HeldEntry}
use Rattle.slice_things.specs.Forms.{form_in}

-- what a content leaves
abbrev pub held_in : Content → Held
held_in (LenContent n) = Length n
held_in (ItemContent v) = HeldItem v
held_in (EntryContent (Some entry)) = HeldEntry entry.1
held_in (EntryContent None) = Nothing
held_in (VarContent v) = Nothing
held_in (OrderContent keys) = Nothing
held_in (FileContent bytes) = Nothing
held_in (OffsetContent n) = Nothing
held_in (ClosedContent b) = Nothing
held_in (MethodContent at) = Nothing
held_in (BaseContent v) = Nothing

-- the place with the form of its key
abbrev pub placed : List ℕ → Location → Location
placed numbers (Entry o key) = Entry o (record { value = form_in numbers key.value })
placed numbers (Var scope name) = Var scope name
placed numbers (Len o) = Len o
placed numbers (Item o i) = Item o i
placed numbers (Order o) = Order o
placed numbers (File path) = File path
placed numbers (Offset o) = Offset o
placed numbers (Closed o) = Closed o
placed numbers (Method class name) = Method class name
placed numbers (Base class) = Base class

-- what is noted at a place, and what is once an access is passed
abbrev pub noted_at : List (Location × Held) → Location → Held
noted_at places l = unwrap_or (lookup (locations.eq l) places) Nothing

abbrev pub noted_after : List ℕ → Access → Location → Held → Held
noted_after numbers (Read m) l held = held
noted_after numbers (Set m content) l held = if locations.eq (placed numbers m) l then held_in content else held
noted_after numbers (Update m change) l held = if locations.eq (placed numbers m) l then Nothing else held

-- what is noted once so many items of the list with number 0 are, from the first on: None in place of each
abbrev pub with_words : ℕ → Location → Held → Held
with_words n (Item o i) held = if (o == 0) && nat_lt i n then HeldItem NoneValue else held
with_words n (Var scope name) held = held
with_words n (Len o) held = held
with_words n (Entry o key) held = held
with_words n (Order o) held = held
with_words n (File path) held = held
with_words n (Offset o) held = held
with_words n (Closed o) held = held
with_words n (Method class name) held = held
with_words n (Base class) held = held

-- the same without numbers for texts and tuples
pub data SeenHeld : Type 0 where
  holds_nothing : SeenHeld
  holds_length : ℕ → SeenHeld
  holds_item : Contents → SeenHeld
  holds_entry : Contents → SeenHeld

abbrev pub held_seen : ValuesView → Held → SeenHeld
held_seen view Nothing = holds_nothing
held_seen view (Length n) = holds_length n
held_seen view (HeldItem v) = holds_item (contents view v)
held_seen view (HeldEntry v) = holds_entry (contents view v)

-- what stands at a location of a store
abbrev pub what_stands : Option SeenContent → SeenHeld
what_stands (Some (len_is n)) = holds_length n
what_stands (Some (item_is v)) = holds_item v
what_stands (Some (entry_is (Some entry))) = holds_entry entry.1
what_stands other = holds_nothing

-- What is noted is what stands there. For an item that is a text None may be noted: no object stands in either.
abbrev pub IsTextItem : SeenHeld → Type 0
IsTextItem (holds_item (text bytes)) = ⊤
IsTextItem other = ⊥

abbrev pub Agrees : SeenHeld → SeenHeld → Type 0
Agrees noted stands = (noted ≡ stands) ⊎ ((noted ≡ holds_item nothing) × IsTextItem stands)
