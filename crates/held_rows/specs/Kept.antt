-- What rows leave at a place, as far as the graph text of a value reads it: lengths, items, entries with their first keys, offsets, and what was closed.
use Rattle.std.specs.Prelude.{◌≡◌, ℕ, ◌==◌, ⊤, List, [], ◌∷◌, length, slice_get, unwrap_or, Option, Some, None, if◌then◌else◌}
use Rattle.std.specs.Map.{lookup}
use Rattle.std.specs.Option.{option_map}
use Rattle.py_value.specs.declared.access.Access.{Access}
use Rattle.py_value.specs.declared.access.Access.TheVariants.{Read, Set, Update}
use Rattle.py_value.specs.declared.access.Content.{Content}
use Rattle.py_value.specs.declared.access.Content.TheVariants.{Var as VarContent, Len as LenContent, Item as ItemContent, Entry as EntryContent, Order as OrderContent, File as FileContent, Offset as OffsetContent, Closed as ClosedContent, Method as MethodContent, Base as BaseContent}
use Rattle.py_value.specs.declared.access.Location.{Location}
use Rattle.py_value.specs.declared.access.Location.TheVariants.{Var, Len, Item, Entry, Order, File, Offset, Closed, Method, Base}
use Rattle.py_value.specs.contracts.access.LocationPartialEq.TheImpl.{ghosts as locations}
use Rattle.py_value.specs.declared.value.Value.TheVariants.{Text}
use Rattle.py_value.specs.Contents.{contents}
use Rattle.py_value.specs.Seen.{SeenContent, len_is, item_is, entry_is, offset_is, closed_is}
use Rattle.py_value.specs.Values.{ValuesView, IsNamed}
use Rattle.slice_things.specs.Held.{placed}
use Rattle.held_rows.specs.declared.kept.Kept.{Kept}
use Rattle.held_rows.specs.declared.kept.Kept.TheVariants.{Nothing, Length, Item as KeptItem, Entry as KeptEntry, Offset as KeptOffset, Closed as KeptClosed}

-- what a content leaves
abbrev pub kept_in : Content → Kept
kept_in (LenContent n) = Length n
kept_in (ItemContent v) = KeptItem v
kept_in (EntryContent (Some entry)) = KeptEntry entry.0 entry.1
kept_in (EntryContent None) = Nothing
kept_in (OffsetContent n) = KeptOffset n
kept_in (ClosedContent b) = KeptClosed b
kept_in (VarContent v) = Nothing
kept_in (OrderContent keys) = Nothing
kept_in (FileContent bytes) = Nothing
kept_in (MethodContent at) = Nothing
kept_in (BaseContent v) = Nothing

-- what is there before all rows: the list with number 0 has the texts with these numbers
abbrev pub first_at : List ℕ → Location → Kept
first_at words (Len o) = if o == 0 then Length (length words) else Nothing
first_at words (Item o i) = if o == 0 then unwrap_or (option_map (λ n. KeptItem (Text n)) (slice_get words i)) Nothing else Nothing
first_at words (Var scope name) = Nothing
first_at words (Entry o key) = Nothing
first_at words (Order o) = Nothing
first_at words (File path) = Nothing
first_at words (Offset o) = Nothing
first_at words (Closed o) = Nothing
first_at words (Method class name) = Nothing
first_at words (Base class) = Nothing

-- what is kept at a place, and what is once an access is passed
abbrev pub kept_at : List ℕ → List (Location × Kept) → Location → Kept
kept_at words places l = unwrap_or (lookup (locations.eq l) places) (first_at words l)

abbrev pub kept_after : List ℕ → Access → Location → Kept → Kept
kept_after numbers (Read m) l kept = kept
kept_after numbers (Set m content) l kept = if locations.eq (placed numbers m) l then kept_in content else kept
kept_after numbers (Update m change) l kept = if locations.eq (placed numbers m) l then Nothing else kept

-- the same without numbers for texts and tuples, and what of it stands at a location of a store
abbrev pub kept_seen : ValuesView → Kept → Option SeenContent
kept_seen view Nothing = None
kept_seen view (Length n) = Some (len_is n)
kept_seen view (KeptItem v) = Some (item_is (contents view v))
kept_seen view (KeptEntry key v) = Some (entry_is (Some (contents view key, contents view v)))
kept_seen view (KeptOffset n) = Some (offset_is n)
kept_seen view (KeptClosed b) = Some (closed_is b)

abbrev pub what_stands : Option SeenContent → Option SeenContent
what_stands (Some (len_is n)) = Some (len_is n)
what_stands (Some (item_is v)) = Some (item_is v)
what_stands (Some (entry_is (Some entry))) = Some (entry_is (Some entry))
what_stands (Some (offset_is n)) = Some (offset_is n)
what_stands (Some (closed_is b)) = Some (closed_is b)
what_stands other = None

-- the texts and tuples that it names are there
abbrev pub IsNamedKept : ValuesView → Kept → Type 0
IsNamedKept view (KeptItem v) = IsNamed view v
IsNamedKept view (KeptEntry key v) = IsNamed view key × IsNamed view v
IsNamedKept view Nothing = ⊤
IsNamedKept view (Length n) = ⊤
IsNamedKept view (KeptOffset n) = ⊤
IsNamedKept view (KeptClosed b) = ⊤

-- these are the numbers of texts
abbrev pub AreTexts : ValuesView → List ℕ → List (List ℕ) → Type 0
AreTexts view [] [] = ⊤
AreTexts view (n ∷ numbers) (word ∷ words) = (slice_get view.texts n ≡ Some word) × AreTexts view numbers words
AreTexts view numbers words = ⊥
