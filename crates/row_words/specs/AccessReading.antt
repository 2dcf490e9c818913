-- Accesses, read from the front.
use Rattle.std.specs.Prelude.{ℕ, ◌==◌, Bool as Truth, true, false, List, Option, Some, None, if◌then◌else◌}
use Rattle.prov_base.specs.declared.place.Pos.{Pos}
use Rattle.py_value.specs.declared.access.Access.{Access}
use Rattle.py_value.specs.declared.access.Access.TheVariants.{Read, Set, Update}
use Rattle.py_value.specs.declared.access.Change.{Change}
use Rattle.py_value.specs.declared.access.Change.TheVariants.{Insert, Delete, Append}
use Rattle.py_value.specs.declared.access.Content.{Content}
use Rattle.py_value.specs.declared.access.Content.TheVariants.{Var as VarContent, Len as LenContent, Item as ItemContent, Entry as EntryContent, Order as OrderContent, File as FileContent, Offset as OffsetContent, Closed as ClosedContent, Method as MethodContent, Base as BaseContent}
use Rattle.py_value.specs.declared.access.Location.{Location}
use Rattle.py_value.specs.declared.access.Location.TheVariants.{Var, Len, Item, Entry, Order, File, Offset, Closed, Method, Base}
use Rattle.py_value.specs.declared.value.Value.{Value}
use Rattle.row_words.specs.Reading.{◌>>=◌, both, into, tagged, number_at, short_at, place_at, value_at, list_at}
use Rattle.row_words.specs.declared.access_tags.LocationTag.{LocationTag}
use Rattle.row_words.specs.declared.access_tags.LocationTag.TheVariants.{Var as VarTag, Item as ItemTag, Entry as EntryTag, Method as MethodTag, Base as BaseTag, Named}
use Rattle.row_words.specs.declared.access_tags.NamedTag.{NamedTag}
use Rattle.row_words.specs.declared.access_tags.NamedTag.TheVariants.{Len as NamedLen, Order as NamedOrder, File as NamedFile, Offset as NamedOffset, Closed as NamedClosed}
use Rattle.row_words.specs.declared.access_tags.AccessTag.{AccessTag}
use Rattle.row_words.specs.declared.access_tags.AccessTag.TheVariants.{Read as ReadTag, Set as SetTag, Update as UpdateTag}

-- ---- locations

abbrev pub location_tag : ℕ → Option LocationTag
location_tag b =
    if b == 0 then Some VarTag else if b == 1 then Some (Named NamedLen) else if b == 2 then Some ItemTag else if b == 3 then Some EntryTag
    else if b == 4 then Some (Named NamedOrder) else if b == 5 then Some (Named NamedFile) else if b == 6 then Some (Named NamedOffset)
    else if b == 7 then Some (Named NamedClosed) else if b == 8 then Some MethodTag else if b == 9 then Some BaseTag else None

abbrev pub named_location : NamedTag → ℕ → Location
named_location NamedLen n = Len n
named_location NamedOrder n = Order n
named_location NamedFile n = File n
named_location NamedOffset n = Offset n
named_location NamedClosed n = Closed n

abbrev pub made_var : ℕ × ℕ → Location
made_var p = Var p.0 p.1

abbrev pub made_item : ℕ × ℕ → Location
made_item p = Item p.0 p.1

abbrev pub made_entry : ℕ × Value → Location
made_entry p = Entry p.0 (record { value = p.1 })

abbrev pub made_method : Pos × ℕ → Location
made_method p = Method p.0 p.1

unfoldable pub location_behind : LocationTag → List ℕ → Option (Location × List ℕ)
location_behind VarTag rest = into made_var (both short_at short_at rest)
location_behind ItemTag rest = into made_item (both short_at number_at rest)
location_behind EntryTag rest = into made_entry (both short_at value_at rest)
location_behind MethodTag rest = into made_method (both place_at short_at rest)
location_behind BaseTag rest = into Base (place_at rest)
location_behind (Named form) rest = into (named_location form) (short_at rest)

unfoldable pub location_at : List ℕ → Option (Location × List ℕ)
location_at bytes = tagged location_tag location_behind bytes

-- ---- contents and changes, of a location's kind

abbrev pub flag : ℕ → Option Truth
flag b = if b == 0 then Some false else if b == 1 then Some true else None

abbrev pub flag_behind : Truth → List ℕ → Option (Truth × List ℕ)
flag_behind b rest = Some (b, rest)

unfoldable pub flag_at : List ℕ → Option (Truth × List ℕ)
flag_at bytes = tagged flag flag_behind bytes

abbrev pub some_value : Value → Option Value
some_value v = Some v

abbrev pub optional_behind : Truth → List ℕ → Option (Option Value × List ℕ)
optional_behind false rest = Some (None, rest)
optional_behind true rest = into some_value (value_at rest)

unfoldable pub optional_at : List ℕ → Option (Option Value × List ℕ)
optional_at bytes = tagged flag optional_behind bytes

abbrev pub made_entry_content : Value × Value → Content
made_entry_content entry = EntryContent (Some entry)

abbrev pub entry_behind : Truth → List ℕ → Option (Content × List ℕ)
entry_behind false rest = Some (EntryContent None, rest)
entry_behind true rest = into made_entry_content (both value_at value_at rest)

unfoldable pub entry_at : List ℕ → Option (Content × List ℕ)
entry_at bytes = tagged flag entry_behind bytes

unfoldable pub content_at : Location → List ℕ → Option (Content × List ℕ)
content_at (Var scope name) bytes = into VarContent (optional_at bytes)
content_at (Len object) bytes = into LenContent (number_at bytes)
content_at (Item object index) bytes = into ItemContent (value_at bytes)
content_at (Entry object key) bytes = entry_at bytes
content_at (Order object) bytes = into OrderContent (list_at value_at bytes)
content_at (File path) bytes = into FileContent (short_at bytes)
content_at (Offset object) bytes = into OffsetContent (number_at bytes)
content_at (Closed object) bytes = into ClosedContent (flag_at bytes)
content_at (Method class name) bytes = into MethodContent (place_at bytes)
content_at (Base class) bytes = into BaseContent (optional_at bytes)

abbrev pub key_change : Truth → Value → Change
key_change false key = Insert key
key_change true key = Delete key

abbrev pub key_behind : Truth → List ℕ → Option (Change × List ℕ)
key_behind deleted rest = into (key_change deleted) (value_at rest)

unfoldable pub key_change_at : List ℕ → Option (Change × List ℕ)
key_change_at bytes = tagged flag key_behind bytes

unfoldable pub change_at : Location → List ℕ → Option (Change × List ℕ)
change_at (Order object) bytes = key_change_at bytes
change_at (File path) bytes = into Append (short_at bytes)
change_at other bytes = None

-- ---- accesses

abbrev pub access_tag : ℕ → Option AccessTag
access_tag b = if b == 0 then Some ReadTag else if b == 1 then Some SetTag else if b == 2 then Some UpdateTag else None

unfoldable pub access_behind : AccessTag → List ℕ → Option (Access × List ℕ)
access_behind ReadTag rest = into Read (location_at rest)
access_behind SetTag rest = location_at rest >>= λ l. into (Set l.0) (content_at l.0 l.1)
access_behind UpdateTag rest = location_at rest >>= λ l. into (Update l.0) (change_at l.0 l.1)

unfoldable pub access_at : List ℕ → Option (Access × List ℕ)
access_at bytes = tagged access_tag access_behind bytes
