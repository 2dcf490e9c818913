-- The bytes of accesses in a row of a trace (this project's profile), and which accesses have them.
use Rattle.std.specs.Prelude.{◌≡◌, ℕ, true, false, List, [], ◌∷◌, ◌++◌, Option, Some, None, ⊤}
use Rattle.py_value.specs.declared.access.Access.{Access}
use Rattle.py_value.specs.declared.access.Access.TheVariants.{Read, Set, Update}
use Rattle.py_value.specs.declared.access.Change.{Change}
use Rattle.py_value.specs.declared.access.Change.TheVariants.{Insert, Delete, Append}
use Rattle.py_value.specs.declared.access.Content.{Content}
use Rattle.py_value.specs.declared.access.Content.TheVariants.{Var as VarContent, Len as LenContent, Item as ItemContent, Entry as EntryContent, Order as OrderContent, File as FileContent, Offset as OffsetContent, Closed as ClosedContent, Method as MethodContent, Base as BaseContent}
use Rattle.py_value.specs.declared.access.Location.{Location}
use Rattle.py_value.specs.declared.access.Location.TheVariants.{Var, Len, Item, Entry, Order, File, Offset, Closed, Method, Base}
use Rattle.py_value.specs.declared.value.Value.{Value}
use Rattle.py_value.specs.Named.{fits, fits_change}
use Rattle.row_words.specs.Bytes.{number_bytes, place_bytes, value_bytes, values_bytes, list_bytes}
use Rattle.row_words.specs.Fits.{IsShort, IsLong, IsPlace, IsValue, AreValues, IsList}

abbrev pub location_bytes : Location → List ℕ
location_bytes (Var scope name) = 0 ∷ number_bytes scope ++ number_bytes name
location_bytes (Len object) = 1 ∷ number_bytes object
location_bytes (Item object index) = 2 ∷ number_bytes object ++ number_bytes index
location_bytes (Entry object key) = 3 ∷ number_bytes object ++ value_bytes key.value
location_bytes (Order object) = 4 ∷ number_bytes object
location_bytes (File path) = 5 ∷ number_bytes path
location_bytes (Offset object) = 6 ∷ number_bytes object
location_bytes (Closed object) = 7 ∷ number_bytes object
location_bytes (Method class name) = 8 ∷ place_bytes class ++ number_bytes name
location_bytes (Base class) = 9 ∷ place_bytes class

-- a value, where there is one
abbrev pub optional_bytes : Option Value → List ℕ
optional_bytes None = 0 ∷ []
optional_bytes (Some v) = 1 ∷ value_bytes v

-- The kind of a content is told by its location, which stands before it.
abbrev pub content_bytes : Content → List ℕ
content_bytes (VarContent v) = optional_bytes v
content_bytes (LenContent n) = number_bytes n
content_bytes (ItemContent v) = value_bytes v
content_bytes (EntryContent None) = 0 ∷ []
content_bytes (EntryContent (Some entry)) = 1 ∷ value_bytes entry.0 ++ value_bytes entry.1
content_bytes (OrderContent keys) = values_bytes keys
content_bytes (FileContent text) = number_bytes text
content_bytes (OffsetContent n) = number_bytes n
content_bytes (ClosedContent false) = 0 ∷ []
content_bytes (ClosedContent true) = 1 ∷ []
content_bytes (MethodContent at) = place_bytes at
content_bytes (BaseContent v) = optional_bytes v

abbrev pub change_bytes : Change → List ℕ
change_bytes (Insert key) = 0 ∷ value_bytes key
change_bytes (Delete key) = 1 ∷ value_bytes key
change_bytes (Append text) = number_bytes text

abbrev pub access_bytes : Access → List ℕ
access_bytes (Read l) = 0 ∷ location_bytes l
access_bytes (Set l content) = 1 ∷ location_bytes l ++ content_bytes content
access_bytes (Update l change) = 2 ∷ location_bytes l ++ change_bytes change

abbrev pub accesses_bytes : List Access → List ℕ
accesses_bytes accesses = list_bytes access_bytes accesses

-- ---- in range, and of the location's own kind

abbrev pub IsLocation : Location → Type 0
IsLocation (Var scope name) = IsShort scope × IsShort name
IsLocation (Len object) = IsShort object
IsLocation (Item object index) = IsShort object × IsLong index
IsLocation (Entry object key) = IsShort object × IsValue key.value
IsLocation (Order object) = IsShort object
IsLocation (File path) = IsShort path
IsLocation (Offset object) = IsShort object
IsLocation (Closed object) = IsShort object
IsLocation (Method class name) = IsPlace class × IsShort name
IsLocation (Base class) = IsPlace class

abbrev pub IsOptional : Option Value → Type 0
IsOptional None = ⊤
IsOptional (Some v) = IsValue v

abbrev pub IsContent : Content → Type 0
IsContent (VarContent v) = IsOptional v
IsContent (LenContent n) = IsLong n
IsContent (ItemContent v) = IsValue v
IsContent (EntryContent None) = ⊤
IsContent (EntryContent (Some entry)) = IsValue entry.0 × IsValue entry.1
IsContent (OrderContent keys) = AreValues keys
IsContent (FileContent text) = IsShort text
IsContent (OffsetContent n) = IsLong n
IsContent (ClosedContent b) = ⊤
IsContent (MethodContent at) = IsPlace at
IsContent (BaseContent v) = IsOptional v

abbrev pub IsChange : Change → Type 0
IsChange (Insert key) = IsValue key
IsChange (Delete key) = IsValue key
IsChange (Append text) = IsShort text

abbrev pub IsAccess : Access → Type 0
IsAccess (Read l) = IsLocation l
IsAccess (Set l content) = IsLocation l × ((fits l content ≡ true) × IsContent content)
IsAccess (Update l change) = IsLocation l × ((fits_change l change ≡ true) × IsChange change)

abbrev pub AreAccesses : List Access → Type 0
AreAccesses accesses = IsList IsAccess accesses
