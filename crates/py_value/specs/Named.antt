-- What names only texts and tuples that were named before, and is of its location's own kind (this project's profile).
use Rattle.std.specs.Prelude.{◌≡◌, ◌<◌, ⊤, Bool, true, false, List, [], ◌∷◌, length, Option, Some}
use Rattle.py_value.specs.declared.access.Access.{Access}
use Rattle.py_value.specs.declared.access.Access.TheVariants.{Read, Set, Update}
use Rattle.py_value.specs.declared.access.Change.{Change}
use Rattle.py_value.specs.declared.access.Change.TheVariants.{Insert, Delete, Append}
use Rattle.py_value.specs.declared.access.Content.{Content}
use Rattle.py_value.specs.declared.access.Content.TheVariants.{Var as VarContent, Len as LenContent, Item as ItemContent, Entry as EntryContent, Order as OrderContent, File as FileContent, Offset as OffsetContent, Closed as ClosedContent, Method as MethodContent, Base as BaseContent}
use Rattle.py_value.specs.declared.access.Kind.{Kind}
use Rattle.py_value.specs.declared.access.Kind.TheVariants.{Instance, File as FileKind}
use Rattle.py_value.specs.declared.access.Location.{Location}
use Rattle.py_value.specs.declared.access.Location.TheVariants.{Var, Len, Item, Entry, Order, File, Offset, Closed, Method, Base}
use Rattle.py_value.specs.Seen.{IsNamedLocation}
use Rattle.py_value.specs.Values.{ValuesView, IsNamed, AreNamed}

-- the texts and tuples that something names are named so far
abbrev pub IsNamedKind : ValuesView → Option Kind → Type 0
IsNamedKind view (Some (Instance of)) = IsNamed view of
IsNamedKind view (Some (FileKind path mode)) = path < length view.texts
IsNamedKind view other = ⊤

abbrev pub IsNamedContent : ValuesView → Content → Type 0
IsNamedContent view (VarContent (Some v)) = IsNamed view v
IsNamedContent view (ItemContent v) = IsNamed view v
IsNamedContent view (EntryContent (Some entry)) = IsNamed view entry.0 × IsNamed view entry.1
IsNamedContent view (OrderContent keys) = AreNamed view keys
IsNamedContent view (FileContent bytes) = bytes < length view.texts
IsNamedContent view (BaseContent (Some v)) = IsNamed view v
IsNamedContent view other = ⊤

abbrev pub IsNamedChange : ValuesView → Change → Type 0
IsNamedChange view (Insert v) = IsNamed view v
IsNamedChange view (Delete v) = IsNamed view v
IsNamedChange view (Append bytes) = bytes < length view.texts

-- a content, and a change, of the location's own kind
abbrev pub fits : Location → Content → Bool
fits (Var scope name) (VarContent v) = true
fits (Len o) (LenContent n) = true
fits (Item o i) (ItemContent v) = true
fits (Entry o key) (EntryContent entry) = true
fits (Order o) (OrderContent keys) = true
fits (File path) (FileContent bytes) = true
fits (Offset o) (OffsetContent n) = true
fits (Closed o) (ClosedContent b) = true
fits (Method place name) (MethodContent at) = true
fits (Base place) (BaseContent v) = true
fits l content = false

abbrev pub fits_change : Location → Change → Bool
fits_change (Order o) (Insert v) = true
fits_change (Order o) (Delete v) = true
fits_change (File path) (Append bytes) = true
fits_change l change = false

abbrev pub IsNamedAccess : ValuesView → Access → Type 0
IsNamedAccess view (Read l) = IsNamedLocation view l
IsNamedAccess view (Set l content) = (fits l content ≡ true) × (IsNamedLocation view l × IsNamedContent view content)
IsNamedAccess view (Update l change) = (fits_change l change ≡ true) × (IsNamedLocation view l × IsNamedChange view change)

abbrev pub AreNamedAccesses : ValuesView → List Access → Type 0
AreNamedAccesses view [] = ⊤
AreNamedAccesses view (access ∷ accesses) = IsNamedAccess view access × AreNamedAccesses view accesses
