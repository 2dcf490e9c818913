-- Which numbers a row may name: those of what is earlier (this project's profile).
use Rattle.std.specs.Prelude.{Bool, true, ◌&&◌, nat_lt, List, Option, Some, None}
use Rattle.std.specs.List.{list_all}
use Rattle.py_value.specs.declared.access.Access.{Access}
use Rattle.py_value.specs.declared.access.Access.TheVariants.{Read, Set, Update}
use Rattle.py_value.specs.declared.access.Change.{Change}
use Rattle.py_value.specs.declared.access.Change.TheVariants.{Insert, Delete, Append}
use Rattle.py_value.specs.declared.access.Content.{Content}
use Rattle.py_value.specs.declared.access.Content.TheVariants.{Var as VarContent, Len as LenContent, Item as ItemContent, Entry as EntryContent, Order as OrderContent, File as FileContent, Offset as OffsetContent, Closed as ClosedContent, Method as MethodContent, Base as BaseContent}
use Rattle.py_value.specs.declared.access.Kind.{Kind}
use Rattle.py_value.specs.declared.access.Kind.TheVariants.{List as ListKind, Dict, Instance, File as FileKind}
use Rattle.py_value.specs.declared.access.Location.{Location}
use Rattle.py_value.specs.declared.access.Location.TheVariants.{Var, Len, Item, Entry, Order, File, Offset, Closed, Method, Base}
use Rattle.py_value.specs.declared.value.Value.{Value}
use Rattle.py_value.specs.declared.value.Value.TheVariants.{Text, Tuple, Object}
use Rattle.row_checks.specs.declared.counts.Counts.{Counts}

-- a text, a tuple or an object is one of those that are there
abbrev pub names_value : Counts → Value → Bool
names_value counts (Text n) = nat_lt n counts.texts
names_value counts (Tuple n) = nat_lt n counts.tuples
names_value counts (Object n) = nat_lt n counts.objects
names_value counts v = true

abbrev pub names_values : Counts → List Value → Bool
names_values counts values = list_all (names_value counts) values

abbrev pub names_optional : Counts → Option Value → Bool
names_optional counts None = true
names_optional counts (Some v) = names_value counts v

abbrev pub names_location : Counts → Location → Bool
names_location counts (Var scope name) = nat_lt scope counts.scopes && nat_lt name counts.texts
names_location counts (Len o) = nat_lt o counts.objects
names_location counts (Item o i) = nat_lt o counts.objects
names_location counts (Entry o key) = nat_lt o counts.objects && names_value counts key.value
names_location counts (Order o) = nat_lt o counts.objects
names_location counts (File path) = nat_lt path counts.texts
names_location counts (Offset o) = nat_lt o counts.objects
names_location counts (Closed o) = nat_lt o counts.objects
names_location counts (Method class name) = nat_lt name counts.texts
names_location counts (Base class) = true

abbrev pub names_content : Counts → Content → Bool
names_content counts (VarContent v) = names_optional counts v
names_content counts (LenContent n) = true
names_content counts (ItemContent v) = names_value counts v
names_content counts (EntryContent None) = true
names_content counts (EntryContent (Some entry)) = names_value counts entry.0 && names_value counts entry.1
names_content counts (OrderContent keys) = names_values counts keys
names_content counts (FileContent bytes) = nat_lt bytes counts.texts
names_content counts (OffsetContent n) = true
names_content counts (ClosedContent b) = true
names_content counts (MethodContent at) = true
names_content counts (BaseContent v) = names_optional counts v

abbrev pub names_change : Counts → Change → Bool
names_change counts (Insert key) = names_value counts key
names_change counts (Delete key) = names_value counts key
names_change counts (Append bytes) = nat_lt bytes counts.texts

abbrev pub names_access : Counts → Access → Bool
names_access counts (Read l) = names_location counts l
names_access counts (Set l content) = names_location counts l && names_content counts content
names_access counts (Update l change) = names_location counts l && names_change counts change

abbrev pub names_accesses : Counts → List Access → Bool
names_accesses counts accesses = list_all (names_access counts) accesses

abbrev pub names_made : Counts → Option Kind → Bool
names_made counts None = true
names_made counts (Some ListKind) = true
names_made counts (Some Dict) = true
names_made counts (Some (Instance class)) = names_value counts class
names_made counts (Some (FileKind path mode)) = nat_lt path counts.texts
