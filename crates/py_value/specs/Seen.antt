-- The store of a run without numbers for texts and tuples (this project's profile): a map from locations to what stands
-- there, in which texts and tuples are their contents, the kinds of the objects, and the names of functions and classes.
use Rattle.std.specs.Prelude.{ℕ, suc, Bool, List, [], ◌∷◌, map, slice_get, unwrap_or, Option, Some, None, if◌then◌else◌, ⊤, ◌<◌, length}
use Rattle.std.specs.Option.{option_map, option_and_then}
use Rattle.std.specs.Str.{bytes_eq}
use Rattle.std.specs.Cmp.Lexicographic.{pointwise}
use Rattle.prov_base.specs.declared.place.Pos.{Pos}
use Rattle.py_value.specs.declared.value.Value.{Value}
use Rattle.py_value.specs.declared.value.Value.TheVariants.{None as NoneValue, Bool as TruthValue, Int as IntValue, Text as TextValue, Tuple as TupleValue, Range as RangeValue, Fn as FnValue, Class as ClassValue, Exc as ExcValue, Builtin as BuiltinValue, Object as ObjectValue}
use Rattle.py_value.specs.contracts.value.ValuePartialEq.TheImpl.{ghosts as values_eq}
use Rattle.py_value.specs.declared.access.Location.{Location}
use Rattle.py_value.specs.declared.access.Location.TheVariants.{Var, Len, Item, Entry, Order, File, Offset, Closed, Method, Base}
use Rattle.py_value.specs.declared.access.Content.{Content}
use Rattle.py_value.specs.declared.access.Content.TheVariants.{Var as VarContent, Len as LenContent, Item as ItemContent, Entry as EntryContent, Order as OrderContent, File as FileContent, Offset as OffsetContent, Closed as ClosedContent, Method as MethodContent, Base as BaseContent}
use Rattle.py_value.specs.declared.access.Change.{Change}
use Rattle.py_value.specs.declared.access.Change.TheVariants.{Insert, Delete, Append}
use Rattle.py_value.specs.declared.access.Access.{Access}
use Rattle.py_value.specs.declared.access.Access.TheVariants.{Read, Set, Update}
use Rattle.py_value.specs.declared.access.Kind.{Kind}
use Rattle.py_value.specs.declared.access.Kind.TheVariants.{List as ListKind, Dict as DictKind, Instance as InstanceKind, File as FileKind}
use Rattle.py_value.specs.declared.access.Mode.{Mode}
use Rattle.py_value.specs.Values.{ValuesView, IsNamed}
use Rattle.py_value.specs.Contents.{Contents, Parts, nothing, truth, int, text, tuple, range, function, class, exception_class, builtin, object, no_parts, part, contents}

-- a location: names, paths and keys are their contents
pub data SeenLocation : Type 0 where
  var_at : ℕ → List ℕ → SeenLocation
  len_at : ℕ → SeenLocation
  item_at : ℕ → ℕ → SeenLocation
  entry_at : ℕ → Contents → SeenLocation
  order_at : ℕ → SeenLocation
  file_at : List ℕ → SeenLocation
  offset_at : ℕ → SeenLocation
  closed_at : ℕ → SeenLocation
  method_at : Pos → List ℕ → SeenLocation
  base_at : Pos → SeenLocation

-- what stands at a location of the same name
pub data SeenContent : Type 0 where
  var_is : Option Contents → SeenContent
  len_is : ℕ → SeenContent
  item_is : Contents → SeenContent
  entry_is : Option (Contents × Contents) → SeenContent
  order_is : List Contents → SeenContent
  file_is : List ℕ → SeenContent
  offset_is : ℕ → SeenContent
  closed_is : Bool → SeenContent
  method_is : Pos → SeenContent
  base_is : Option Contents → SeenContent

-- a change that keeps the rest of what stands at a location
pub data SeenChange : Type 0 where
  key_inserted : Contents → SeenChange
  key_deleted : Contents → SeenChange
  bytes_appended : List ℕ → SeenChange

-- one thing that is done to the store
pub data SeenAccess : Type 0 where
  reads : SeenLocation → SeenAccess
  sets : SeenLocation → SeenContent → SeenAccess
  updates : SeenLocation → SeenChange → SeenAccess

-- what an object is
pub data SeenKind : Type 0 where
  a_list : SeenKind
  a_dict : SeenKind
  an_instance : Contents → SeenKind
  a_file : List ℕ → Mode → SeenKind

-- the store: what stands at each location, the objects in the order in which they were made, and the noted names
pub record SeenStore : Type 0 where
  pub at : SeenLocation → Option SeenContent
  pub kinds : List SeenKind
  pub name : Pos → Option (List ℕ)

-- the bytes of the text with a number
abbrev pub bytes_of : ValuesView → ℕ → List ℕ
bytes_of view number = unwrap_or (slice_get view.texts number) []

-- what a location, a content and a kind are without numbers
abbrev pub location_seen : ValuesView → Location → SeenLocation
location_seen view (Var scope name) = var_at scope (bytes_of view name)
location_seen view (Len o) = len_at o
location_seen view (Item o i) = item_at o i
location_seen view (Entry o key) = entry_at o (contents view key.value)
location_seen view (Order o) = order_at o
location_seen view (File path) = file_at (bytes_of view path)
location_seen view (Offset o) = offset_at o
location_seen view (Closed o) = closed_at o
location_seen view (Method place name) = method_at place (bytes_of view name)
location_seen view (Base place) = base_at place

abbrev pub content_seen : ValuesView → Content → SeenContent
content_seen view (VarContent value) = var_is (option_map (contents view) value)
content_seen view (LenContent len) = len_is len
content_seen view (ItemContent item) = item_is (contents view item)
content_seen view (EntryContent entry) = entry_is (option_map (λ (e : Value × Value). (contents view e.0, contents view e.1)) entry)
content_seen view (OrderContent keys) = order_is (map (contents view) keys)
content_seen view (FileContent path) = file_is (bytes_of view path)
content_seen view (OffsetContent offset) = offset_is offset
content_seen view (ClosedContent is_closed) = closed_is is_closed
content_seen view (MethodContent place) = method_is place
content_seen view (BaseContent base) = base_is (option_map (contents view) base)

abbrev pub change_seen : ValuesView → Change → SeenChange
change_seen view (Insert key) = key_inserted (contents view key)
change_seen view (Delete key) = key_deleted (contents view key)
change_seen view (Append bytes) = bytes_appended (bytes_of view bytes)

abbrev pub access_seen : ValuesView → Access → SeenAccess
access_seen view (Read l) = reads (location_seen view l)
access_seen view (Set l content) = sets (location_seen view l) (content_seen view content)
access_seen view (Update l change) = updates (location_seen view l) (change_seen view change)

abbrev pub kind_seen : ValuesView → Kind → SeenKind
kind_seen view ListKind = a_list
kind_seen view DictKind = a_dict
kind_seen view (InstanceKind of) = an_instance (contents view of)
kind_seen view (FileKind path mode) = a_file (bytes_of view path) mode

-- the texts and tuples that a location names were named before
abbrev pub IsNamedLocation : ValuesView → Location → Type 0
IsNamedLocation view (Var scope name) = name < length view.texts
IsNamedLocation view (Entry o key) = IsNamed view key.value
IsNamedLocation view (File path) = path < length view.texts
IsNamedLocation view (Method place name) = name < length view.texts
IsNamedLocation view l = ⊤

-- the number of the first of a list that passes
abbrev pub number_by : {A : Type 0} → (A → Bool) → List A → Option ℕ
number_by test [] = None
number_by test (x ∷ xs) = if test x then Some 0 else option_map suc (number_by test xs)

-- the value with these contents, where there is one
abbrev mutual
  pub value_at : ValuesView → Contents → Option Value
  value_at view nothing = Some NoneValue
  value_at view (truth b) = Some (TruthValue b)
  value_at view (int i) = Some (IntValue i)
  value_at view (range start end step) = Some (RangeValue start end step)
  value_at view (function place) = Some (FnValue place)
  value_at view (class place) = Some (ClassValue place)
  value_at view (exception_class number) = Some (ExcValue number)
  value_at view (builtin number) = Some (BuiltinValue number)
  value_at view (object name) = Some (ObjectValue name)
  value_at view (text bytes) = option_map TextValue (number_by (bytes_eq bytes) view.texts)
  value_at view (tuple parts) = option_and_then (λ items. option_map TupleValue (number_by (pointwise values_eq.eq items) view.tuples)) (values_at view parts)

  pub values_at : ValuesView → Parts → Option (List Value)
  values_at view no_parts = Some []
  values_at view (part first rest) = option_and_then (λ value. option_map (λ values. value ∷ values) (values_at view rest)) (value_at view first)

abbrev pub entry_of : ℕ → Value → Location
entry_of o value = Entry o (record { value = value })

-- the location that is this one without numbers, where there is one
abbrev pub location_at : ValuesView → SeenLocation → Option Location
location_at view (var_at scope name) = option_map (Var scope) (number_by (bytes_eq name) view.texts)
location_at view (len_at o) = Some (Len o)
location_at view (item_at o i) = Some (Item o i)
location_at view (entry_at o key) = option_map (entry_of o) (value_at view key)
location_at view (order_at o) = Some (Order o)
location_at view (file_at path) = option_map File (number_by (bytes_eq path) view.texts)
location_at view (offset_at o) = Some (Offset o)
location_at view (closed_at o) = Some (Closed o)
location_at view (method_at place name) = option_map (Method place) (number_by (bytes_eq name) view.texts)
location_at view (base_at place) = Some (Base place)
