-- What is read at a location is what the store holds there.
use Rattle.std.proofs.Common.{◌≡◌, refl, ap, ◌∙◌, ℕ, ◌<◌, length, slice_get, Option, Some, None}
use Rattle.std.specs.Option.{option_map}
use Rattle.std.proofs.lemmas.Option.{slice_get-map}
use Rattle.prov_base.specs.declared.place.Pos.{Pos}
use Rattle.py_value.specs.Seen.{SeenContent, content_seen, location_seen, kind_seen, bytes_of, IsNamedLocation}
use Rattle.py_value.specs.Values.{ValuesView}
use Rattle.py_value.specs.declared.access.Content.{Content}
use Rattle.py_value.specs.declared.access.Content.TheVariants.{Var as VarContent, Len as LenContent, Item as ItemContent, Entry as EntryContent, Order as OrderContent, File as FileContent, Offset as OffsetContent, Closed as ClosedContent, Method as MethodContent, Base as BaseContent}
use Rattle.py_value.specs.declared.access.Kind.{Kind}
use Rattle.py_value.specs.declared.access.Location.{Location}
use Rattle.py_value.specs.declared.access.Location.TheVariants.{Var, Len, Item, Offset, Closed, Method, Base}
use Rattle.py_value.specs.declared.value.Value.{Value}
use Rattle.object_store.specs.Seen.{held_seen}
use Rattle.object_store.specs.Store.{StoreView, whole, held_at, content_at, item_at, kinds, name_at, IsReadWhole}
use Rattle.py_model.specs.Store.{RunStore, empty, var_of, len_of, item_of, offset_of, closed_of, method_of, base_of}
use Rattle.py_value.specs.Named.{IsNamedContent, IsNamedKind}
use Rattle.object_store.specs.Named.{IsNamedStore}
use Rattle.op_work.specs.Work.{IsSeen, IsNamedMaybe, seen_maybe, IsNamedName, var_in, len_in, offset_in, closed_in, method_in, base_in}

seen_whole : (table : ValuesView) (content : Option Content) → option_map (held_seen table) (option_map whole content) ≡ option_map (content_seen table) content
seen_whole table None = refl
seen_whole table (Some content) = refl

-- the store in which this stands everywhere
abbrev all : Option SeenContent → RunStore
all content = record empty { at = λ l. content }

-- what stands at a location that is read whole
at_whole : (table : ValuesView) (store : StoreView) (seen : RunStore) (l : Location) (content : Option Content) → IsSeen table store seen → IsReadWhole l
    → IsNamedLocation table l → held_at store l ≡ option_map whole content → seen.at (location_seen table l) ≡ option_map (content_seen table) content
at_whole table store seen l content is_seen read named is = is_seen.whole l read named ∙ (ap (option_map (held_seen table)) is ∙ seen_whole table content)

-- what reads something off a content does so off what the content is without numbers
module _ {A B : Type 0} (off : Option Content → A) (off_seen : Option SeenContent → B) (table : ValuesView) (seen_as : A → B) where
  by_content : off_seen None ≡ seen_as (off None) → ((content : Content) → off_seen (Some (content_seen table content)) ≡ seen_as (off (Some content)))
      → (content : Option Content) → off_seen (option_map (content_seen table) content) ≡ seen_as (off content)
  by_content absent there None = absent
  by_content absent there (Some content) = there content

module _ (table : ValuesView) (store : StoreView) (seen : RunStore) (is_seen : IsSeen table store seen) where
  pub var_read : (scope name : ℕ) → name < length table.texts → var_of seen scope (bytes_of table name) ≡ seen_maybe table (var_in (content_at store (Var scope name)))
  var_read scope name named = ap (λ c. var_of (all c) 0 (bytes_of table 0)) (at_whole table store seen (Var scope name) (content_at store (Var scope name)) is_seen tt named refl) ∙ off (content_at store (Var scope name))
    where
      off : (content : Option Content) → var_of (all (option_map (content_seen table) content)) 0 (bytes_of table 0) ≡ seen_maybe table (var_in content)
      off None = refl
      off (Some (VarContent v)) = refl
      off (Some (LenContent n)) = refl
      off (Some (ItemContent item)) = refl
      off (Some (EntryContent entry)) = refl
      off (Some (OrderContent keys)) = refl
      off (Some (FileContent bytes)) = refl
      off (Some (OffsetContent n)) = refl
      off (Some (ClosedContent b)) = refl
      off (Some (MethodContent at)) = refl
      off (Some (BaseContent base)) = refl

  pub len_read : (o : ℕ) → len_of seen o ≡ len_in (content_at store (Len o))
  len_read o = ap (λ c. len_of (all c) 0) (at_whole table store seen (Len o) (content_at store (Len o)) is_seen tt tt refl) ∙ off (content_at store (Len o))
    where
      off : (content : Option Content) → len_of (all (option_map (content_seen table) content)) 0 ≡ len_in content
      off None = refl
      off (Some (VarContent v)) = refl
      off (Some (LenContent n)) = refl
      off (Some (ItemContent item)) = refl
      off (Some (EntryContent entry)) = refl
      off (Some (OrderContent keys)) = refl
      off (Some (FileContent bytes)) = refl
      off (Some (OffsetContent n)) = refl
      off (Some (ClosedContent b)) = refl
      off (Some (MethodContent at)) = refl
      off (Some (BaseContent base)) = refl

  pub item_read : (o i : ℕ) → item_of seen o i ≡ seen_maybe table (item_at store o i)
  item_read o i = ap (λ c. item_of (all c) 0 0) (is_seen.whole (Item o i) tt tt) ∙ off (item_at store o i)
    where
      off : (item : Option Value) → item_of (all (option_map (held_seen table) (option_map (λ v. whole (ItemContent v)) item))) 0 0 ≡ seen_maybe table item
      off None = refl
      off (Some v) = refl

  pub offset_read : (o : ℕ) → offset_of seen o ≡ offset_in (content_at store (Offset o))
  offset_read o = ap (λ c. offset_of (all c) 0) (at_whole table store seen (Offset o) (content_at store (Offset o)) is_seen tt tt refl) ∙ off (content_at store (Offset o))
    where
      off : (content : Option Content) → offset_of (all (option_map (content_seen table) content)) 0 ≡ offset_in content
      off None = refl
      off (Some (VarContent v)) = refl
      off (Some (LenContent n)) = refl
      off (Some (ItemContent item)) = refl
      off (Some (EntryContent entry)) = refl
      off (Some (OrderContent keys)) = refl
      off (Some (FileContent bytes)) = refl
      off (Some (OffsetContent n)) = refl
      off (Some (ClosedContent b)) = refl
      off (Some (MethodContent at)) = refl
      off (Some (BaseContent base)) = refl

  pub closed_read : (o : ℕ) → closed_of seen o ≡ closed_in (content_at store (Closed o))
  closed_read o = ap (λ c. closed_of (all c) 0) (at_whole table store seen (Closed o) (content_at store (Closed o)) is_seen tt tt refl) ∙ off (content_at store (Closed o))
    where
      off : (content : Option Content) → closed_of (all (option_map (content_seen table) content)) 0 ≡ closed_in content
      off None = refl
      off (Some (VarContent v)) = refl
      off (Some (LenContent n)) = refl
      off (Some (ItemContent item)) = refl
      off (Some (EntryContent entry)) = refl
      off (Some (OrderContent keys)) = refl
      off (Some (FileContent bytes)) = refl
      off (Some (OffsetContent n)) = refl
      off (Some (ClosedContent b)) = refl
      off (Some (MethodContent at)) = refl
      off (Some (BaseContent base)) = refl

  pub method_read : (place : Pos) (name : ℕ) → name < length table.texts → method_of seen place (bytes_of table name) ≡ method_in (content_at store (Method place name))
  method_read place name named = ap (λ c. method_of (all c) place (bytes_of table name)) (at_whole table store seen (Method place name) (content_at store (Method place name)) is_seen tt named refl) ∙ off (content_at store (Method place name))
    where
      off : (content : Option Content) → method_of (all (option_map (content_seen table) content)) place (bytes_of table name) ≡ method_in content
      off None = refl
      off (Some (VarContent v)) = refl
      off (Some (LenContent n)) = refl
      off (Some (ItemContent item)) = refl
      off (Some (EntryContent entry)) = refl
      off (Some (OrderContent keys)) = refl
      off (Some (FileContent bytes)) = refl
      off (Some (OffsetContent n)) = refl
      off (Some (ClosedContent b)) = refl
      off (Some (MethodContent at)) = refl
      off (Some (BaseContent base)) = refl

  pub base_read : (place : Pos) → base_of seen place ≡ seen_maybe table (base_in (content_at store (Base place)))
  base_read place = ap (λ c. base_of (all c) place) (at_whole table store seen (Base place) (content_at store (Base place)) is_seen tt tt refl) ∙ off (content_at store (Base place))
    where
      off : (content : Option Content) → base_of (all (option_map (content_seen table) content)) place ≡ seen_maybe table (base_in content)
      off None = refl
      off (Some (VarContent v)) = refl
      off (Some (LenContent n)) = refl
      off (Some (ItemContent item)) = refl
      off (Some (EntryContent entry)) = refl
      off (Some (OrderContent keys)) = refl
      off (Some (FileContent bytes)) = refl
      off (Some (OffsetContent n)) = refl
      off (Some (ClosedContent b)) = refl
      off (Some (MethodContent at)) = refl
      off (Some (BaseContent base)) = refl

-- what was read is named
module _ (values : ValuesView) (store : StoreView) (is_named : IsNamedStore values store) where
  there : (l : Location) (content : Option Content) → held_at store l ≡ option_map whole content → (P : Option Content → Type 0) → P None
      → ((c : Content) → held_at store l ≡ Some (whole c) → P (Some c)) → P content
  there l None is P absent found = absent
  there l (Some c) is P absent found = found c is

  pub var_named : (scope name : ℕ) → IsNamedMaybe values (var_in (content_at store (Var scope name)))
  var_named scope name = there (Var scope name) (content_at store (Var scope name)) refl (λ c. IsNamedMaybe values (var_in c)) tt
      (λ c is. of c (is_named.held (Var scope name) (whole c) is).1)
    where
      of : (c : Content) → IsNamedContent values c → IsNamedMaybe values (var_in (Some c))
      of (VarContent (Some v)) named = named
      of (VarContent None) named = tt
      of (LenContent n) named = tt
      of (ItemContent item) named = tt
      of (EntryContent entry) named = tt
      of (OrderContent keys) named = tt
      of (FileContent bytes) named = tt
      of (OffsetContent n) named = tt
      of (ClosedContent b) named = tt
      of (MethodContent at) named = tt
      of (BaseContent base) named = tt

  pub base_named : (place : Pos) → IsNamedMaybe values (base_in (content_at store (Base place)))
  base_named place = there (Base place) (content_at store (Base place)) refl (λ c. IsNamedMaybe values (base_in c)) tt
      (λ c is. of c (is_named.held (Base place) (whole c) is).1)
    where
      of : (c : Content) → IsNamedContent values c → IsNamedMaybe values (base_in (Some c))
      of (BaseContent (Some v)) named = named
      of (BaseContent None) named = tt
      of (VarContent v) named = tt
      of (LenContent n) named = tt
      of (ItemContent item) named = tt
      of (EntryContent entry) named = tt
      of (OrderContent keys) named = tt
      of (FileContent bytes) named = tt
      of (OffsetContent n) named = tt
      of (ClosedContent b) named = tt
      of (MethodContent at) named = tt

  pub item_named : (o i : ℕ) → IsNamedMaybe values (item_at store o i)
  item_named o i = of (item_at store o i) refl
    where
      of : (item : Option Value) → item_at store o i ≡ item → IsNamedMaybe values item
      of None is = tt
      of (Some v) is = (is_named.held (Item o i) (whole (ItemContent v)) (ap (option_map (λ v. whole (ItemContent v))) is)).1

  pub kind_named : (o : ℕ) → IsNamedKind values (slice_get (kinds store) o)
  kind_named o = of (slice_get (kinds store) o) refl
    where
      of : (kind : Option Kind) → slice_get (kinds store) o ≡ kind → IsNamedKind values kind
      of None is = tt
      of (Some kind) is = is_named.kinds_named o kind is

  pub name_named : (place : Pos) → IsNamedName values (name_at store place)
  name_named place = of (name_at store place) refl
    where
      of : (name : Option ℕ) → name_at store place ≡ name → IsNamedName values name
      of None is = tt
      of (Some name) is = is_named.names_named place name is

-- the kind of an object
pub kind_read : (table : ValuesView) (store : StoreView) (seen : RunStore) → IsSeen table store seen → (o : ℕ) → slice_get seen.kinds o ≡ option_map (kind_seen table) (slice_get (kinds store) o)
kind_read table store seen is_seen o = ap (λ ks. slice_get ks o) is_seen.kinds_are ∙ slice_get-map (kind_seen table) (kinds store) o
