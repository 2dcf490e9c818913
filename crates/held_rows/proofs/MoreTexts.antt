-- A table with more texts: what rows name is there, and they tell the same moments.
use Rattle.std.proofs.Common.{◌≡◌, ℕ, zero, suc, ◌<◌, ◌≤◌, List, [], ◌∷◌, map, length, slice_get, unwrap_or, Option, Some, None, refl, sym, ap, ◌∙◌, arith}
use Rattle.std.specs.Option.{option_map}
use Rattle.py_value.specs.declared.access.Access.{Access}
use Rattle.py_value.specs.declared.access.Access.TheVariants.{Read, Set, Update}
use Rattle.py_value.specs.declared.access.Change.{Change}
use Rattle.py_value.specs.declared.access.Change.TheVariants.{Insert, Delete, Append}
use Rattle.py_value.specs.declared.access.Content.{Content}
use Rattle.py_value.specs.declared.access.Content.TheVariants.{Var as VarContent, Len as LenContent, Item as ItemContent, Entry as EntryContent, Order as OrderContent, File as FileContent, Offset as OffsetContent, Closed as ClosedContent, Method as MethodContent, Base as BaseContent}
use Rattle.py_value.specs.declared.access.Kind.{Kind}
use Rattle.py_value.specs.declared.access.Kind.TheVariants.{List as ListKind, Dict, Instance, File as FileKind}
use Rattle.py_value.specs.declared.access.Location.{Location}
use Rattle.py_value.specs.declared.access.Location.TheVariants.{Var, Len, Item, Entry, Order, File, Offset, Closed, Method, Base}
use Rattle.py_value.specs.declared.value.Value.{Value}
use Rattle.py_value.specs.Contents.{contents}
use Rattle.py_value.specs.Named.{IsNamedKind, IsNamedContent, IsNamedChange}
use Rattle.py_value.specs.Seen.{IsNamedLocation, var_at, entry_at, file_at, method_at, var_is, item_is, entry_is, order_is, file_is, base_is, key_inserted, key_deleted, bytes_appended, reads, sets, updates, an_instance, a_file, bytes_of, location_seen, content_seen, change_seen, access_seen, kind_seen}
use Rattle.py_value.specs.Values.{ValuesView, IsNamed, AreNamed, AreInterned, Keeps}
use Rattle.py_value.proofs.Interning.{below_more}
use Rattle.py_value.proofs.SameContents.{contents_stay}
use Rattle.py_model.specs.declared.moment.Answer.{Answer}
use Rattle.py_model.specs.declared.moment.Answer.TheVariants.{Value as ValueAnswer, Raised, End as EndAnswer}
use Rattle.py_model.specs.Moment.{Moment, does, enters, leaves}
use Rattle.py_model.specs.Plan.{value}
use Rattle.py_model.specs.Told.{IsNamedAnswer, answer_seen}
use Rattle.row_words.specs.Fits.{Each}
use Rattle.trace_rows.specs.declared.row.Row.{Row}
use Rattle.trace_rows.specs.declared.row.Row.TheVariants.{Text, Tuple, Begin, Do, Enter, Leave, End}
use Rattle.row_checks.specs.NamedRows.{NamesAccess, NamesRow}
use Rattle.row_moments.specs.Moments.{told_with}

-- ---- what is named in a table is named in one that has more

module _ (old new : ValuesView) (texts : length old.texts ≤ length new.texts) (tuples : length old.tuples ≤ length new.tuples) where
  value_stays : (v : Value) → IsNamed old v → IsNamed new v
  value_stays v named = below_more (length old.texts) (length old.tuples) (length new.texts) (length new.tuples) v texts tuples named

  values_stay : (vs : List Value) → AreNamed old vs → AreNamed new vs
  values_stay vs named i item at = value_stays item (named i item at)

  text_stays : (n : ℕ) → n < length old.texts → n < length new.texts
  text_stays n named = omega (arith, named, texts)

  location_stays : (l : Location) → IsNamedLocation old l → IsNamedLocation new l
  location_stays (Var scope name) named = text_stays name named
  location_stays (Len o) named = tt
  location_stays (Item o i) named = tt
  location_stays (Entry o key) named = value_stays key.value named
  location_stays (Order o) named = tt
  location_stays (File path) named = text_stays path named
  location_stays (Offset o) named = tt
  location_stays (Closed o) named = tt
  location_stays (Method class name) named = text_stays name named
  location_stays (Base class) named = tt

  content_stays : (content : Content) → IsNamedContent old content → IsNamedContent new content
  content_stays (VarContent None) named = tt
  content_stays (VarContent (Some v)) named = value_stays v named
  content_stays (LenContent n) named = tt
  content_stays (ItemContent v) named = value_stays v named
  content_stays (EntryContent None) named = tt
  content_stays (EntryContent (Some entry)) named = (value_stays entry.0 named.0, value_stays entry.1 named.1)
  content_stays (OrderContent keys) named = values_stay keys named
  content_stays (FileContent bytes) named = text_stays bytes named
  content_stays (OffsetContent n) named = tt
  content_stays (ClosedContent b) named = tt
  content_stays (MethodContent at) named = tt
  content_stays (BaseContent None) named = tt
  content_stays (BaseContent (Some v)) named = value_stays v named

  change_stays : (change : Change) → IsNamedChange old change → IsNamedChange new change
  change_stays (Insert key) named = value_stays key named
  change_stays (Delete key) named = value_stays key named
  change_stays (Append bytes) named = text_stays bytes named

  access_stays : (access : Access) → NamesAccess old access → NamesAccess new access
  access_stays (Read l) named = location_stays l named
  access_stays (Set l content) named = (location_stays l named.0, content_stays content named.1)
  access_stays (Update l change) named = (location_stays l named.0, change_stays change named.1)

  accesses_stay : (accesses : List Access) → Each (NamesAccess old) accesses → Each (NamesAccess new) accesses
  accesses_stay [] named = tt
  accesses_stay (access ∷ accesses) named = (access_stays access named.0, accesses_stay accesses named.1)

  made_stays : (made : Option Kind) → IsNamedKind old made → IsNamedKind new made
  made_stays None named = tt
  made_stays (Some ListKind) named = tt
  made_stays (Some Dict) named = tt
  made_stays (Some (Instance class)) named = value_stays class named
  made_stays (Some (FileKind path mode)) named = text_stays path named

  answer_stays : (answer : Answer) → IsNamedAnswer old answer → IsNamedAnswer new answer
  answer_stays (ValueAnswer v) named = value_stays v named
  answer_stays (Raised object) named = tt
  answer_stays EndAnswer named = tt

  pub row_stays : (row : Row) → NamesRow old row → NamesRow new row
  row_stays (Text text) named = tt
  row_stays (Tuple parts) named = values_stay parts named
  row_stays (Begin n) named = tt
  row_stays (Do at op values answer made accesses weight) named =
      (values_stay values named.0, (answer_stays answer named.1.0, (made_stays made named.1.1.0, accesses_stay accesses named.1.1.1)))
  row_stays (Enter call def values accesses) named = (values_stay values named.0, accesses_stay accesses named.1)
  row_stays (Leave v) named = value_stays v named
  row_stays (End how) named = tt

-- ---- what is named in a table is the same in one that has more

module _ (old new : ValuesView) (interned : AreInterned old) (texts : Keeps old.texts new.texts) (tuples : Keeps old.tuples new.tuples) where
  same : (v : Value) → IsNamed old v → contents new v ≡ contents old v
  same v named = contents_stay old new interned texts tuples v named

  all_same : (vs : List Value) → AreNamed old vs → map (contents new) vs ≡ map (contents old) vs
  all_same [] named = refl
  all_same (v ∷ vs) named = ap (λ c. c ∷ map (contents new) vs) (same v (named 0 v refl)) ∙ ap (λ rest. contents old v ∷ rest) (all_same vs (λ i item at. named (suc i) item at))

  same_bytes : (n : ℕ) → n < length old.texts → bytes_of new n ≡ bytes_of old n
  same_bytes n named = let found = item_at old.texts n named in ap (λ o. unwrap_or o []) (texts n found.0 found.1 ∙ sym found.1)
    where
      item_at : {A : Type 0} (xs : List A) (i : ℕ) → i < length xs → (x : A) × (slice_get xs i ≡ Some x)
      item_at [] i below = absurd (omega (arith, below))
      item_at (x ∷ xs) zero below = (x, refl)
      item_at (x ∷ xs) (suc i) below = item_at xs i (omega (arith, below))

  same_location : (l : Location) → IsNamedLocation old l → location_seen new l ≡ location_seen old l
  same_location (Var scope name) named = ap (var_at scope) (same_bytes name named)
  same_location (Len o) named = refl
  same_location (Item o i) named = refl
  same_location (Entry o key) named = ap (entry_at o) (same key.value named)
  same_location (Order o) named = refl
  same_location (File path) named = ap file_at (same_bytes path named)
  same_location (Offset o) named = refl
  same_location (Closed o) named = refl
  same_location (Method class name) named = ap (method_at class) (same_bytes name named)
  same_location (Base class) named = refl

  same_content : (content : Content) → IsNamedContent old content → content_seen new content ≡ content_seen old content
  same_content (VarContent None) named = refl
  same_content (VarContent (Some v)) named = ap (λ c. var_is (Some c)) (same v named)
  same_content (LenContent n) named = refl
  same_content (ItemContent v) named = ap item_is (same v named)
  same_content (EntryContent None) named = refl
  same_content (EntryContent (Some entry)) named = ap (λ c. entry_is (Some (c, contents new entry.1))) (same entry.0 named.0) ∙ ap (λ c. entry_is (Some (contents old entry.0, c))) (same entry.1 named.1)
  same_content (OrderContent keys) named = ap order_is (all_same keys named)
  same_content (FileContent bytes) named = ap file_is (same_bytes bytes named)
  same_content (OffsetContent n) named = refl
  same_content (ClosedContent b) named = refl
  same_content (MethodContent at) named = refl
  same_content (BaseContent None) named = refl
  same_content (BaseContent (Some v)) named = ap (λ c. base_is (Some c)) (same v named)

  same_change : (change : Change) → IsNamedChange old change → change_seen new change ≡ change_seen old change
  same_change (Insert key) named = ap key_inserted (same key named)
  same_change (Delete key) named = ap key_deleted (same key named)
  same_change (Append bytes) named = ap bytes_appended (same_bytes bytes named)

  same_access : (access : Access) → NamesAccess old access → access_seen new access ≡ access_seen old access
  same_access (Read l) named = ap reads (same_location l named)
  same_access (Set l content) named = ap (λ m. sets m (content_seen new content)) (same_location l named.0) ∙ ap (sets (location_seen old l)) (same_content content named.1)
  same_access (Update l change) named = ap (λ m. updates m (change_seen new change)) (same_location l named.0) ∙ ap (updates (location_seen old l)) (same_change change named.1)

  same_accesses : (accesses : List Access) → Each (NamesAccess old) accesses → map (access_seen new) accesses ≡ map (access_seen old) accesses
  same_accesses [] named = refl
  same_accesses (access ∷ accesses) named = ap (λ a. a ∷ map (access_seen new) accesses) (same_access access named.0) ∙ ap (λ rest. access_seen old access ∷ rest) (same_accesses accesses named.1)

  same_made : (made : Option Kind) → IsNamedKind old made → option_map (kind_seen new) made ≡ option_map (kind_seen old) made
  same_made None named = refl
  same_made (Some ListKind) named = refl
  same_made (Some Dict) named = refl
  same_made (Some (Instance of)) named = ap (λ c. Some (an_instance c)) (same of named)
  same_made (Some (FileKind path mode)) named = ap (λ b. Some (a_file b mode)) (same_bytes path named)

  same_answer : (answer : Answer) → IsNamedAnswer old answer → answer_seen new answer ≡ answer_seen old answer
  same_answer (ValueAnswer v) named = ap value (same v named)
  same_answer (Raised o) named = refl
  same_answer EndAnswer named = refl

  pub same_told : (row : Row) (told : List Moment) → NamesRow old row → told_with new row told ≡ told_with old row told
  same_told (Text text) told named = refl
  same_told (Tuple parts) told named = refl
  same_told (Begin n) told named = refl
  same_told (Do at op values answer made accesses weight) told named =
      ap (λ vs. does at op vs (answer_seen new answer) (option_map (kind_seen new) made) (map (access_seen new) accesses) weight ∷ told) (all_same values named.0)
      ∙ ap (λ a. does at op (map (contents old) values) a (option_map (kind_seen new) made) (map (access_seen new) accesses) weight ∷ told) (same_answer answer named.1.0)
      ∙ ap (λ m. does at op (map (contents old) values) (answer_seen old answer) m (map (access_seen new) accesses) weight ∷ told) (same_made made named.1.1.0)
      ∙ ap (λ these. does at op (map (contents old) values) (answer_seen old answer) (option_map (kind_seen old) made) these weight ∷ told) (same_accesses accesses named.1.1.1)
  same_told (Enter call def values accesses) told named =
      ap (λ vs. enters call def vs (map (access_seen new) accesses) ∷ told) (all_same values named.0) ∙ ap (λ these. enters call def (map (contents old) values) these ∷ told) (same_accesses accesses named.1)
  same_told (Leave v) told named = ap (λ c. leaves c ∷ told) (same v named)
  same_told (End how) told named = refl
