-- The keys in rows of a kept trial: in locations they are normal, and no object stands in them.
use Rattle.std.proofs.Common.{◌≡◌, ℕ, zero, suc, inl, inr, true, List, [], ◌∷◌, Option, Some, None, is_none, refl, sym, ◌∙◌, true≢false}
use Rattle.std.specs.List.{list_all}
use Rattle.std.specs.Option.{option_or}
use Rattle.py_value.specs.declared.access.Access.{Access}
use Rattle.py_value.specs.declared.access.Access.TheVariants.{Read, Set, Update}
use Rattle.py_value.specs.declared.access.Change.TheVariants.{Insert, Delete, Append}
use Rattle.py_value.specs.declared.access.Content.{Content}
use Rattle.py_value.specs.declared.access.Content.TheVariants.{Var as VarContent, Len as LenContent, Item as ItemContent, Entry as EntryContent, Order as OrderContent, File as FileContent, Offset as OffsetContent, Closed as ClosedContent, Method as MethodContent, Base as BaseContent}
use Rattle.py_value.specs.declared.access.Location.{Location}
use Rattle.py_value.specs.declared.access.Location.TheVariants.{Var, Len, Item, Entry, Order, File, Offset, Closed, Method, Base}
use Rattle.py_value.specs.declared.key.KeyFault.{KeyFault}
use Rattle.py_value.specs.declared.value.Value.{Value}
use Rattle.py_value.specs.Contents.{Contents, Parts, nothing, truth, int, text, tuple, range, function, class, exception_class, builtin, object, no_parts, part, contents}
use Rattle.py_value.specs.KeyOf.{key_fault, parts_fault}
use Rattle.py_value.specs.Named.{IsNamedContent}
use Rattle.py_value.specs.Seen.{IsNamedLocation}
use Rattle.py_value.specs.Values.{ValuesView, AreInterned, IsNamed, AreNamed}
use Rattle.py_value.specs.KeyOf.{fault_within}
use Rattle.py_value.proofs.KeyFaults.{fault_is}
use Rattle.row_words.specs.Fits.{Each}
use Rattle.row_checks.specs.Keys.{is_key, keys_of_location, keys_of_content, keys_of_access, keys_of_accesses}
use Rattle.row_checks.proofs.KeyLaws.{key_is, splits}
use Rattle.row_checks.specs.NamedRows.{NamesAccess, NamesRow}
use Rattle.row_checks.specs.RowTests.{has_keys}
use Rattle.slice_law.specs.Reached.{StandsIn, StandsInParts}
use Rattle.slice_things.proofs.ChildLaws.{first_true}
use Rattle.slice_things.specs.Orders.{IsPlain, keys_in}
use Rattle.slice_things.specs.Things.{IsNormalLocation, IsNormalAccess, IsNormalRow}
use Rattle.trace_rows.specs.declared.row.Row.{Row}
use Rattle.trace_rows.specs.declared.row.Row.TheVariants.{Text, Tuple, Begin, Do, Enter, Leave, End}

both_none : (a b : Option KeyFault) → option_or a b ≡ None → (a ≡ None) × (b ≡ None)
both_none None b is = (refl, is)
both_none (Some fault) b is = absurd cc

none_is : (found : Option KeyFault) → is_none found ≡ true → found ≡ None
none_is None is = refl
none_is (Some fault) is = absurd (true≢false (sym is))

mutual
  plain_key : (levels p : ℕ) (c : Contents) → key_fault levels c ≡ None → StandsIn p c → ⊥
  plain_key levels p (object n) fault stands = cc
  plain_key zero p (tuple parts) fault stands = cc
  plain_key (suc levels) p (tuple parts) fault stands = plain_parts levels p parts fault stands
  plain_key levels p nothing fault stands = stands
  plain_key levels p (truth b) fault stands = stands
  plain_key levels p (int i) fault stands = stands
  plain_key levels p (text bytes) fault stands = stands
  plain_key levels p (range a b c) fault stands = stands
  plain_key levels p (function at) fault stands = stands
  plain_key levels p (class at) fault stands = stands
  plain_key levels p (exception_class n) fault stands = stands
  plain_key levels p (builtin n) fault stands = stands

  plain_parts : (levels p : ℕ) (parts : Parts) → parts_fault levels parts ≡ None → StandsInParts p parts → ⊥
  plain_parts levels p no_parts fault stands = stands
  plain_parts levels p (part first rest) fault (inl stands) = plain_key levels p first (both_none (key_fault levels first) (parts_fault levels rest) fault).0 stands
  plain_parts levels p (part first rest) fault (inr stands) = plain_parts levels p rest (both_none (key_fault levels first) (parts_fault levels rest) fault).1 stands

module _ (view : ValuesView) (interned : AreInterned view) where
  plain_value : (v : Value) → IsNamed view v → is_key view.tuples true v ≡ true → IsPlain view v
  plain_value v named is p stands =
      plain_key 100 p (contents view v) (sym (fault_is view interned 100 v named) ∙ none_is (fault_within 100 view v) (sym (key_is view interned 100 v named) ∙ is)) stands

  normal_place : (l : Location) → IsNamedLocation view l → keys_of_location (is_key view.tuples) l ≡ true → IsNormalLocation view l
  normal_place (Entry o key) named is = ((splits view interned 100 key.value named).0 is).1
  normal_place (Var scope name) named is = tt
  normal_place (Len o) named is = tt
  normal_place (Item o i) named is = tt
  normal_place (Order o) named is = tt
  normal_place (File path) named is = tt
  normal_place (Offset o) named is = tt
  normal_place (Closed o) named is = tt
  normal_place (Method at name) named is = tt
  normal_place (Base at) named is = tt

  plain_values : (keys : List Value) → AreNamed view keys → list_all (is_key view.tuples true) keys ≡ true → Each (IsPlain view) keys
  plain_values [] named is = tt
  plain_values (key ∷ keys) named is =
      let both = first_true (is_key view.tuples true key) (list_all (is_key view.tuples true) keys) is in
      (plain_value key (named 0 key refl) both.0, plain_values keys (λ i other at. named (suc i) other at) both.1)

  plain_content : (content : Content) → IsNamedContent view content → keys_of_content (is_key view.tuples) content ≡ true → Each (IsPlain view) (keys_in content)
  plain_content (OrderContent keys) named is = plain_values keys named is
  plain_content (VarContent v) named is = tt
  plain_content (LenContent n) named is = tt
  plain_content (ItemContent v) named is = tt
  plain_content (EntryContent entry) named is = tt
  plain_content (FileContent bytes) named is = tt
  plain_content (OffsetContent n) named is = tt
  plain_content (ClosedContent b) named is = tt
  plain_content (MethodContent at) named is = tt
  plain_content (BaseContent v) named is = tt

  normal_access : (access : Access) → NamesAccess view access → keys_of_access (is_key view.tuples) access ≡ true → IsNormalAccess view access
  normal_access (Read l) named is = tt
  normal_access (Set l content) named is =
      let both = first_true (keys_of_location (is_key view.tuples) l) (keys_of_content (is_key view.tuples) content) is in
      (normal_place l named.0 both.0, plain_content content named.1 both.1)
  normal_access (Update l (Insert key)) named is =
      let both = first_true (keys_of_location (is_key view.tuples) l) (is_key view.tuples true key) is in
      (normal_place l named.0 both.0, plain_value key named.1 both.1)
  normal_access (Update l (Delete key)) named is = (normal_place l named.0 (first_true (keys_of_location (is_key view.tuples) l) (is_key view.tuples true key) is).0, tt)
  normal_access (Update l (Append bytes)) named is = (normal_place l named.0 (first_true (keys_of_location (is_key view.tuples) l) true is).0, tt)

  normal_accesses : (accesses : List Access) → Each (NamesAccess view) accesses → keys_of_accesses (is_key view.tuples) accesses ≡ true → Each (IsNormalAccess view) accesses
  normal_accesses [] named is = tt
  normal_accesses (access ∷ accesses) named is =
      let both = first_true (keys_of_access (is_key view.tuples) access) (keys_of_accesses (is_key view.tuples) accesses) is in
      (normal_access access named.0 both.0, normal_accesses accesses named.1 both.1)

  pub normal_row : (row : Row) → NamesRow view row → has_keys (is_key view.tuples) row ≡ true → IsNormalRow view row
  normal_row (Do at op values answer made accesses weight) named is = normal_accesses accesses named.1.1.1 is
  normal_row (Enter call def values accesses) named is = normal_accesses accesses named.1 is
  normal_row (Text name) named is = tt
  normal_row (Tuple parts) named is = tt
  normal_row (Begin statement) named is = tt
  normal_row (Leave v) named is = tt
  normal_row (End how) named is = tt
