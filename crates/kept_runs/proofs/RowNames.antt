-- What a row names is below the counts, where its moment names what is below them and its texts and tuples have numbers.
use Rattle.std.proofs.Common.{◌≡◌, ◌<◌, ℕ, zero, suc, Bool, true, ◌&&◌, nat_lt, List, [], ◌∷◌, ◌++◌, map, length, Option, Some, None, unwrap_or, refl, ap, ap₂, subst, ◌∙◌}
use Rattle.std.specs.Option.{option_map, option_and_then}
use Rattle.std.specs.Prelude.{⊤}
use Rattle.std.specs.Str.{bytes_eq}
use Rattle.std.proofs.lemmas.Bool.{lt-ltb}
use Rattle.std.proofs.lemmas.Option.{same_Some}
use Rattle.py_value.specs.declared.access.Location.TheVariants.{Var, Len, File, Method}
use Rattle.py_value.specs.declared.value.Value.{Value}
use Rattle.py_value.specs.declared.value.Value.TheVariants.{None as NoneValue, Bool as TruthValue, Int as IntValue, Text as TextValue, Tuple as TupleValue, Range as RangeValue, Fn as FnValue, Class as ClassValue, Exc as ExcValue, Builtin as BuiltinValue, Object as ObjectValue}
use Rattle.py_value.specs.Contents.{Contents, Parts, nothing, truth, int, text, tuple, range, function, class, exception_class, builtin, object, no_parts, part}
use Rattle.py_value.specs.Seen.{SeenLocation, SeenContent, SeenChange, SeenAccess, SeenKind, var_at, len_at, item_at, entry_at, order_at, file_at, offset_at, closed_at, method_at, base_at, var_is, len_is, item_is, entry_is, order_is, file_is, offset_is, closed_is, method_is, base_is, key_inserted, key_deleted, bytes_appended, reads, sets, updates, a_list, a_dict, an_instance, a_file, value_at, values_at, number_by, entry_of}
use Rattle.py_value.specs.Values.{ValuesView, IsNamed}
use Rattle.py_model.specs.Moment.{Moment, begins, does, enters, leaves, ends}
use Rattle.py_model.specs.Plan.{Answer, value, raised, at_end}
use Rattle.recorder.specs.MomentRows.{numbered, text_number, numbered_location, numbered_content, numbered_change, numbered_access, numbered_kind, numbered_answer, row_of}
use Rattle.recorder.specs.Naming.{named_in_values, named_in_location, named_in_content, named_in_change, named_in_access, named_in_accesses, named_in_made, named_in_answer, named_in_moment}
use Rattle.row_checks.specs.declared.counts.Counts.{Counts}
use Rattle.row_checks.specs.Numbers.{names_value, names_values, names_location, names_content, names_change, names_access, names_accesses, names_made}
use Rattle.row_checks.specs.RowTests.{names_answer, names_row}
use Rattle.row_moments.proofs.Finding.{HasNumber, found_named, text_below}
use Rattle.row_moments.proofs.InOrder.{FoundAll, found_front, found_behind}
use Rattle.kept_runs.specs.Below.{ScopeBelow, ValueBelow, PartsBelow, AllBelow, KindBelow, ContentBelow, ChangeBelow, AnswerBelow, LocationBelow, AccessBelow, AccessesBelow, MomentBelow, StatementBelow}

pub both_true : {a b : Bool} → a ≡ true → b ≡ true → (a && b) ≡ true
both_true one other = ap₂ (λ a b. a && b) one other

-- the counts are those of the view, and so many objects and activations
pub record AreCounts (counts : Counts) (view : ValuesView) (statements objects scopes : ℕ) : Type 0 where
  pub texts_is : counts.texts ≡ length view.texts
  pub tuples_is : counts.tuples ≡ length view.tuples
  pub statements_is : counts.statements ≡ statements
  pub objects_is : counts.objects ≡ objects
  pub scopes_is : counts.scopes ≡ scopes

module _ (counts : Counts) (view : ValuesView) (statements objects scopes : ℕ) (are : AreCounts counts view statements objects scopes) (some : 0 < objects) (any : 0 < scopes) where
  object_names : (o : ℕ) → o < objects → nat_lt o counts.objects ≡ true
  object_names o small = ap (nat_lt o) are.objects_is ∙ lt-ltb o objects small

  scope_names : (scope : ℕ) → ScopeBelow scopes scope → nat_lt scope counts.scopes ≡ true
  scope_names zero small = ap (nat_lt 0) are.scopes_is ∙ lt-ltb 0 scopes any
  scope_names (suc scope) small = ap (nat_lt (suc scope)) are.scopes_is ∙ lt-ltb (suc scope) scopes small

  text_names : (n : ℕ) → n < length view.texts → nat_lt n counts.texts ≡ true
  text_names n small = ap (nat_lt n) are.texts_is ∙ lt-ltb n (length view.texts) small

  tuple_names : (n : ℕ) → n < length view.tuples → nat_lt n counts.tuples ≡ true
  tuple_names n small = ap (nat_lt n) are.tuples_is ∙ lt-ltb n (length view.tuples) small

  -- an object that stands in a value is below the count
  abbrev ObjectIn : Value → Type 0
  ObjectIn (ObjectValue o) = o < objects
  ObjectIn other = ⊤

  text_in : (found : Option ℕ) (v : Value) → option_map TextValue found ≡ Some v → ObjectIn v
  text_in None v is = absurd (cc)
  text_in (Some n) v is = subst ObjectIn (same_Some (TextValue n) v is) tt

  tuple_in : (found : Option ℕ) (v : Value) → option_map TupleValue found ≡ Some v → ObjectIn v
  tuple_in None v is = absurd (cc)
  tuple_in (Some n) v is = subst ObjectIn (same_Some (TupleValue n) v is) tt

  items_in : (place : List Value → Option ℕ) (items : Option (List Value)) (v : Value) → option_and_then (λ vs. option_map TupleValue (place vs)) items ≡ Some v → ObjectIn v
  items_in place None v is = absurd (cc)
  items_in place (Some vs) v is = tuple_in (place vs) v is

  object_in : (c : Contents) (v : Value) → ValueBelow objects c → value_at view c ≡ Some v → ObjectIn v
  object_in (object o) v small is = subst ObjectIn (same_Some (ObjectValue o) v is) small
  object_in (text bytes) v small is = text_in (number_by (bytes_eq bytes) view.texts) v is
  object_in (tuple parts) v small is = items_in _ (values_at view parts) v is
  object_in nothing v small is = subst ObjectIn (same_Some _ v is) tt
  object_in (truth b) v small is = subst ObjectIn (same_Some _ v is) tt
  object_in (int i) v small is = subst ObjectIn (same_Some _ v is) tt
  object_in (range start end step) v small is = subst ObjectIn (same_Some _ v is) tt
  object_in (function at) v small is = subst ObjectIn (same_Some _ v is) tt
  object_in (class at) v small is = subst ObjectIn (same_Some _ v is) tt
  object_in (exception_class n) v small is = subst ObjectIn (same_Some _ v is) tt
  object_in (builtin n) v small is = subst ObjectIn (same_Some _ v is) tt

  named_names : (v : Value) → IsNamed view v → ObjectIn v → names_value counts v ≡ true
  named_names (TextValue n) is small = text_names n is
  named_names (TupleValue n) is small = tuple_names n is
  named_names (ObjectValue o) is small = object_names o small
  named_names NoneValue is small = refl
  named_names (TruthValue b) is small = refl
  named_names (IntValue i) is small = refl
  named_names (RangeValue start end step) is small = refl
  named_names (FnValue at) is small = refl
  named_names (ClassValue at) is small = refl
  named_names (ExcValue n) is small = refl
  named_names (BuiltinValue n) is small = refl

  found_names : (c : Contents) (v : Value) → ValueBelow objects c → value_at view c ≡ Some v → names_value counts v ≡ true
  found_names c v small is = named_names v (found_named view c v is) (object_in c v small is)

  value_names : (c : Contents) → ValueBelow objects c → names_value counts (numbered view c) ≡ true
  value_names c small = by (value_at view c) refl
    where
      by : (at : Option Value) → value_at view c ≡ at → names_value counts (unwrap_or at NoneValue) ≡ true
      by None is = refl
      by (Some v) is = found_names c v small is

  values_names : (cs : List Contents) → AllBelow objects cs → names_values counts (map (numbered view) cs) ≡ true
  values_names [] small = refl
  values_names (c ∷ cs) small = both_true (value_names c small.0) (values_names cs small.1)

  -- the items of a tuple
  by_part : (first : Option Value) (rest : Option (List Value)) → ((v : Value) → first ≡ Some v → names_value counts v ≡ true) → ((vs : List Value) → rest ≡ Some vs → names_values counts vs ≡ true)
      → (all : List Value) → option_and_then (λ (x : Value). option_map (λ (xs : List Value). x ∷ xs) rest) first ≡ Some all → names_values counts all ≡ true
  by_part None rest one others all is = absurd (cc)
  by_part (Some v) None one others all is = absurd (cc)
  by_part (Some v) (Some vs) one others all is = subst (λ all. names_values counts all ≡ true) (same_Some (v ∷ vs) all is) (both_true (one v refl) (others vs refl))

  parts_names : (ps : Parts) (vs : List Value) → PartsBelow objects ps → values_at view ps ≡ Some vs → names_values counts vs ≡ true
  parts_names no_parts vs small is = subst (λ all. names_values counts all ≡ true) (same_Some [] vs is) refl
  parts_names (part first rest) vs small is =
      by_part (value_at view first) (values_at view rest) (λ v at. found_names first v small.0 at) (λ all at. parts_names rest all small.1 at) vs is

  pub items_names : (ps : Parts) → PartsBelow objects ps → names_values counts (unwrap_or (values_at view ps) []) ≡ true
  items_names ps small = by (values_at view ps) refl
    where
      by : (at : Option (List Value)) → values_at view ps ≡ at → names_values counts (unwrap_or at []) ≡ true
      by None is = refl
      by (Some vs) is = parts_names ps vs small is

  -- what stands in a row
  text_number_names : (bytes : List ℕ) → HasNumber view (text bytes) → nat_lt (text_number view bytes) counts.texts ≡ true
  text_number_names bytes has = text_names (text_number view bytes) (text_below view bytes has.0 has.1)

  location_names : (l : SeenLocation) → LocationBelow objects scopes l → FoundAll view (named_in_location l) → names_location counts (numbered_location view l) ≡ true
  location_names (var_at scope name) small found = by (number_by (bytes_eq name) view.texts) (text_number_names name found.0)
    where
      by : (at : Option ℕ) → nat_lt (unwrap_or at 0) counts.texts ≡ true → names_location counts (unwrap_or (option_map (Var scope) at) (Len 0)) ≡ true
      by None below = object_names 0 some
      by (Some n) below = both_true (scope_names scope small) below
  location_names (len_at o) small found = object_names o small
  location_names (item_at o i) small found = object_names o small
  location_names (entry_at o key) small found = by (value_at view key) refl
    where
      by : (at : Option Value) → value_at view key ≡ at → names_location counts (unwrap_or (option_map (entry_of o) at) (Len 0)) ≡ true
      by None is = object_names 0 some
      by (Some v) is = both_true (object_names o small.0) (found_names key v small.1 is)
  location_names (order_at o) small found = object_names o small
  location_names (file_at path) small found = by (number_by (bytes_eq path) view.texts) (text_number_names path found.0)
    where
      by : (at : Option ℕ) → nat_lt (unwrap_or at 0) counts.texts ≡ true → names_location counts (unwrap_or (option_map File at) (Len 0)) ≡ true
      by None below = object_names 0 some
      by (Some n) below = below
  location_names (offset_at o) small found = object_names o small
  location_names (closed_at o) small found = object_names o small
  location_names (method_at place name) small found = by (number_by (bytes_eq name) view.texts) (text_number_names name found.0)
    where
      by : (at : Option ℕ) → nat_lt (unwrap_or at 0) counts.texts ≡ true → names_location counts (unwrap_or (option_map (Method place) at) (Len 0)) ≡ true
      by None below = object_names 0 some
      by (Some n) below = below
  location_names (base_at place) small found = refl

  content_names : (c : SeenContent) → ContentBelow objects c → FoundAll view (named_in_content c) → names_content counts (numbered_content view c) ≡ true
  content_names (var_is None) small found = refl
  content_names (var_is (Some v)) small found = value_names v small
  content_names (len_is n) small found = refl
  content_names (item_is v) small found = value_names v small
  content_names (entry_is None) small found = refl
  content_names (entry_is (Some entry)) small found = both_true (value_names entry.0 small.0) (value_names entry.1 small.1)
  content_names (order_is keys) small found = values_names keys small
  content_names (file_is bytes) small found = text_number_names bytes found.0
  content_names (offset_is n) small found = refl
  content_names (closed_is b) small found = refl
  content_names (method_is at) small found = refl
  content_names (base_is None) small found = refl
  content_names (base_is (Some v)) small found = value_names v small

  change_names : (c : SeenChange) → ChangeBelow objects c → FoundAll view (named_in_change c) → names_change counts (numbered_change view c) ≡ true
  change_names (key_inserted key) small found = value_names key small
  change_names (key_deleted key) small found = value_names key small
  change_names (bytes_appended bytes) small found = text_number_names bytes found.0

  access_names : (access : SeenAccess) → AccessBelow objects scopes access → FoundAll view (named_in_access access) → names_access counts (numbered_access view access) ≡ true
  access_names (reads l) small found = location_names l small found
  access_names (sets l content) small found = both_true
      (location_names l small.0 (found_front view (named_in_location l) (named_in_content content) found))
      (content_names content small.1 (found_behind view (named_in_location l) (named_in_content content) found))
  access_names (updates l change) small found = both_true
      (location_names l small.0 (found_front view (named_in_location l) (named_in_change change) found))
      (change_names change small.1 (found_behind view (named_in_location l) (named_in_change change) found))

  accesses_names : (accesses : List SeenAccess) → AccessesBelow objects scopes accesses → FoundAll view (named_in_accesses accesses) → names_accesses counts (map (numbered_access view) accesses) ≡ true
  accesses_names [] small found = refl
  accesses_names (access ∷ accesses) small found = both_true
      (access_names access small.0 (found_front view (named_in_access access) (named_in_accesses accesses) found))
      (accesses_names accesses small.1 (found_behind view (named_in_access access) (named_in_accesses accesses) found))

  made_names : (made : Option SeenKind) → KindBelow objects made → FoundAll view (named_in_made made) → names_made counts (option_map (numbered_kind view) made) ≡ true
  made_names None small found = refl
  made_names (Some a_list) small found = refl
  made_names (Some a_dict) small found = refl
  made_names (Some (an_instance of)) small found = value_names of small
  made_names (Some (a_file path mode)) small found = text_number_names path found.0

  answer_names : (answer : Answer) → AnswerBelow objects answer → names_answer counts (numbered_answer view answer) ≡ true
  answer_names (value v) small = value_names v small
  answer_names (raised o) small = object_names o small
  answer_names at_end small = refl

  pub row_names : (moment : Moment) → StatementBelow statements moment → MomentBelow objects scopes moment → FoundAll view (named_in_moment moment) → names_row counts (row_of view moment) ≡ true
  row_names (begins statement) one small found = ap (nat_lt statement) are.statements_is ∙ lt-ltb statement statements one
  row_names (does at op values answer made accesses weight) one small found =
      let behind_values = found_behind view (named_in_values values) (named_in_answer answer ++ (named_in_made made ++ named_in_accesses accesses)) found in
      let behind_answer = found_behind view (named_in_answer answer) (named_in_made made ++ named_in_accesses accesses) behind_values in
      both_true (values_names values small.0)
      (both_true (answer_names answer small.1.0)
      (both_true (made_names made small.1.1.0 (found_front view (named_in_made made) (named_in_accesses accesses) behind_answer))
      (accesses_names accesses small.1.1.1 (found_behind view (named_in_made made) (named_in_accesses accesses) behind_answer))))
  row_names (enters call def values accesses) one small found =
      both_true (values_names values small.0) (accesses_names accesses small.1 (found_behind view (named_in_values values) (named_in_accesses accesses) found))
  row_names (leaves v) one small found = value_names v small
  row_names (ends statement ending) one small found = refl
