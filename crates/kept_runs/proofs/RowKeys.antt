-- The keys in a row are keys, where those in its moment are and its texts and tuples have numbers.
use Rattle.std.proofs.Common.{◌≡◌, ℕ, zero, suc, Bool, true, false, if◌then◌else◌, List, [], ◌∷◌, map, slice_get, Option, Some, None, unwrap_or, refl, sym, ap, subst, ◌∙◌}
use Rattle.std.specs.Cmp.Lexicographic.{pointwise}
use Rattle.std.specs.List.{list_all}
use Rattle.std.specs.Option.{option_map, option_and_then, option_or}
use Rattle.std.specs.Prelude.{⊤}
use Rattle.std.specs.Str.{bytes_eq}
use Rattle.std.proofs.lemmas.Option.{same_Some}
use Rattle.py_value.proofs.Equality.{values_decide}
use Rattle.py_value.specs.contracts.value.ValuePartialEq.TheImpl.{ghosts}
use Rattle.py_value.specs.declared.access.Location.TheVariants.{Var, Len, File, Method}
use Rattle.py_value.specs.declared.key.KeyFault.{KeyFault}
use Rattle.py_value.specs.declared.value.Value.{Value}
use Rattle.py_value.specs.declared.value.Value.TheVariants.{None as NoneValue, Text as TextValue, Tuple as TupleValue}
use Rattle.py_value.specs.Contents.{Contents, Parts, nothing, truth, int, text, tuple, range, function, class, exception_class, builtin, object, no_parts, part}
use Rattle.py_value.specs.KeyOf.{key_fault, parts_fault, normal, normal_parts}
use Rattle.py_value.specs.Seen.{SeenLocation, SeenContent, SeenChange, SeenAccess, var_at, len_at, item_at, entry_at, order_at, file_at, offset_at, closed_at, method_at, base_at, var_is, len_is, item_is, entry_is, order_is, file_is, offset_is, closed_is, method_is, base_is, key_inserted, key_deleted, bytes_appended, reads, sets, updates, value_at, values_at, number_by, entry_of}
use Rattle.py_value.specs.Values.{ValuesView}
use Rattle.py_model.specs.Moment.{Moment, begins, does, enters, leaves, ends}
use Rattle.recorder.specs.MomentRows.{numbered, numbered_location, numbered_content, numbered_change, numbered_access, row_of}
use Rattle.row_checks.specs.Keys.{parts_pass, is_key_within, is_key, keys_of_location, keys_of_content, keys_of_change, keys_of_access, keys_of_accesses}
use Rattle.row_checks.specs.RowTests.{has_keys}
use Rattle.kept_runs.specs.Keys.{IsKey, AreKeys, LocationKeys, ContentKeys, ChangeKeys, AccessKeys, AccessesKeys, MomentKeys}
use Rattle.kept_runs.proofs.RowNames.{both_true}

-- the first that passes stands at its number, and passes
record IsFirst {A : Type 0} (test : A → Bool) (xs : List A) (k : ℕ) : Type 0 where
  one : A
  at : slice_get xs k ≡ Some one
  passes : test one ≡ true

number_at : {A : Type 0} (test : A → Bool) (xs : List A) (k : ℕ) → number_by test xs ≡ Some k → IsFirst test xs k
number_at test [] k is = absurd (cc)
number_at {A} test (x ∷ xs) k is = by (test x) refl (number_by test xs) (λ m rest. number_at test xs m rest) is
  where
    by : (b : Bool) → test x ≡ b → (rest : Option ℕ) → ((m : ℕ) → rest ≡ Some m → IsFirst test xs m) → (if b then Some 0 else option_map suc rest) ≡ Some k → IsFirst test (x ∷ xs) k
    by true passes rest later is = subst (IsFirst test (x ∷ xs)) (same_Some 0 k is) (record { one = x; at = refl; passes = passes })
    by false passes None later is = absurd (cc)
    by false passes (Some m) later is =
        let found : IsFirst test xs m = later m refl in subst (IsFirst test (x ∷ xs)) (same_Some (suc m) k is) (record { one = found.one; at = found.at; passes = found.passes })

no_fault : {A : Type 0} (fault : A) → Some fault ≡ None → ⊥
no_fault fault is = cc

first_none : (one other : Option KeyFault) → option_or one other ≡ None → one ≡ None
first_none None other is = refl
first_none (Some fault) other is = absurd (no_fault fault is)

rest_none : (one other : Option KeyFault) → option_or one other ≡ None → other ≡ None
rest_none None other is = is
rest_none (Some fault) other is = absurd (no_fault fault is)

-- truth values are allowed, or the key is its normal form
abbrev IsAllowed : Bool → Contents → Type 0
IsAllowed true c = ⊤
IsAllowed false c = normal c ≡ c

abbrev AreAllowed : Bool → Parts → Type 0
AreAllowed true ps = ⊤
AreAllowed false ps = normal_parts ps ≡ ps

abbrev parts_in : Contents → Parts
parts_in (tuple parts) = parts
parts_in other = no_parts

abbrev first_of : Parts → Contents
first_of (part first rest) = first
first_of no_parts = nothing

abbrev rest_of : Parts → Parts
rest_of (part first rest) = rest
rest_of no_parts = no_parts

inner_allowed : (truths : Bool) (ps : Parts) → IsAllowed truths (tuple ps) → AreAllowed truths ps
inner_allowed true ps so = tt
inner_allowed false ps so = ap parts_in so

first_allowed : (truths : Bool) (first : Contents) (rest : Parts) → AreAllowed truths (part first rest) → IsAllowed truths first
first_allowed true first rest so = tt
first_allowed false first rest so = ap first_of so

rest_allowed : (truths : Bool) (first : Contents) (rest : Parts) → AreAllowed truths (part first rest) → AreAllowed truths rest
rest_allowed true first rest so = tt
rest_allowed false first rest so = ap rest_of so

abbrev is_truth : Contents → Bool
is_truth (truth b) = true
is_truth other = false

truth_allowed : (truths b : Bool) → IsAllowed truths (truth b) → truths ≡ true
truth_allowed true b so = refl
truth_allowed false true so = ap is_truth so
truth_allowed false false so = ap is_truth so

module _ (view : ValuesView) where
  abbrev Passes : Bool → ℕ → Value → Type 0
  Passes truths levels v = is_key_within truths levels view.tuples v ≡ true

  abbrev AllPass : Bool → ℕ → List Value → Type 0
  AllPass truths levels vs = list_all (is_key_within truths levels view.tuples) vs ≡ true

  by_text : (truths : Bool) (levels : ℕ) (found : Option ℕ) (v : Value) → option_map TextValue found ≡ Some v → Passes truths levels v
  by_text truths levels None v is = absurd (cc)
  by_text truths levels (Some n) v is = subst (Passes truths levels) (same_Some (TextValue n) v is) refl

  by_number : (truths : Bool) (levels : ℕ) (items : List Value) → AllPass truths levels items → (found : Option ℕ) → number_by (pointwise ghosts.eq items) view.tuples ≡ found
      → (v : Value) → option_map TupleValue found ≡ Some v → Passes truths (suc levels) v
  by_number truths levels items all None at v is = absurd (cc)
  by_number truths levels items all (Some n) at v is =
      let first : IsFirst (pointwise ghosts.eq items) view.tuples n = number_at (pointwise ghosts.eq items) view.tuples n at in
      let same : items ≡ first.one = (values_decide items first.one).0 first.passes in
      subst (Passes truths (suc levels)) (same_Some (TupleValue n) v is)
      (ap (parts_pass (is_key_within truths levels view.tuples)) first.at ∙ (ap (list_all (is_key_within truths levels view.tuples)) (sym same) ∙ all))

  by_items : (truths : Bool) (levels : ℕ) (found : Option (List Value)) → ((vs : List Value) → found ≡ Some vs → AllPass truths levels vs) → (v : Value)
      → option_and_then (λ vs. option_map TupleValue (number_by (pointwise ghosts.eq vs) view.tuples)) found ≡ Some v → Passes truths (suc levels) v
  by_items truths levels None all v is = absurd (cc)
  by_items truths levels (Some vs) all v is = by_number truths levels vs (all vs refl) (number_by (pointwise ghosts.eq vs) view.tuples) refl v is

  by_part : (truths : Bool) (levels : ℕ) (first : Option Value) (rest : Option (List Value)) → ((v : Value) → first ≡ Some v → Passes truths levels v)
      → ((vs : List Value) → rest ≡ Some vs → AllPass truths levels vs) → (all : List Value)
      → option_and_then (λ (x : Value). option_map (λ (xs : List Value). x ∷ xs) rest) first ≡ Some all → AllPass truths levels all
  by_part truths levels None rest one others all is = absurd (cc)
  by_part truths levels (Some v) None one others all is = absurd (cc)
  by_part truths levels (Some v) (Some vs) one others all is = subst (AllPass truths levels) (same_Some (v ∷ vs) all is) (both_true (one v refl) (others vs refl))

  mutual
    found_key : (truths : Bool) (levels : ℕ) (c : Contents) (v : Value) → key_fault levels c ≡ None → IsAllowed truths c → value_at view c ≡ Some v → Passes truths levels v
    found_key truths levels nothing v key so is = subst (Passes truths levels) (same_Some _ v is) refl
    found_key truths levels (truth b) v key so is = subst (Passes truths levels) (same_Some _ v is) (truth_allowed truths b so)
    found_key truths levels (int i) v key so is = subst (Passes truths levels) (same_Some _ v is) refl
    found_key truths levels (text bytes) v key so is = by_text truths levels (number_by (bytes_eq bytes) view.texts) v is
    found_key truths zero (tuple parts) v key so is = absurd (no_fault _ key)
    found_key truths (suc levels) (tuple parts) v key so is =
        by_items truths levels (values_at view parts) (λ vs at. found_keys truths levels parts vs key (inner_allowed truths parts so) at) v is
    found_key truths levels (range start end step) v key so is = absurd (no_fault _ key)
    found_key truths levels (function at) v key so is = absurd (no_fault _ key)
    found_key truths levels (class at) v key so is = absurd (no_fault _ key)
    found_key truths levels (exception_class n) v key so is = absurd (no_fault _ key)
    found_key truths levels (builtin n) v key so is = absurd (no_fault _ key)
    found_key truths levels (object n) v key so is = absurd (no_fault _ key)

    found_keys : (truths : Bool) (levels : ℕ) (ps : Parts) (vs : List Value) → parts_fault levels ps ≡ None → AreAllowed truths ps → values_at view ps ≡ Some vs → AllPass truths levels vs
    found_keys truths levels no_parts vs key so is = subst (AllPass truths levels) (same_Some [] vs is) refl
    found_keys truths levels (part first rest) vs key so is =
        by_part truths levels (value_at view first) (values_at view rest)
        (λ v at. found_key truths levels first v (first_none (key_fault levels first) (parts_fault levels rest) key) (first_allowed truths first rest so) at)
        (λ all at. found_keys truths levels rest all (rest_none (key_fault levels first) (parts_fault levels rest) key) (rest_allowed truths first rest so) at) vs is

  -- a key stands in a row as a key; what has no number stands as None, which is one
  key_passes : (truths : Bool) (key : Contents) → IsKey key → IsAllowed truths key → is_key view.tuples truths (numbered view key) ≡ true
  key_passes truths key is so = by (value_at view key) refl
    where
      by : (at : Option Value) → value_at view key ≡ at → is_key view.tuples truths (unwrap_or at NoneValue) ≡ true
      by None none = refl
      by (Some v) found = found_key truths 100 key v is so found

  keys_pass : (keys : List Contents) → AreKeys keys → list_all (is_key view.tuples true) (map (numbered view) keys) ≡ true
  keys_pass [] all = refl
  keys_pass (key ∷ keys) all = both_true (key_passes true key all.0 tt) (keys_pass keys all.1)

  location_passes : (l : SeenLocation) → LocationKeys l → keys_of_location (is_key view.tuples) (numbered_location view l) ≡ true
  location_passes (entry_at o key) form = by (value_at view key) refl
    where
      by : (at : Option Value) → value_at view key ≡ at → keys_of_location (is_key view.tuples) (unwrap_or (option_map (entry_of o) at) (Len 0)) ≡ true
      by None none = refl
      by (Some v) found = found_key false 100 key v form.0 form.1 found
  location_passes (var_at scope name) form = by (number_by (bytes_eq name) view.texts)
    where
      by : (at : Option ℕ) → keys_of_location (is_key view.tuples) (unwrap_or (option_map (Var scope) at) (Len 0)) ≡ true
      by None = refl
      by (Some n) = refl
  location_passes (file_at path) form = by (number_by (bytes_eq path) view.texts)
    where
      by : (at : Option ℕ) → keys_of_location (is_key view.tuples) (unwrap_or (option_map File at) (Len 0)) ≡ true
      by None = refl
      by (Some n) = refl
  location_passes (method_at place name) form = by (number_by (bytes_eq name) view.texts)
    where
      by : (at : Option ℕ) → keys_of_location (is_key view.tuples) (unwrap_or (option_map (Method place) at) (Len 0)) ≡ true
      by None = refl
      by (Some n) = refl
  location_passes (len_at o) form = refl
  location_passes (item_at o i) form = refl
  location_passes (order_at o) form = refl
  location_passes (offset_at o) form = refl
  location_passes (closed_at o) form = refl
  location_passes (base_at place) form = refl

  content_passes : (c : SeenContent) → ContentKeys c → keys_of_content (is_key view.tuples) (numbered_content view c) ≡ true
  content_passes (entry_is None) keys = refl
  content_passes (entry_is (Some pair)) keys = key_passes true pair.0 keys tt
  content_passes (order_is all) keys = keys_pass all keys
  content_passes (var_is v) keys = refl
  content_passes (len_is n) keys = refl
  content_passes (item_is v) keys = refl
  content_passes (file_is bytes) keys = refl
  content_passes (offset_is n) keys = refl
  content_passes (closed_is b) keys = refl
  content_passes (method_is at) keys = refl
  content_passes (base_is v) keys = refl

  change_passes : (c : SeenChange) → ChangeKeys c → keys_of_change (is_key view.tuples) (numbered_change view c) ≡ true
  change_passes (key_inserted key) keys = key_passes true key keys tt
  change_passes (key_deleted key) keys = key_passes true key keys tt
  change_passes (bytes_appended bytes) keys = refl

  access_passes : (access : SeenAccess) → AccessKeys access → keys_of_access (is_key view.tuples) (numbered_access view access) ≡ true
  access_passes (reads l) keys = location_passes l keys
  access_passes (sets l c) keys = both_true (location_passes l keys.0) (content_passes c keys.1)
  access_passes (updates l how) keys = both_true (location_passes l keys.0) (change_passes how keys.1)

  accesses_pass : (accesses : List SeenAccess) → AccessesKeys accesses → keys_of_accesses (is_key view.tuples) (map (numbered_access view) accesses) ≡ true
  accesses_pass [] keys = refl
  accesses_pass (access ∷ accesses) keys = both_true (access_passes access keys.0) (accesses_pass accesses keys.1)

  pub row_keys : (moment : Moment) → MomentKeys moment → has_keys (is_key view.tuples) (row_of view moment) ≡ true
  row_keys (begins statement) keys = refl
  row_keys (does at op values answer made accesses weight) keys = accesses_pass accesses keys
  row_keys (enters call def values accesses) keys = accesses_pass accesses keys
  row_keys (leaves v) keys = refl
  row_keys (ends statement ending) keys = refl
