-- What is written with numbers is read back, in a table that has grown.
use Rattle.std.proofs.Common.{◌≡◌, ℕ, List, [], ◌∷◌, map, Option, Some, None, unwrap_or, refl, sym, ap, ◌∙◌}
use Rattle.std.specs.Option.{option_map}
use Rattle.std.specs.Str.{bytes_eq}
use Rattle.py_value.specs.declared.access.Location.TheVariants.{Var, Len, File, Method}
use Rattle.py_value.specs.declared.access.Mode.{Mode}
use Rattle.py_value.specs.declared.value.Value.{Value}
use Rattle.py_value.specs.declared.value.Value.TheVariants.{None as NoneValue, Text as TextValue}
use Rattle.py_value.specs.Contents.{Contents, nothing, truth, int, text, tuple, range, function, class, exception_class, builtin, object, contents}
use Rattle.py_value.specs.Seen.{SeenLocation, SeenContent, SeenChange, SeenAccess, SeenKind, var_at, len_at, item_at, entry_at, order_at, file_at, offset_at, closed_at, method_at, base_at, var_is, len_is, item_is, entry_is, order_is, file_is, offset_is, closed_is, method_is, base_is, key_inserted, key_deleted, bytes_appended, reads, sets, updates, a_list, a_dict, an_instance, a_file, value_at, number_by, entry_of, bytes_of, location_seen, content_seen, change_seen, access_seen, kind_seen}
use Rattle.py_value.specs.Values.{ValuesView, AreInterned}
use Rattle.py_value.proofs.SeenBack.{location_is}
use Rattle.py_model.specs.Plan.{Answer, value, raised, at_end}
use Rattle.py_model.specs.Told.{answer_seen}
use Rattle.recorder.specs.Naming.{named_in, named_in_parts, named_in_values, named_in_option, named_in_location, named_in_content, named_in_change, named_in_access, named_in_accesses, named_in_made, named_in_answer}
use Rattle.recorder.specs.MomentRows.{numbered, text_number, numbered_location, numbered_content, numbered_change, numbered_access, numbered_kind, numbered_answer}
use Rattle.row_moments.proofs.Finding.{Grows, HasNumber, value_stays}
use Rattle.row_moments.proofs.InOrder.{FoundAll, found_front, found_behind}

module _ (now all : ValuesView) (grows : Grows now all) (interned : AreInterned all) where
  abbrev key_of : SeenLocation → Contents
  key_of (entry_at o key) = key
  key_of l = nothing

  value_is : (c : Contents) (v : Value) → value_at all c ≡ Some v → contents all v ≡ c
  value_is c v is = ap key_of (location_is all interned (entry_at 0 c) (entry_of 0 v) (ap (option_map (entry_of 0)) is)).1

  has_read : (c : Contents) → HasNumber now c → contents all (numbered now c) ≡ c
  has_read c has = ap (λ found. contents all (unwrap_or found NoneValue)) has.1 ∙ value_is c has.0 (value_stays now all grows c has.0 has.1)

  pub value_read : (c : Contents) → FoundAll now (named_in c) → contents all (numbered now c) ≡ c
  value_read (text bytes) found = has_read (text bytes) found.0
  value_read (tuple parts) found = has_read (tuple parts) (found_behind now (named_in_parts parts) (tuple parts ∷ []) found).0
  value_read nothing found = refl
  value_read (truth b) found = refl
  value_read (int i) found = refl
  value_read (range start end step) found = refl
  value_read (function at) found = refl
  value_read (class at) found = refl
  value_read (exception_class n) found = refl
  value_read (builtin n) found = refl
  value_read (object n) found = refl

  pub values_read : (cs : List Contents) → FoundAll now (named_in_values cs) → map (contents all) (map (numbered now) cs) ≡ cs
  values_read [] found = refl
  values_read (c ∷ cs) found =
      ap (λ v. v ∷ map (contents all) (map (numbered now) cs)) (value_read c (found_front now (named_in c) (named_in_values cs) found))
      ∙ ap (λ vs. c ∷ vs) (values_read cs (found_behind now (named_in c) (named_in_values cs) found))

  abbrev text_in : Contents → List ℕ
  text_in (text bytes) = bytes
  text_in c = []

  text_read : (bytes : List ℕ) → HasNumber now (text bytes) → bytes_of all (text_number now bytes) ≡ bytes
  text_read bytes has = by (number_by (bytes_eq bytes) now.texts) has.1 (ap text_in (has_read (text bytes) has))
    where
      by : (at : Option ℕ) → option_map TextValue at ≡ Some has.0 → text_in (contents all (unwrap_or (option_map TextValue at) NoneValue)) ≡ bytes → bytes_of all (unwrap_or at 0) ≡ bytes
      by None is read = absurd cc
      by (Some n) is read = read

  location_read : (l : SeenLocation) → FoundAll now (named_in_location l) → location_seen all (numbered_location now l) ≡ l
  location_read (var_at scope name) found = by (number_by (bytes_eq name) now.texts) found.0.1 (text_read name found.0)
    where
      by : (at : Option ℕ) → option_map TextValue at ≡ Some found.0.0 → bytes_of all (unwrap_or at 0) ≡ name → location_seen all (unwrap_or (option_map (Var scope) at) (Len 0)) ≡ var_at scope name
      by None is read = absurd cc
      by (Some n) is read = ap (var_at scope) read
  location_read (len_at o) found = refl
  location_read (item_at o i) found = refl
  location_read (entry_at o key) found = by (value_at now key) refl (value_read key found)
    where
      by : (at : Option Value) → value_at now key ≡ at → contents all (unwrap_or at NoneValue) ≡ key → location_seen all (unwrap_or (option_map (entry_of o) at) (Len 0)) ≡ entry_at o key
      by None is read = absurd (none_found key found is)
        where
          none_found : (c : Contents) → FoundAll now (named_in c) → value_at now c ≡ None → ⊥
          none_found (text bytes) found is = none_some (sym is ∙ found.0.1)
            where
              none_some : {v : Value} → None ≡ Some v → ⊥
              none_some same = cc
          none_found (tuple parts) found is = none_some (sym is ∙ (found_behind now (named_in_parts parts) (tuple parts ∷ []) found).0.1)
            where
              none_some : {v : Value} → None ≡ Some v → ⊥
              none_some same = cc
          none_found nothing found is = cc
          none_found (truth b) found is = cc
          none_found (int i) found is = cc
          none_found (range start end step) found is = cc
          none_found (function at) found is = cc
          none_found (class at) found is = cc
          none_found (exception_class n) found is = cc
          none_found (builtin n) found is = cc
          none_found (object n) found is = cc
      by (Some v) is read = ap (entry_at o) read
  location_read (order_at o) found = refl
  location_read (file_at path) found = by (number_by (bytes_eq path) now.texts) found.0.1 (text_read path found.0)
    where
      by : (at : Option ℕ) → option_map TextValue at ≡ Some found.0.0 → bytes_of all (unwrap_or at 0) ≡ path → location_seen all (unwrap_or (option_map File at) (Len 0)) ≡ file_at path
      by None is read = absurd cc
      by (Some n) is read = ap file_at read
  location_read (offset_at o) found = refl
  location_read (closed_at o) found = refl
  location_read (method_at place name) found = by (number_by (bytes_eq name) now.texts) found.0.1 (text_read name found.0)
    where
      by : (at : Option ℕ) → option_map TextValue at ≡ Some found.0.0 → bytes_of all (unwrap_or at 0) ≡ name → location_seen all (unwrap_or (option_map (Method place) at) (Len 0)) ≡ method_at place name
      by None is read = absurd cc
      by (Some n) is read = ap (method_at place) read
  location_read (base_at place) found = refl

  option_read : (v : Option Contents) → FoundAll now (named_in_option v) → option_map (contents all) (option_map (numbered now) v) ≡ v
  option_read None found = refl
  option_read (Some v) found = ap Some (value_read v found)

  pair_same : {a b c d : Contents} → a ≡ c → b ≡ d → ◌≡◌ {A = Contents × Contents} (a, b) (c, d)
  pair_same one other = cc

  content_read : (content : SeenContent) → FoundAll now (named_in_content content) → content_seen all (numbered_content now content) ≡ content
  content_read (var_is v) found = ap var_is (option_read v found)
  content_read (len_is n) found = refl
  content_read (item_is v) found = ap item_is (value_read v found)
  content_read (entry_is None) found = refl
  content_read (entry_is (Some entry)) found =
      ap (λ e. entry_is (Some e)) (pair_same (value_read entry.0 (found_front now (named_in entry.0) (named_in entry.1) found)) (value_read entry.1 (found_behind now (named_in entry.0) (named_in entry.1) found)))
  content_read (order_is keys) found = ap order_is (values_read keys found)
  content_read (file_is bytes) found = ap file_is (text_read bytes found.0)
  content_read (offset_is n) found = refl
  content_read (closed_is b) found = refl
  content_read (method_is at) found = refl
  content_read (base_is v) found = ap base_is (option_read v found)

  change_read : (change : SeenChange) → FoundAll now (named_in_change change) → change_seen all (numbered_change now change) ≡ change
  change_read (key_inserted key) found = ap key_inserted (value_read key found)
  change_read (key_deleted key) found = ap key_deleted (value_read key found)
  change_read (bytes_appended bytes) found = ap bytes_appended (text_read bytes found.0)

  set_same : {l m : SeenLocation} {c d : SeenContent} → l ≡ m → c ≡ d → sets l c ≡ sets m d
  set_same one other = cc

  update_same : {l m : SeenLocation} {c d : SeenChange} → l ≡ m → c ≡ d → updates l c ≡ updates m d
  update_same one other = cc

  access_read : (access : SeenAccess) → FoundAll now (named_in_access access) → access_seen all (numbered_access now access) ≡ access
  access_read (reads l) found = ap reads (location_read l found)
  access_read (sets l content) found =
      set_same (location_read l (found_front now (named_in_location l) (named_in_content content) found)) (content_read content (found_behind now (named_in_location l) (named_in_content content) found))
  access_read (updates l change) found =
      update_same (location_read l (found_front now (named_in_location l) (named_in_change change) found)) (change_read change (found_behind now (named_in_location l) (named_in_change change) found))

  pub accesses_read : (accesses : List SeenAccess) → FoundAll now (named_in_accesses accesses) → map (access_seen all) (map (numbered_access now) accesses) ≡ accesses
  accesses_read [] found = refl
  accesses_read (access ∷ accesses) found =
      ap (λ first. first ∷ map (access_seen all) (map (numbered_access now) accesses)) (access_read access (found_front now (named_in_access access) (named_in_accesses accesses) found))
      ∙ ap (λ rest. access ∷ rest) (accesses_read accesses (found_behind now (named_in_access access) (named_in_accesses accesses) found))

  file_same : {one other : List ℕ} (mode : Mode) → one ≡ other → a_file one mode ≡ a_file other mode
  file_same mode is = cc

  pub made_read : (made : Option SeenKind) → FoundAll now (named_in_made made) → option_map (kind_seen all) (option_map (numbered_kind now) made) ≡ made
  made_read None found = refl
  made_read (Some a_list) found = refl
  made_read (Some a_dict) found = refl
  made_read (Some (an_instance of)) found = ap (λ v. Some (an_instance v)) (value_read of found)
  made_read (Some (a_file path mode)) found = ap Some (file_same mode (text_read path found.0))

  pub answer_read : (answer : Answer) → FoundAll now (named_in_answer answer) → answer_seen all (numbered_answer now answer) ≡ answer
  answer_read (value v) found = ap value (value_read v found)
  answer_read (raised o) found = refl
  answer_read at_end found = refl
