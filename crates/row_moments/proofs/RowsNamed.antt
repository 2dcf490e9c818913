-- The row of a moment names what has a number.
use Rattle.std.proofs.Common.{◌≡◌, ℕ, ◌<◌, List, [], ◌∷◌, ◌++◌, map, length, Option, Some, None, unwrap_or, refl}
use Rattle.std.specs.Option.{option_map}
use Rattle.std.specs.Str.{bytes_eq}
use Rattle.py_value.specs.declared.access.Location.TheVariants.{Var, Len, File, Method}
use Rattle.py_value.specs.declared.value.Value.{Value}
use Rattle.py_value.specs.declared.value.Value.TheVariants.{None as NoneValue}
use Rattle.py_value.specs.Contents.{Contents, text}
use Rattle.py_value.specs.Named.{IsNamedKind, IsNamedContent, IsNamedChange}
use Rattle.py_value.specs.Seen.{SeenLocation, SeenContent, SeenChange, SeenAccess, SeenKind, var_at, len_at, item_at, entry_at, order_at, file_at, offset_at, closed_at, method_at, base_at, var_is, len_is, item_is, entry_is, order_is, file_is, offset_is, closed_is, method_is, base_is, key_inserted, key_deleted, bytes_appended, reads, sets, updates, a_list, a_dict, an_instance, a_file, value_at, number_by, entry_of, IsNamedLocation}
use Rattle.py_value.specs.Values.{ValuesView, IsNamed, AreNamed}
use Rattle.py_model.specs.Moment.{Moment, begins, does, enters, leaves, ends}
use Rattle.py_model.specs.Plan.{Answer, value, raised, at_end}
use Rattle.py_model.specs.Told.{IsNamedAnswer}
use Rattle.row_words.specs.Fits.{Each}
use Rattle.recorder.specs.Naming.{named_in, named_in_values, named_in_option, named_in_location, named_in_content, named_in_change, named_in_access, named_in_accesses, named_in_made, named_in_answer, named_in_moment}
use Rattle.recorder.specs.MomentRows.{numbered, text_number, numbered_location, numbered_content, numbered_change, numbered_access, numbered_kind, numbered_answer, row_of}
use Rattle.row_checks.specs.NamedRows.{NamesAccess, NamesRow}
use Rattle.row_moments.proofs.Finding.{HasNumber, found_named, named_first, none_named, text_below}
use Rattle.row_moments.proofs.InOrder.{FoundAll, Orderly, found_front, found_behind, orderly_none, orderly_both, orderly_value, orderly_each}

-- ---- what is named in order

orderly_text : (bytes : List ℕ) → Orderly (text bytes ∷ [])
orderly_text bytes = orderly_value (text bytes)

orderly_option : (v : Option Contents) → Orderly (named_in_option v)
orderly_option None = orderly_none
orderly_option (Some v) = orderly_value v

orderly_location : (l : SeenLocation) → Orderly (named_in_location l)
orderly_location (var_at scope name) = orderly_text name
orderly_location (len_at o) = orderly_none
orderly_location (item_at o i) = orderly_none
orderly_location (entry_at o key) = orderly_value key
orderly_location (order_at o) = orderly_none
orderly_location (file_at path) = orderly_text path
orderly_location (offset_at o) = orderly_none
orderly_location (closed_at o) = orderly_none
orderly_location (method_at class name) = orderly_text name
orderly_location (base_at class) = orderly_none

orderly_values : (cs : List Contents) → Orderly (named_in_values cs)
orderly_values cs = orderly_each named_in orderly_value cs

orderly_content : (content : SeenContent) → Orderly (named_in_content content)
orderly_content (var_is v) = orderly_option v
orderly_content (len_is n) = orderly_none
orderly_content (item_is v) = orderly_value v
orderly_content (entry_is None) = orderly_none
orderly_content (entry_is (Some entry)) = orderly_both (named_in entry.0) (named_in entry.1) (orderly_value entry.0) (orderly_value entry.1)
orderly_content (order_is keys) = orderly_values keys
orderly_content (file_is bytes) = orderly_text bytes
orderly_content (offset_is n) = orderly_none
orderly_content (closed_is b) = orderly_none
orderly_content (method_is at) = orderly_none
orderly_content (base_is v) = orderly_option v

orderly_change : (change : SeenChange) → Orderly (named_in_change change)
orderly_change (key_inserted key) = orderly_value key
orderly_change (key_deleted key) = orderly_value key
orderly_change (bytes_appended bytes) = orderly_text bytes

orderly_access : (access : SeenAccess) → Orderly (named_in_access access)
orderly_access (reads l) = orderly_location l
orderly_access (sets l content) = orderly_both (named_in_location l) (named_in_content content) (orderly_location l) (orderly_content content)
orderly_access (updates l change) = orderly_both (named_in_location l) (named_in_change change) (orderly_location l) (orderly_change change)

orderly_accesses : (accesses : List SeenAccess) → Orderly (named_in_accesses accesses)
orderly_accesses accesses = orderly_each named_in_access orderly_access accesses

orderly_made : (made : Option SeenKind) → Orderly (named_in_made made)
orderly_made None = orderly_none
orderly_made (Some a_list) = orderly_none
orderly_made (Some a_dict) = orderly_none
orderly_made (Some (an_instance of)) = orderly_value of
orderly_made (Some (a_file path mode)) = orderly_text path

orderly_answer : (answer : Answer) → Orderly (named_in_answer answer)
orderly_answer (value v) = orderly_value v
orderly_answer (raised object) = orderly_none
orderly_answer at_end = orderly_none

pub orderly_moment : (moment : Moment) → Orderly (named_in_moment moment)
orderly_moment (begins statement) = orderly_none
orderly_moment (does at op values answer made accesses weight) =
    orderly_both (named_in_values values) (named_in_answer answer ++ (named_in_made made ++ named_in_accesses accesses)) (orderly_values values)
    (orderly_both (named_in_answer answer) (named_in_made made ++ named_in_accesses accesses) (orderly_answer answer)
    (orderly_both (named_in_made made) (named_in_accesses accesses) (orderly_made made) (orderly_accesses accesses)))
orderly_moment (enters call def values accesses) = orderly_both (named_in_values values) (named_in_accesses accesses) (orderly_values values) (orderly_accesses accesses)
orderly_moment (leaves v) = orderly_value v
orderly_moment (ends statement ending) = orderly_none

-- ---- what a row names is there

module _ (view : ValuesView) where
  value_named : (c : Contents) → IsNamed view (numbered view c)
  value_named c = by (value_at view c) refl
    where
      by : (found : Option Value) → value_at view c ≡ found → IsNamed view (unwrap_or found NoneValue)
      by None is = tt
      by (Some v) is = found_named view c v is

  values_named : (cs : List Contents) → AreNamed view (map (numbered view) cs)
  values_named [] = none_named view
  values_named (c ∷ cs) = named_first view (numbered view c) (map (numbered view) cs) (value_named c) (values_named cs)

  text_named : (bytes : List ℕ) → HasNumber view (text bytes) → text_number view bytes < length view.texts
  text_named bytes has = text_below view bytes has.0 has.1

  location_named : (l : SeenLocation) → FoundAll view (named_in_location l) → IsNamedLocation view (numbered_location view l)
  location_named (var_at scope name) found = by (number_by (bytes_eq name) view.texts) (text_named name found.0)
    where
      by : (at : Option ℕ) → unwrap_or at 0 < length view.texts → IsNamedLocation view (unwrap_or (option_map (Var scope) at) (Len 0))
      by None below = tt
      by (Some n) below = below
  location_named (len_at o) found = tt
  location_named (item_at o i) found = tt
  location_named (entry_at o key) found = by (value_at view key) refl
    where
      by : (at : Option Value) → value_at view key ≡ at → IsNamedLocation view (unwrap_or (option_map (entry_of o) at) (Len 0))
      by None is = tt
      by (Some v) is = found_named view key v is
  location_named (order_at o) found = tt
  location_named (file_at path) found = by (number_by (bytes_eq path) view.texts) (text_named path found.0)
    where
      by : (at : Option ℕ) → unwrap_or at 0 < length view.texts → IsNamedLocation view (unwrap_or (option_map File at) (Len 0))
      by None below = tt
      by (Some n) below = below
  location_named (offset_at o) found = tt
  location_named (closed_at o) found = tt
  location_named (method_at class name) found = by (number_by (bytes_eq name) view.texts) (text_named name found.0)
    where
      by : (at : Option ℕ) → unwrap_or at 0 < length view.texts → IsNamedLocation view (unwrap_or (option_map (Method class) at) (Len 0))
      by None below = tt
      by (Some n) below = below
  location_named (base_at class) found = tt

  content_named : (content : SeenContent) → FoundAll view (named_in_content content) → IsNamedContent view (numbered_content view content)
  content_named (var_is None) found = tt
  content_named (var_is (Some v)) found = value_named v
  content_named (len_is n) found = tt
  content_named (item_is v) found = value_named v
  content_named (entry_is None) found = tt
  content_named (entry_is (Some entry)) found = (value_named entry.0, value_named entry.1)
  content_named (order_is keys) found = values_named keys
  content_named (file_is bytes) found = text_named bytes found.0
  content_named (offset_is n) found = tt
  content_named (closed_is b) found = tt
  content_named (method_is at) found = tt
  content_named (base_is None) found = tt
  content_named (base_is (Some v)) found = value_named v

  change_named : (change : SeenChange) → FoundAll view (named_in_change change) → IsNamedChange view (numbered_change view change)
  change_named (key_inserted key) found = value_named key
  change_named (key_deleted key) found = value_named key
  change_named (bytes_appended bytes) found = text_named bytes found.0

  access_named : (access : SeenAccess) → FoundAll view (named_in_access access) → NamesAccess view (numbered_access view access)
  access_named (reads l) found = location_named l found
  access_named (sets l content) found =
      (location_named l (found_front view (named_in_location l) (named_in_content content) found), content_named content (found_behind view (named_in_location l) (named_in_content content) found))
  access_named (updates l change) found =
      (location_named l (found_front view (named_in_location l) (named_in_change change) found), change_named change (found_behind view (named_in_location l) (named_in_change change) found))

  accesses_named : (accesses : List SeenAccess) → FoundAll view (named_in_accesses accesses) → Each (NamesAccess view) (map (numbered_access view) accesses)
  accesses_named [] found = tt
  accesses_named (access ∷ accesses) found =
      (access_named access (found_front view (named_in_access access) (named_in_accesses accesses) found), accesses_named accesses (found_behind view (named_in_access access) (named_in_accesses accesses) found))

  made_named : (made : Option SeenKind) → FoundAll view (named_in_made made) → IsNamedKind view (option_map (numbered_kind view) made)
  made_named None found = tt
  made_named (Some a_list) found = tt
  made_named (Some a_dict) found = tt
  made_named (Some (an_instance of)) found = value_named of
  made_named (Some (a_file path mode)) found = text_named path found.0

  answer_named : (answer : Answer) → IsNamedAnswer view (numbered_answer view answer)
  answer_named (value v) = value_named v
  answer_named (raised object) = tt
  answer_named at_end = tt

  pub row_named : (moment : Moment) → FoundAll view (named_in_moment moment) → NamesRow view (row_of view moment)
  row_named (begins statement) found = tt
  row_named (does at op values answer made accesses weight) found =
      let behind_values = found_behind view (named_in_values values) (named_in_answer answer ++ (named_in_made made ++ named_in_accesses accesses)) found in
      let behind_answer = found_behind view (named_in_answer answer) (named_in_made made ++ named_in_accesses accesses) behind_values in (
        values_named values,
        (
          answer_named answer,
          (
            made_named made (found_front view (named_in_made made) (named_in_accesses accesses) behind_answer),
            accesses_named accesses (found_behind view (named_in_made made) (named_in_accesses accesses) behind_answer),
          ),
        ),
      )
  row_named (enters call def values accesses) found = (values_named values, accesses_named accesses (found_behind view (named_in_values values) (named_in_accesses accesses) found))
  row_named (leaves v) found = value_named v
  row_named (ends statement ending) found = tt
