-- What is kept names objects below the count, and what names them is kept, where all functions and classes are known.
use Rattle.std.proofs.Common.{◌≡◌, inl, inr, ◌<◌, ℕ, zero, suc, true, List, [], ◌∷◌, slice_get, Option, Some, None, refl, subst, sym}
use Rattle.std.specs.Option.{option_or}
use Rattle.py_value.specs.declared.key.KeyFault.{KeyFault}
use Rattle.py_value.specs.Contents.{Contents, Parts, nothing, truth, int, text, tuple, range, function, class, exception_class, builtin, object, no_parts, part}
use Rattle.py_value.specs.KeyOf.{key_fault, parts_fault}
use Rattle.py_value.specs.Seen.{SeenLocation, SeenContent, SeenChange, SeenAccess, SeenKind, a_list, a_dict, an_instance, a_file, var_at, len_at, item_at, entry_at, order_at, file_at, offset_at, closed_at, method_at, base_at, var_is, len_is, item_is, entry_is, order_is, file_is, offset_is, closed_is, method_is, base_is, key_inserted, key_deleted, bytes_appended, reads, sets, updates}
use Rattle.py_model.specs.Effect.{answered}
use Rattle.py_model.specs.Plan.{Answer, value, raised, at_end}
use Rattle.py_model.specs.Store.{RunStore}
use Rattle.kept_runs.specs.Below.{ValueBelow, PartsBelow, OptionBelow, AllBelow, EntryBelow, KindBelow, ContentBelow, ChangeBelow, AnswerBefore, LocationBefore, AccessBefore, AccessesBefore}
use Rattle.kept_runs.specs.Keys.{AreKeys, LocationKeys, ContentKeys, ChangeKeys, AccessKeys, AccessesKeys}
use Rattle.kept_runs.proofs.Effects.{StoreBelow, FoundBelow}
use Rattle.kept_runs.proofs.Flow.{Known, KeptValue, KeptParts, KeptOption, KeptAll, KeptKeys, KeptEntry, KeptKind, KeptContent, KeptChange, KeptSet, KeptUpdate, KeptAccess, KeptAccesses, KeptOutcome, KeptFound, KeptStore}

-- a key has no objects
no_fault : {A : Type 0} (fault : A) → Some fault ≡ None → ⊥
no_fault fault is = cc

first_none : (one other : Option KeyFault) → option_or one other ≡ None → one ≡ None
first_none None other is = refl
first_none (Some fault) other is = absurd (no_fault fault is)

rest_none : (one other : Option KeyFault) → option_or one other ≡ None → other ≡ None
rest_none None other is = is
rest_none (Some fault) other is = absurd (no_fault fault is)

module _ (objects : ℕ) (some : 0 < objects) where
  abbrev pub all_known : Known
  all_known = record { at = λ place. true; count = objects; some = some }

  mutual
    pub value_kept : (v : Contents) → ValueBelow objects v → KeptValue all_known v
    value_kept (object o) small = small
    value_kept (tuple parts) small = parts_kept parts small
    value_kept (function place) small = refl
    value_kept (class place) small = refl
    value_kept nothing small = tt
    value_kept (truth b) small = tt
    value_kept (int i) small = tt
    value_kept (text bytes) small = tt
    value_kept (range start end step) small = tt
    value_kept (exception_class number) small = tt
    value_kept (builtin number) small = tt

    parts_kept : (ps : Parts) → PartsBelow objects ps → KeptParts all_known ps
    parts_kept no_parts small = tt
    parts_kept (part first rest) small = (value_kept first small.0, parts_kept rest small.1)

  pub all_kept : (vs : List Contents) → AllBelow objects vs → KeptAll all_known vs
  all_kept [] small = tt
  all_kept (v ∷ vs) small = (value_kept v small.0, all_kept vs small.1)

  mutual
    pub kept_value : (v : Contents) → KeptValue all_known v → ValueBelow objects v
    kept_value (object o) kept = kept
    kept_value (tuple parts) kept = kept_parts parts kept
    kept_value (function place) kept = tt
    kept_value (class place) kept = tt
    kept_value nothing kept = tt
    kept_value (truth b) kept = tt
    kept_value (int i) kept = tt
    kept_value (text bytes) kept = tt
    kept_value (range start end step) kept = tt
    kept_value (exception_class number) kept = tt
    kept_value (builtin number) kept = tt

    kept_parts : (ps : Parts) → KeptParts all_known ps → PartsBelow objects ps
    kept_parts no_parts kept = tt
    kept_parts (part first rest) kept = (kept_value first kept.0, kept_parts rest kept.1)

  mutual
    key_below : (levels : ℕ) (v : Contents) → key_fault levels v ≡ None → ValueBelow objects v
    key_below levels (object o) none = absurd (no_fault _ none)
    key_below zero (tuple parts) none = absurd (no_fault _ none)
    key_below (suc levels) (tuple parts) none = key_parts_below levels parts none
    key_below levels (function place) none = tt
    key_below levels (class place) none = tt
    key_below levels nothing none = tt
    key_below levels (truth b) none = tt
    key_below levels (int i) none = tt
    key_below levels (text bytes) none = tt
    key_below levels (range start end step) none = tt
    key_below levels (exception_class number) none = tt
    key_below levels (builtin number) none = tt

    key_parts_below : (levels : ℕ) (ps : Parts) → parts_fault levels ps ≡ None → PartsBelow objects ps
    key_parts_below levels no_parts none = tt
    key_parts_below levels (part first rest) none =
        (key_below levels first (first_none (key_fault levels first) (parts_fault levels rest) none), key_parts_below levels rest (rest_none (key_fault levels first) (parts_fault levels rest) none))

  kept_option : (v : Option Contents) → KeptOption all_known v → OptionBelow objects v
  kept_option None kept = tt
  kept_option (Some v) kept = kept_value v kept

  kept_keys : (keys : List Contents) → KeptKeys all_known keys → AllBelow objects keys
  kept_keys [] kept = tt
  kept_keys (key ∷ keys) kept = (kept_value key kept.0.0, kept_keys keys kept.1)

  are_keys : (keys : List Contents) → KeptKeys all_known keys → AreKeys keys
  are_keys [] kept = tt
  are_keys (key ∷ keys) kept = (kept.0.1, are_keys keys kept.1)

  kept_entry : (entry : Option (Contents × Contents)) → KeptEntry all_known entry → EntryBelow objects entry
  kept_entry None kept = tt
  kept_entry (Some pair) kept = (kept_value pair.0 kept.0.0, kept_value pair.1 kept.1)

  pub kept_kind : (kind : Option SeenKind) → KeptKind all_known kind → KindBelow objects kind
  kept_kind None kept = tt
  kept_kind (Some a_list) kept = tt
  kept_kind (Some a_dict) kept = tt
  kept_kind (Some (an_instance of)) kept = kept_value of kept
  kept_kind (Some (a_file path mode)) kept = tt

  kept_content : (c : SeenContent) → KeptContent all_known c → ContentBelow objects c × ContentKeys c
  kept_content (var_is v) kept = (kept_option v kept, tt)
  kept_content (item_is v) kept = (kept_value v kept, tt)
  kept_content (entry_is None) kept = (tt, tt)
  kept_content (entry_is (Some pair)) kept = (kept_entry (Some pair) kept, kept.0.1)
  kept_content (order_is keys) kept = (kept_keys keys kept, are_keys keys kept)
  kept_content (base_is base) kept = (kept_option base kept, tt)
  kept_content (len_is n) kept = (tt, tt)
  kept_content (file_is bytes) kept = (tt, tt)
  kept_content (offset_is n) kept = (tt, tt)
  kept_content (closed_is b) kept = (tt, tt)
  kept_content (method_is place) kept = (tt, tt)

  kept_change : (c : SeenChange) → KeptChange all_known c → ChangeBelow objects c × ChangeKeys c
  kept_change (key_inserted key) kept = (kept_value key kept.0, kept.1)
  kept_change (key_deleted key) kept = (kept_value key kept.0, kept.1)
  kept_change (bytes_appended bytes) kept = (tt, tt)

  form_below : (l : SeenLocation) → LocationKeys l → LocationBefore objects l
  form_below (entry_at o key) form = key_below 100 key form.0
  form_below (var_at scope name) form = tt
  form_below (len_at o) form = tt
  form_below (item_at o i) form = tt
  form_below (order_at o) form = tt
  form_below (file_at path) form = tt
  form_below (offset_at o) form = tt
  form_below (closed_at o) form = tt
  form_below (method_at place name) form = tt
  form_below (base_at place) form = tt

  set_parts : (l : SeenLocation) (c : SeenContent) → KeptSet all_known l c → LocationKeys l × KeptContent all_known c
  set_parts (entry_at o key) c kept = kept
  set_parts (var_at scope name) c kept = (tt, kept)
  set_parts (len_at o) c kept = (tt, kept)
  set_parts (item_at o i) c kept = (tt, kept)
  set_parts (order_at o) c kept = (tt, kept)
  set_parts (file_at path) c kept = (tt, kept)
  set_parts (offset_at o) c kept = (tt, kept)
  set_parts (closed_at o) c kept = (tt, kept)
  set_parts (method_at place name) c kept = (tt, kept)
  set_parts (base_at place) c kept = (tt, kept)

  update_parts : (l : SeenLocation) (how : SeenChange) → KeptUpdate all_known l how → LocationKeys l × KeptChange all_known how
  update_parts (entry_at o key) how kept = kept
  update_parts (var_at scope name) how kept = (tt, kept)
  update_parts (len_at o) how kept = (tt, kept)
  update_parts (item_at o i) how kept = (tt, kept)
  update_parts (order_at o) how kept = (tt, kept)
  update_parts (file_at path) how kept = (tt, kept)
  update_parts (offset_at o) how kept = (tt, kept)
  update_parts (closed_at o) how kept = (tt, kept)
  update_parts (method_at place name) how kept = (tt, kept)
  update_parts (base_at place) how kept = (tt, kept)

  kept_access : (access : SeenAccess) → KeptAccess all_known access → AccessBefore objects access × AccessKeys access
  kept_access (reads l) kept = (form_below l kept, kept)
  kept_access (sets l c) kept = by_parts (set_parts l c kept)
    where
      by_parts : LocationKeys l × KeptContent all_known c → AccessBefore objects (sets l c) × AccessKeys (sets l c)
      by_parts both = let content : ContentBelow objects c × ContentKeys c = kept_content c both.1 in ((form_below l both.0, content.0), (both.0, content.1))
  kept_access (updates l how) kept = by_parts (update_parts l how kept)
    where
      by_parts : LocationKeys l × KeptChange all_known how → AccessBefore objects (updates l how) × AccessKeys (updates l how)
      by_parts both = let change : ChangeBelow objects how × ChangeKeys how = kept_change how both.1 in ((form_below l both.0, change.0), (both.0, change.1))

  pub kept_accesses : (accesses : List SeenAccess) → KeptAccesses all_known accesses → AccessesBefore objects accesses × AccessesKeys accesses
  kept_accesses [] kept = (tt, tt)
  kept_accesses (access ∷ accesses) kept =
      let first : AccessBefore objects access × AccessKeys access = kept_access access kept.0 in
      let rest : AccessesBefore objects accesses × AccessesKeys accesses = kept_accesses accesses kept.1 in
      ((first.0, rest.0), (first.1, rest.1))

  kept_before : (v : Contents) → ValueBelow objects v → AnswerBefore objects (value v)
  kept_before (object o) small = tt
  kept_before (tuple parts) small = small
  kept_before (function place) small = tt
  kept_before (class place) small = tt
  kept_before nothing small = tt
  kept_before (truth b) small = tt
  kept_before (int i) small = tt
  kept_before (text bytes) small = tt
  kept_before (range start end step) small = tt
  kept_before (exception_class number) small = tt
  kept_before (builtin number) small = tt

  pub kept_answer : (next : ℕ) (answer : Answer) → KeptOutcome all_known next (answered answer) → AnswerBefore objects answer
  kept_answer next (value v) (inl kept) = kept_before v (kept_value v kept)
  kept_answer next (value v) (inr is) = subst (λ w. AnswerBefore objects (value w)) (sym is) tt
  kept_answer next (raised o) kept = tt
  kept_answer next at_end kept = tt

  pub kept_store : (store : RunStore) → KeptStore all_known store → StoreBelow objects store
  kept_store store kept = record { at = λ l. found (store.at l) (kept.at l); kinds = λ o. kept_kind (slice_get store.kinds o) (kept.kinds o) }
    where
      found : (content : Option SeenContent) → KeptFound all_known content → FoundBelow objects content
      found None so = tt
      found (Some c) so = (kept_content c so).0
