-- A renaming that moves all numbers from a count on: what it leaves as it is names numbers below the count alone.
use Rattle.std.proofs.Common.{◌≡◌, ◌<◌, ℕ, zero, suc, Bool, true, false, if◌then◌else◌, List, [], ◌∷◌, nat_lt, Option, Some, None, refl, ap, ap₂, arith, ltb-true, ltb-false}
use Rattle.py_value.specs.Contents.{Contents, Parts, nothing, truth, int, text, tuple, range, function, class, exception_class, builtin, object, no_parts, part}
use Rattle.py_value.specs.KeyOf.{normal, normal_parts}
use Rattle.py_value.specs.Seen.{SeenLocation, SeenContent, SeenChange, SeenKind, a_list, a_dict, an_instance, a_file, var_at, len_at, item_at, entry_at, order_at, file_at, offset_at, closed_at, method_at, base_at, var_is, len_is, item_is, entry_is, order_is, file_is, offset_is, closed_is, method_is, base_is, key_inserted, key_deleted, bytes_appended}
use Rattle.std.specs.Option.{option_map}
use Rattle.py_model.specs.Effect.{parts_of}
use Rattle.py_model.specs.Renaming.{Renaming, renamed, renamed_parts, renamed_option, renamed_list, renamed_entry, renamed_location, renamed_content, renamed_change, renamed_kind}
use Rattle.kept_runs.specs.Below.{ScopeBelow, ValueBelow, PartsBelow, OptionBelow, AllBelow, EntryBelow, KindBelow, ContentBelow, ChangeBelow, LocationBelow}

abbrev pub moved : ℕ → ℕ → ℕ
moved count n = if nat_lt n count then n else suc n

pub stays : (count n : ℕ) → n < count → moved count n ≡ n
stays count n small = by_test (nat_lt n count) refl
  where
    by_test : (test : Bool) → nat_lt n count ≡ test → (if test then n else suc n) ≡ n
    by_test true is = refl
    by_test false is = absurd (omega (arith, small, ltb-false n count is))

pub below : (count n : ℕ) → moved count n ≡ n → n < count
below count n same = by_test (nat_lt n count) refl same
  where
    by_test : (test : Bool) → nat_lt n count ≡ test → (if test then n else suc n) ≡ n → n < count
    by_test true is same = ltb-true n count is
    by_test false is same = absurd (omega (arith, same))

pub moved_apart : (count m n : ℕ) → moved count m ≡ moved count n → m ≡ n
moved_apart count m n same = by_tests (nat_lt m count) refl (nat_lt n count) refl same
  where
    by_tests : (a : Bool) → nat_lt m count ≡ a → (b : Bool) → nat_lt n count ≡ b → (if a then m else suc m) ≡ (if b then n else suc n) → m ≡ n
    by_tests true one true other same = same
    by_tests true one false other same = absurd (omega (arith, same, ltb-true m count one, ltb-false n count other))
    by_tests false one true other same = absurd (omega (arith, same, ltb-false m count one, ltb-true n count other))
    by_tests false one false other same = omega (arith, same)

-- there are object 0 and activation 0
abbrev pub moving : (objects scopes : ℕ) → 0 < objects → 0 < scopes → Renaming
moving objects scopes some any = record {
  objects = moved objects;
  scopes = moved scopes;
  one_object = moved_apart objects;
  one_scope = moved_apart scopes;
  module_stays = stays scopes 0 any;
  arguments_stay = stays objects 0 some;
}

module _ (objects scopes : ℕ) (some : 0 < objects) (any : 0 < scopes) where
  abbrev pub r : Renaming
  r = moving objects scopes some any

  abbrev object_of : Contents → ℕ
  object_of (object o) = o
  object_of other = 0

  abbrev parts_in : Contents → Parts
  parts_in (tuple parts) = parts
  parts_in other = no_parts

  abbrev first_of : Parts → Contents
  first_of (part first rest) = first
  first_of no_parts = nothing

  abbrev rest_of : Parts → Parts
  rest_of (part first rest) = rest
  rest_of no_parts = no_parts

  pub scope_below : (scope : ℕ) → moved scopes scope ≡ scope → ScopeBelow scopes scope
  scope_below zero same = tt
  scope_below (suc scope) same = below scopes (suc scope) same

  mutual
    pub value_below : (v : Contents) → renamed r v ≡ v → ValueBelow objects v
    value_below (object o) same = below objects o (ap object_of same)
    value_below (tuple parts) same = parts_below parts (ap parts_in same)
    value_below nothing same = tt
    value_below (truth b) same = tt
    value_below (int i) same = tt
    value_below (text bytes) same = tt
    value_below (range start end step) same = tt
    value_below (function place) same = tt
    value_below (class place) same = tt
    value_below (exception_class number) same = tt
    value_below (builtin number) same = tt

    pub parts_below : (ps : Parts) → renamed_parts r ps ≡ ps → PartsBelow objects ps
    parts_below no_parts same = tt
    parts_below (part first rest) same = (value_below first (ap first_of same), parts_below rest (ap rest_of same))

  mutual
    pub value_stays : (v : Contents) → ValueBelow objects v → renamed r v ≡ v
    value_stays (object o) small = ap object (stays objects o small)
    value_stays (tuple parts) small = ap tuple (parts_stay parts small)
    value_stays nothing small = refl
    value_stays (truth b) small = refl
    value_stays (int i) small = refl
    value_stays (text bytes) small = refl
    value_stays (range start end step) small = refl
    value_stays (function place) small = refl
    value_stays (class place) small = refl
    value_stays (exception_class number) small = refl
    value_stays (builtin number) small = refl

    parts_stay : (ps : Parts) → PartsBelow objects ps → renamed_parts r ps ≡ ps
    parts_stay no_parts small = refl
    parts_stay (part first rest) small = ap₂ part (value_stays first small.0) (parts_stay rest small.1)

  pub option_stays : (v : Option Contents) → OptionBelow objects v → renamed_option r v ≡ v
  option_stays None small = refl
  option_stays (Some v) small = ap (λ w. Some w) (value_stays v small)

  pub list_stays : (vs : List Contents) → AllBelow objects vs → renamed_list r vs ≡ vs
  list_stays [] small = refl
  list_stays (v ∷ vs) small = ap₂ (λ w (ws : List Contents). w ∷ ws) (value_stays v small.0) (list_stays vs small.1)

  pub entry_stays : (entry : Option (Contents × Contents)) → EntryBelow objects entry → renamed_entry r entry ≡ entry
  entry_stays None small = refl
  entry_stays (Some pair) small = ap₂ (λ v w. Some (v, w)) (value_stays pair.0 small.0) (value_stays pair.1 small.1)

  pub kind_stays : (kind : Option SeenKind) → KindBelow objects kind → option_map (renamed_kind r) kind ≡ kind
  kind_stays None small = refl
  kind_stays (Some a_list) small = refl
  kind_stays (Some a_dict) small = refl
  kind_stays (Some (an_instance of)) small = ap (λ v. Some (an_instance v)) (value_stays of small)
  kind_stays (Some (a_file path mode)) small = refl

  pub all_below : (vs : List Contents) → renamed_list r vs ≡ vs → AllBelow objects vs
  all_below [] same = tt
  all_below (v ∷ vs) same = (value_below v cc, all_below vs cc)

  pub option_below : (v : Option Contents) → renamed_option r v ≡ v → OptionBelow objects v
  option_below None same = tt
  option_below (Some v) same = value_below v cc

  abbrev key_in : Option (Contents × Contents) → Contents
  key_in (Some pair) = pair.0
  key_in None = nothing

  abbrev item_in : Option (Contents × Contents) → Contents
  item_in (Some pair) = pair.1
  item_in None = nothing

  pub entry_below : (entry : Option (Contents × Contents)) → renamed_entry r entry ≡ entry → EntryBelow objects entry
  entry_below None same = tt
  entry_below (Some pair) same = (value_below pair.0 (ap key_in same), value_below pair.1 (ap item_in same))

  pub kind_below : (kind : SeenKind) → renamed_kind r kind ≡ kind → KindBelow objects (Some kind)
  kind_below a_list same = tt
  kind_below a_dict same = tt
  kind_below (an_instance of) same = value_below of cc
  kind_below (a_file path mode) same = tt

  pub content_below : (c : SeenContent) → renamed_content r c ≡ c → ContentBelow objects c
  content_below (var_is v) same = option_below v cc
  content_below (item_is v) same = value_below v cc
  content_below (entry_is entry) same = entry_below entry cc
  content_below (order_is keys) same = all_below keys cc
  content_below (base_is base) same = option_below base cc
  content_below (len_is n) same = tt
  content_below (file_is bytes) same = tt
  content_below (offset_is n) same = tt
  content_below (closed_is b) same = tt
  content_below (method_is place) same = tt

  pub change_below : (c : SeenChange) → renamed_change r c ≡ c → ChangeBelow objects c
  change_below (key_inserted key) same = value_below key cc
  change_below (key_deleted key) same = value_below key cc
  change_below (bytes_appended bytes) same = tt

  pub location_below : (l : SeenLocation) → renamed_location r l ≡ l → LocationBelow objects scopes l
  location_below (var_at scope name) same = scope_below scope cc
  location_below (len_at o) same = below objects o cc
  location_below (item_at o i) same = below objects o cc
  location_below (entry_at o key) same = (below objects o cc, value_below key cc)
  location_below (order_at o) same = below objects o cc
  location_below (file_at path) same = tt
  location_below (offset_at o) same = below objects o cc
  location_below (closed_at o) same = below objects o cc
  location_below (method_at place name) same = tt
  location_below (base_at place) same = tt

-- the normal form of a key names what the key names, and a tuple what its items name
module _ (objects : ℕ) where
  mutual
    pub normal_below : (v : Contents) → ValueBelow objects v → ValueBelow objects (normal v)
    normal_below (truth true) small = tt
    normal_below (truth false) small = tt
    normal_below (tuple parts) small = normal_parts_below parts small
    normal_below nothing small = tt
    normal_below (int i) small = tt
    normal_below (text bytes) small = tt
    normal_below (range start end step) small = tt
    normal_below (function place) small = tt
    normal_below (class place) small = tt
    normal_below (exception_class number) small = tt
    normal_below (builtin number) small = tt
    normal_below (object o) small = small

    normal_parts_below : (ps : Parts) → PartsBelow objects ps → PartsBelow objects (normal_parts ps)
    normal_parts_below no_parts small = tt
    normal_parts_below (part first rest) small = (normal_below first small.0, normal_parts_below rest small.1)

  pub tuple_below : (items : List Contents) → AllBelow objects items → PartsBelow objects (parts_of items)
  tuple_below [] small = tt
  tuple_below (item ∷ items) small = (small.0, tuple_below items small.1)
