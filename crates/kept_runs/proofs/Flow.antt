-- What an operation answers and writes comes from its operands and from what it reads: functions and classes at known places, objects that are
-- there, and keys. An object that it makes is its answer, and stands nowhere else. What it fetches and opens has a path that a script may open.
use Rattle.std.specs.Prelude.{◌≡◌, ◌<◌, ◌⊎◌, ⊤, ℕ, Bool, true, List, [], ◌∷◌, slice_get, Option, Some, None}
use Rattle.prov_base.specs.Path.{is_path}
use Rattle.prov_base.specs.declared.place.Pos.{Pos}
use Rattle.py_value.specs.Contents.{Contents, Parts, tuple, function, class, object, no_parts, part}
use Rattle.py_value.specs.Seen.{SeenLocation, SeenContent, SeenChange, SeenAccess, SeenKind, reads, sets, updates, an_instance, entry_at, var_is, item_is, entry_is, order_is, method_is, base_is, key_inserted, key_deleted, bytes_appended}
use Rattle.py_model.specs.Plan.{Ask, Given, Found, value, Writes, write, change, move, opens, notes, done, done_at_end, Plan, read_var, read_len, read_item, read_entry, read_order, read_file, read_offset, read_closed, read_method, read_base, kind_of, name_of, was_opened, ask, fetch, looks, counts, prints, writes, makes, raises, raises_again, ends, runs_away}
use Rattle.py_model.specs.Effect.{Touch, opened, fetched, Outcome, answered}
use Rattle.py_model.specs.Store.{RunStore}
use Rattle.kept_runs.specs.Keys.{IsKey, IsForm, LocationKeys}

-- the places of functions and classes, and how many objects are there; object 0 is
pub record Known : Type 0 where
  pub at : Pos → Bool
  pub count : ℕ
  pub some : 0 < count

module _ (known : Known) where
  abbrev mutual
    pub KeptValue : Contents → Type 0
    KeptValue (tuple parts) = KeptParts parts
    KeptValue (function place) = known.at place ≡ true
    KeptValue (class place) = known.at place ≡ true
    KeptValue (object o) = o < known.count
    KeptValue other = ⊤

    pub KeptParts : Parts → Type 0
    KeptParts no_parts = ⊤
    KeptParts (part first rest) = KeptValue first × KeptParts rest

  abbrev pub KeptOption : Option Contents → Type 0
  KeptOption None = ⊤
  KeptOption (Some v) = KeptValue v

  abbrev pub KeptAll : List Contents → Type 0
  KeptAll [] = ⊤
  KeptAll (v ∷ vs) = KeptValue v × KeptAll vs

  abbrev pub KeptKey : Contents → Type 0
  KeptKey key = KeptValue key × IsKey key

  abbrev pub KeptKeys : List Contents → Type 0
  KeptKeys [] = ⊤
  KeptKeys (key ∷ keys) = KeptKey key × KeptKeys keys

  abbrev pub KeptEntry : Option (Contents × Contents) → Type 0
  KeptEntry None = ⊤
  KeptEntry (Some pair) = KeptKey pair.0 × KeptValue pair.1

  abbrev pub KeptPlace : Option Pos → Type 0
  KeptPlace None = ⊤
  KeptPlace (Some place) = known.at place ≡ true

  abbrev pub KeptKind : Option SeenKind → Type 0
  KeptKind (Some (an_instance of)) = KeptValue of
  KeptKind other = ⊤

  abbrev pub KeptContent : SeenContent → Type 0
  KeptContent (var_is v) = KeptOption v
  KeptContent (item_is v) = KeptValue v
  KeptContent (entry_is entry) = KeptEntry entry
  KeptContent (order_is keys) = KeptKeys keys
  KeptContent (method_is place) = KeptPlace (Some place)
  KeptContent (base_is base) = KeptOption base
  KeptContent other = ⊤

  abbrev pub KeptChange : SeenChange → Type 0
  KeptChange (key_inserted key) = KeptKey key
  KeptChange (key_deleted key) = KeptKey key
  KeptChange (bytes_appended bytes) = ⊤

  -- what is set at a location, and changed there
  abbrev pub KeptSet : SeenLocation → SeenContent → Type 0
  KeptSet (entry_at o form) content = IsForm form × KeptContent content
  KeptSet place content = KeptContent content

  abbrev pub KeptUpdate : SeenLocation → SeenChange → Type 0
  KeptUpdate (entry_at o form) how = IsForm form × KeptChange how
  KeptUpdate place how = KeptChange how

  -- an object that is made is the answer
  abbrev pub KeptEnd : Option ℕ → Contents → Type 0
  KeptEnd None v = KeptValue v
  KeptEnd (Some o) v = v ≡ object o

  abbrev pub WritesKept : Option ℕ → Writes → Type 0
  WritesKept made (write place content rest) = KeptSet place content × WritesKept made rest
  WritesKept made (change place how rest) = KeptUpdate place how × WritesKept made rest
  WritesKept made (move o from to rest) = WritesKept made rest
  WritesKept made (opens path rest) = (is_path path ≡ true) × WritesKept made rest
  WritesKept made (notes place name rest) = WritesKept made rest
  WritesKept made (done answer) = KeptEnd made answer
  WritesKept made done_at_end = ⊤

  -- Where all that is read is kept, so is all that is written, made, raised and answered. Entries are read under keys.
  pub data Keeps : Plan → Type 0 where
    from_var : {scope : ℕ} {name : List ℕ} {go : Option Contents → Plan} → ((v : Option Contents) → KeptOption v → Keeps (go v)) → Keeps (read_var scope name go)
    from_len : {o : ℕ} {go : ℕ → Plan} → ((n : ℕ) → Keeps (go n)) → Keeps (read_len o go)
    from_item : {o i : ℕ} {go : Option Contents → Plan} → ((v : Option Contents) → KeptOption v → Keeps (go v)) → Keeps (read_item o i go)
    from_entry : {o : ℕ} {key : Contents} {go : Option (Contents × Contents) → Plan} → IsKey key → ((entry : Option (Contents × Contents)) → KeptEntry entry → Keeps (go entry)) → Keeps (read_entry o key go)
    from_order : {o : ℕ} {go : List Contents → Plan} → ((keys : List Contents) → KeptKeys keys → Keeps (go keys)) → Keeps (read_order o go)
    from_file : {path : List ℕ} {go : Option (List ℕ) → Plan} → ((bytes : Option (List ℕ)) → Keeps (go bytes)) → Keeps (read_file path go)
    from_offset : {o : ℕ} {go : ℕ → Plan} → ((n : ℕ) → Keeps (go n)) → Keeps (read_offset o go)
    from_closed : {o : ℕ} {go : Bool → Plan} → ((b : Bool) → Keeps (go b)) → Keeps (read_closed o go)
    from_method : {place : Pos} {name : List ℕ} {go : Option Pos → Plan} → ((at : Option Pos) → KeptPlace at → Keeps (go at)) → Keeps (read_method place name go)
    from_base : {place : Pos} {go : Option Contents → Plan} → ((v : Option Contents) → KeptOption v → Keeps (go v)) → Keeps (read_base place go)
    from_kind : {o : ℕ} {go : Option SeenKind → Plan} → ((kind : Option SeenKind) → KeptKind kind → Keeps (go kind)) → Keeps (kind_of o go)
    from_name : {place : Pos} {go : Option (List ℕ) → Plan} → known.at place ≡ true → ((name : Option (List ℕ)) → Keeps (go name)) → Keeps (name_of place go)
    from_opened : {path : List ℕ} {go : Bool → Plan} → ((b : Bool) → Keeps (go b)) → Keeps (was_opened path go)
    from_ask : {what : Ask} {go : Given → Plan} → ((given : Given) → Keeps (go given)) → Keeps (ask what go)
    from_fetch : {path : List ℕ} {go : Found → Plan} → is_path path ≡ true → ((found : Found) → Keeps (go found)) → Keeps (fetch path go)
    with_look : {n : ℕ} {p : Plan} → Keeps p → Keeps (looks n p)
    with_count : {n : ℕ} {p : Plan} → Keeps p → Keeps (counts n p)
    with_print : {bytes : List ℕ} {p : Plan} → Keeps p → Keeps (prints bytes p)
    by_writes : {all : Writes} → WritesKept None all → Keeps (writes all)
    by_make : {kind : SeenKind} {all : ℕ → Writes} → KeptKind (Some kind) → ((o : ℕ) → WritesKept (Some o) (all o)) → Keeps (makes kind all)
    by_raise : {of : Contents} {items : List Contents} → KeptValue of → KeptAll items → Keeps (raises of items)
    by_again : {o : ℕ} → Keeps (raises_again o)
    by_end : Keeps ends
    by_run_away : Keeps runs_away

  -- what an effect touches and answers, where the next object has this number
  abbrev pub KeptAccess : SeenAccess → Type 0
  KeptAccess (reads l) = LocationKeys l
  KeptAccess (sets l content) = KeptSet l content
  KeptAccess (updates l how) = KeptUpdate l how

  abbrev pub KeptAccesses : List SeenAccess → Type 0
  KeptAccesses [] = ⊤
  KeptAccesses (access ∷ accesses) = KeptAccess access × KeptAccesses accesses

  abbrev pub KeptOutcome : ℕ → Outcome → Type 0
  KeptOutcome next (answered (value v)) = KeptValue v ⊎ (v ≡ object next)
  KeptOutcome next other = ⊤

  -- what stands somewhere in a store
  abbrev pub KeptFound : Option SeenContent → Type 0
  KeptFound None = ⊤
  KeptFound (Some content) = KeptContent content

  pub record KeptStore (store : RunStore) : Type 0 where
    pub at : (l : SeenLocation) → KeptFound (store.at l)
    pub kinds : (o : ℕ) → KeptKind (slice_get store.kinds o)

-- what is opened for writing and what is fetched has a path that a script may open
abbrev pub TouchesPath : Touch → Type 0
TouchesPath (opened path) = is_path path ≡ true
TouchesPath (fetched path) = is_path path ≡ true
TouchesPath other = ⊤

abbrev pub TouchPaths : List Touch → Type 0
TouchPaths [] = ⊤
TouchPaths (touch ∷ touches) = TouchesPath touch × TouchPaths touches
