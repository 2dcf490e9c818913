-- Where the functions and classes come from that an operation answers and writes: from its operands and from what it reads (this project's
-- profile). A value is known where each function and class of the script in it stands at a place of a set.
use Rattle.std.specs.Prelude.{◌≡◌, ⊤, ℕ, Bool, true, List, [], ◌∷◌, slice_get, Option, Some, None}
use Rattle.prov_base.specs.declared.place.Pos.{Pos}
use Rattle.py_value.specs.Contents.{Contents, Parts, tuple, function, class, no_parts, part}
use Rattle.py_value.specs.Seen.{SeenLocation, SeenContent, SeenChange, SeenKind, an_instance, var_is, item_is, entry_is, order_is, method_is, base_is, key_inserted, key_deleted, bytes_appended}
use Rattle.py_model.specs.Plan.{Ask, Given, Found, Answer, value, Writes, write, change, move, opens, notes, done, done_at_end, Plan, read_var, read_len, read_item, read_entry, read_order, read_file, read_offset, read_closed, read_method, read_base, kind_of, name_of, was_opened, ask, fetch, looks, counts, prints, writes, makes, raises, raises_again, ends, runs_away}
use Rattle.py_model.specs.Effect.{Outcome, answered}
use Rattle.py_model.specs.Store.{RunStore}

module _ (known : Pos → Bool) where
  abbrev mutual
    pub KnownValue : Contents → Type 0
    KnownValue (tuple parts) = KnownParts parts
    KnownValue (function place) = known place ≡ true
    KnownValue (class place) = known place ≡ true
    KnownValue other = ⊤

    pub KnownParts : Parts → Type 0
    KnownParts no_parts = ⊤
    KnownParts (part first rest) = KnownValue first × KnownParts rest

  abbrev pub KnownOption : Option Contents → Type 0
  KnownOption None = ⊤
  KnownOption (Some v) = KnownValue v

  abbrev pub KnownAll : List Contents → Type 0
  KnownAll [] = ⊤
  KnownAll (v ∷ vs) = KnownValue v × KnownAll vs

  abbrev pub KnownEntry : Option (Contents × Contents) → Type 0
  KnownEntry None = ⊤
  KnownEntry (Some pair) = KnownValue pair.0 × KnownValue pair.1

  abbrev pub KnownPlace : Option Pos → Type 0
  KnownPlace None = ⊤
  KnownPlace (Some place) = known place ≡ true

  abbrev pub KnownKind : Option SeenKind → Type 0
  KnownKind (Some (an_instance of)) = KnownValue of
  KnownKind other = ⊤

  abbrev pub KnownContent : SeenContent → Type 0
  KnownContent (var_is v) = KnownOption v
  KnownContent (item_is v) = KnownValue v
  KnownContent (entry_is entry) = KnownEntry entry
  KnownContent (order_is keys) = KnownAll keys
  KnownContent (method_is place) = KnownPlace (Some place)
  KnownContent (base_is base) = KnownOption base
  KnownContent other = ⊤

  abbrev pub KnownChange : SeenChange → Type 0
  KnownChange (key_inserted key) = KnownValue key
  KnownChange (key_deleted key) = KnownValue key
  KnownChange (bytes_appended bytes) = ⊤

  -- writes of known contents, and a known answer
  abbrev pub WritesKnown : Writes → Type 0
  WritesKnown (write place content rest) = KnownContent content × WritesKnown rest
  WritesKnown (change place how rest) = KnownChange how × WritesKnown rest
  WritesKnown (move o from to rest) = WritesKnown rest
  WritesKnown (opens path rest) = WritesKnown rest
  WritesKnown (notes place name rest) = WritesKnown rest
  WritesKnown (done answer) = KnownValue answer
  WritesKnown done_at_end = ⊤

  -- Where all that is read is known, so is all that is written, made, raised and answered, and each place whose name is asked for.
  pub data KeepsKnown : Plan → Type 0 where
    from_var : {scope : ℕ} {name : List ℕ} {go : Option Contents → Plan} → ((v : Option Contents) → KnownOption v → KeepsKnown (go v)) → KeepsKnown (read_var scope name go)
    from_len : {o : ℕ} {go : ℕ → Plan} → ((n : ℕ) → KeepsKnown (go n)) → KeepsKnown (read_len o go)
    from_item : {o i : ℕ} {go : Option Contents → Plan} → ((v : Option Contents) → KnownOption v → KeepsKnown (go v)) → KeepsKnown (read_item o i go)
    from_entry : {o : ℕ} {key : Contents} {go : Option (Contents × Contents) → Plan} → ((entry : Option (Contents × Contents)) → KnownEntry entry → KeepsKnown (go entry)) → KeepsKnown (read_entry o key go)
    from_order : {o : ℕ} {go : List Contents → Plan} → ((keys : List Contents) → KnownAll keys → KeepsKnown (go keys)) → KeepsKnown (read_order o go)
    from_file : {path : List ℕ} {go : Option (List ℕ) → Plan} → ((bytes : Option (List ℕ)) → KeepsKnown (go bytes)) → KeepsKnown (read_file path go)
    from_offset : {o : ℕ} {go : ℕ → Plan} → ((n : ℕ) → KeepsKnown (go n)) → KeepsKnown (read_offset o go)
    from_closed : {o : ℕ} {go : Bool → Plan} → ((b : Bool) → KeepsKnown (go b)) → KeepsKnown (read_closed o go)
    from_method : {place : Pos} {name : List ℕ} {go : Option Pos → Plan} → ((at : Option Pos) → KnownPlace at → KeepsKnown (go at)) → KeepsKnown (read_method place name go)
    from_base : {place : Pos} {go : Option Contents → Plan} → ((v : Option Contents) → KnownOption v → KeepsKnown (go v)) → KeepsKnown (read_base place go)
    from_kind : {o : ℕ} {go : Option SeenKind → Plan} → ((kind : Option SeenKind) → KnownKind kind → KeepsKnown (go kind)) → KeepsKnown (kind_of o go)
    from_name : {place : Pos} {go : Option (List ℕ) → Plan} → known place ≡ true → ((name : Option (List ℕ)) → KeepsKnown (go name)) → KeepsKnown (name_of place go)
    from_opened : {path : List ℕ} {go : Bool → Plan} → ((b : Bool) → KeepsKnown (go b)) → KeepsKnown (was_opened path go)
    from_ask : {what : Ask} {go : Given → Plan} → ((given : Given) → KeepsKnown (go given)) → KeepsKnown (ask what go)
    from_fetch : {path : List ℕ} {go : Found → Plan} → ((found : Found) → KeepsKnown (go found)) → KeepsKnown (fetch path go)
    with_look : {n : ℕ} {p : Plan} → KeepsKnown p → KeepsKnown (looks n p)
    with_count : {n : ℕ} {p : Plan} → KeepsKnown p → KeepsKnown (counts n p)
    with_print : {bytes : List ℕ} {p : Plan} → KeepsKnown p → KeepsKnown (prints bytes p)
    by_writes : {all : Writes} → WritesKnown all → KeepsKnown (writes all)
    by_make : {kind : SeenKind} {all : ℕ → Writes} → KnownKind (Some kind) → ((o : ℕ) → WritesKnown (all o)) → KeepsKnown (makes kind all)
    by_raise : {of : Contents} {items : List Contents} → KnownValue of → KnownAll items → KeepsKnown (raises of items)
    by_again : {o : ℕ} → KeepsKnown (raises_again o)
    by_end : KeepsKnown ends
    by_run_away : KeepsKnown runs_away

  -- what stands somewhere in a store, and what is answered
  abbrev pub KnownFound : Option SeenContent → Type 0
  KnownFound None = ⊤
  KnownFound (Some content) = KnownContent content

  pub record KnownStore (store : RunStore) : Type 0 where
    pub at : (l : SeenLocation) → KnownFound (store.at l)
    pub kinds : (o : ℕ) → KnownKind (slice_get store.kinds o)

  abbrev pub KnownAnswer : Answer → Type 0
  KnownAnswer (value v) = KnownValue v
  KnownAnswer other = ⊤

  abbrev pub KnownOutcome : Outcome → Type 0
  KnownOutcome (answered answer) = KnownAnswer answer
  KnownOutcome other = ⊤
