-- What effects leave of a store in which all functions and classes are known.
use Rattle.std.proofs.Common.{ℕ, zero, suc, Bool, true, false, if◌then◌else◌, List, [], ◌∷◌, ◌++◌, slice_get, length, Option, Some, None}
use Rattle.std.specs.Prelude.{⊤, unwrap_or}
use Rattle.prov_base.specs.declared.place.Pos.{Pos}
use Rattle.py_value.specs.Changes.{has_key, with_key, without_key, changed}
use Rattle.py_value.specs.Contents.{Contents, nothing, tuple, no_parts}
use Rattle.py_value.specs.KeyOf.{normal}
use Rattle.py_value.specs.Same.{same_value, same_location, put}
use Rattle.py_value.specs.Seen.{SeenLocation, SeenContent, SeenChange, SeenKind, var_at, item_at, entry_at, order_at, method_at, base_at, var_is, item_is, entry_is, order_is, method_is, base_is, file_is, key_inserted, key_deleted, bytes_appended, reads, sets, updates}
use Rattle.py_model.specs.Effect.{Touch, accessed, looked, counted, printed, opened, noted, asked, fetched, Effect, Answers, effect, written, touching, lacking, after, after_touches, with_made}
use Rattle.py_model.specs.Plan.{Given, Found, Writes, write, change, move, opens, notes, done, done_at_end, Plan}
use Rattle.py_model.specs.Store.{RunStore, empty, var_of, item_of, entry_of, order_of, method_of, base_of, len_of, file_of, offset_of, closed_of, has_path}
use Rattle.model_laws.proofs.Walking.{joined_known, tuple_known}
use Rattle.model_laws.specs.Flow.{KnownValue, KnownOption, KnownAll, KnownEntry, KnownPlace, KnownKind, KnownContent, KnownChange, WritesKnown, KeepsKnown, from_var, from_len, from_item, from_entry, from_order, from_file, from_offset, from_closed, from_method, from_base, from_kind, from_name, from_opened, from_ask, from_fetch, with_look, with_count, with_print, by_writes, by_make, by_raise, by_again, by_end, by_run_away, KnownFound, KnownStore, KnownOutcome}

module _ (known : Pos → Bool) where
  abbrev KnownTouches : List Touch → Type 0
  KnownTouches [] = ⊤
  KnownTouches (accessed (sets l content) ∷ touches) = KnownContent known content × KnownTouches touches
  KnownTouches (accessed (updates l how) ∷ touches) = KnownChange known how × KnownTouches touches
  KnownTouches (touch ∷ touches) = KnownTouches touches

  -- maps
  pub put_known : (l : SeenLocation) (content : SeenContent) (map : SeenLocation → Option SeenContent) → KnownContent known content → ((m : SeenLocation) → KnownFound known (map m))
      → (m : SeenLocation) → KnownFound known (put l content map m)
  put_known l content map is all m = by_test (same_location l m)
    where
      by_test : (test : Bool) → KnownFound known (if test then Some content else map m)
      by_test true = is
      by_test false = all m

  with_key_known : (key : Contents) (keys : List Contents) → KnownValue known key → KnownAll known keys → KnownAll known (with_key key keys)
  with_key_known key keys is all = by_test (has_key key keys)
    where
      by_test : (test : Bool) → KnownAll known (if test then keys else keys ++ key ∷ [])
      by_test true = all
      by_test false = joined_known known keys (key ∷ []) all (is, tt)

  without_key_known : (key : Contents) (keys : List Contents) → KnownAll known keys → KnownAll known (without_key key keys)
  without_key_known key [] all = tt
  without_key_known key (first ∷ keys) all = by_test (same_value (normal key) (normal first)) (without_key_known key keys all.1)
    where
      by_test : (test : Bool) → KnownAll known (without_key key keys) → KnownAll known (if test then keys else first ∷ without_key key keys)
      by_test true rest = all.1
      by_test false rest = (all.0, rest)

  changed_known : (how : SeenChange) (content : Option SeenContent) → KnownChange known how → KnownFound known content → KnownContent known (changed how content)
  changed_known (key_inserted key) (Some (order_is keys)) is all = with_key_known key keys is all
  changed_known (key_inserted key) other is all = (is, tt)
  changed_known (key_deleted key) (Some (order_is keys)) is all = without_key_known key keys all
  changed_known (key_deleted key) other is all = tt
  changed_known (bytes_appended more) (Some (file_is bytes)) is all = tt
  changed_known (bytes_appended more) other is all = tt

  -- stores
  touches_known : (touches : List Touch) (store : RunStore) → KnownTouches touches → KnownStore known store → KnownStore known (after_touches touches store)
  touches_known [] store all is = is
  touches_known (accessed (reads l) ∷ touches) store all is = touches_known touches _ all (record { at = is.at; kinds = is.kinds })
  touches_known (accessed (sets l content) ∷ touches) store all is =
      touches_known touches _ all.1 (record { at = put_known l content store.at all.0 is.at; kinds = is.kinds })
  touches_known (accessed (updates l how) ∷ touches) store all is =
      touches_known touches _ all.1 (record { at = put_known l (changed how (store.at l)) store.at (changed_known how (store.at l) all.0 (is.at l)) is.at; kinds = is.kinds })
  touches_known (looked n ∷ touches) store all is = touches_known touches store all is
  touches_known (counted n ∷ touches) store all is = touches_known touches store all is
  touches_known (printed bytes ∷ touches) store all is = touches_known touches _ all (record { at = is.at; kinds = is.kinds })
  touches_known (opened path ∷ touches) store all is = touches_known touches _ all (record { at = is.at; kinds = is.kinds })
  touches_known (noted place name ∷ touches) store all is = touches_known touches _ all (record { at = is.at; kinds = is.kinds })
  touches_known (asked what ∷ touches) store all is = touches_known touches store all is
  touches_known (fetched path ∷ touches) store all is = touches_known touches store all is

  longer_known : (kinds : List SeenKind) (kind : SeenKind) → ((o : ℕ) → KnownKind known (slice_get kinds o)) → KnownKind known (Some kind) → (o : ℕ) → KnownKind known (slice_get (kinds ++ kind ∷ []) o)
  longer_known [] kind all is zero = is
  longer_known [] kind all is (suc o) = tt
  longer_known (first ∷ kinds) kind all is zero = all zero
  longer_known (first ∷ kinds) kind all is (suc o) = longer_known kinds kind (λ p. all (suc p)) is o

  made_known : (made : Option SeenKind) (store : RunStore) → KnownKind known made → KnownStore known store → KnownStore known (with_made made store)
  made_known None store of is = is
  made_known (Some kind) store of is = record { at = is.at; kinds = longer_known store.kinds kind is.kinds of }

  -- what is read
  abbrev holding : Option SeenContent → RunStore
  holding content = record empty { at = λ l. content }

  module _ (store : RunStore) (is : KnownStore known store) where
    var_known : (scope : ℕ) (name : List ℕ) → KnownOption known (var_of store scope name)
    var_known scope name = each (store.at (var_at scope name)) (is.at (var_at scope name))
      where
        each : (c : Option SeenContent) → KnownFound known c → KnownOption known (var_of (holding c) 0 [])
        each None so = tt
        each (Some (var_is v)) so = so
        each (Some else_is) so = tt

    item_read : (o i : ℕ) → KnownOption known (item_of store o i)
    item_read o i = each (store.at (item_at o i)) (is.at (item_at o i))
      where
        each : (c : Option SeenContent) → KnownFound known c → KnownOption known (item_of (holding c) 0 0)
        each None so = tt
        each (Some (item_is v)) so = so
        each (Some else_is) so = tt

    entry_read : (o : ℕ) (key : Contents) → KnownEntry known (entry_of store o key)
    entry_read o key = each (store.at (entry_at o (normal key))) (is.at (entry_at o (normal key)))
      where
        each : (c : Option SeenContent) → KnownFound known c → KnownEntry known (entry_of (holding c) 0 nothing)
        each None so = tt
        each (Some (entry_is entry)) so = so
        each (Some else_is) so = tt

    order_read : (o : ℕ) → KnownAll known (order_of store o)
    order_read o = each (store.at (order_at o)) (is.at (order_at o))
      where
        each : (c : Option SeenContent) → KnownFound known c → KnownAll known (order_of (holding c) 0)
        each None so = tt
        each (Some (order_is keys)) so = so
        each (Some else_is) so = tt

    pub method_read : (place : Pos) (name : List ℕ) → KnownPlace known (method_of store place name)
    method_read place name = each (store.at (method_at place name)) (is.at (method_at place name))
      where
        each : (c : Option SeenContent) → KnownFound known c → KnownPlace known (method_of (holding c) place [])
        each None so = tt
        each (Some (method_is at)) so = so
        each (Some else_is) so = tt

    base_read : (place : Pos) → KnownOption known (base_of store place)
    base_read place = each (store.at (base_at place)) (is.at (base_at place))
      where
        each : (c : Option SeenContent) → KnownFound known c → KnownOption known (base_of (holding c) place)
        each None so = tt
        each (Some (base_is base)) so = so
        each (Some else_is) so = tt

    moved_known : (v : Option Contents) → KnownOption known v → KnownValue known (unwrap_or v (tuple no_parts))
    moved_known None so = tt
    moved_known (Some v) so = so

    pub record Flows (e : Effect) : Type 0 where
      pub touches : KnownTouches e.touches
      pub made : KnownKind known e.made
      pub outcome : KnownOutcome known e.outcome

    read_first : (l : SeenLocation) {e : Effect} → Flows e → Flows (touching (accessed (reads l)) e)
    read_first l flow = record { touches = flow.touches; made = flow.made; outcome = flow.outcome }

    written_flows : (made : Option SeenKind) (all : Writes) → KnownKind known made → WritesKnown known all → Flows (written store made all)
    written_flows made (write l content rest) of all = let flow : Flows (written store made rest) = written_flows made rest of all.1 in record { touches = (all.0, flow.touches); made = flow.made; outcome = flow.outcome }
    written_flows made (change l how rest) of all = let flow : Flows (written store made rest) = written_flows made rest of all.1 in record { touches = (all.0, flow.touches); made = flow.made; outcome = flow.outcome }
    written_flows made (move o from to rest) of all =
        let flow : Flows (written store made rest) = written_flows made rest of all in record { touches = (moved_known (item_of store o from) (item_read o from), flow.touches); made = flow.made; outcome = flow.outcome }
    written_flows made (opens path rest) of all = let flow : Flows (written store made rest) = written_flows made rest of all in record { touches = flow.touches; made = flow.made; outcome = flow.outcome }
    written_flows made (notes place name rest) of all = let flow : Flows (written store made rest) = written_flows made rest of all in record { touches = flow.touches; made = flow.made; outcome = flow.outcome }
    written_flows made (done answer) of all = record { touches = tt; made = of; outcome = all }
    written_flows made done_at_end of all = record { touches = tt; made = of; outcome = tt }

    module _ (answers : Answers) where
      pub flows : (p : Plan) → KeepsKnown known p → Flows (effect store answers p)
      flows _ (from_var {scope = scope} {name = name} each) = read_first (var_at scope name) (flows _ (each (var_of store scope name) (var_known scope name)))
      flows _ (from_len {o = o} each) = read_first _ (flows _ (each (len_of store o)))
      flows _ (from_item {o = o} {i = i} each) = read_first (item_at o i) (flows _ (each (item_of store o i) (item_read o i)))
      flows _ (from_entry {o = o} {key = key} each) = read_first (entry_at o (normal key)) (flows _ (each (entry_of store o key) (entry_read o key)))
      flows _ (from_order {o = o} each) = read_first (order_at o) (flows _ (each (order_of store o) (order_read o)))
      flows _ (from_file {path = path} each) = read_first _ (flows _ (each (file_of store path)))
      flows _ (from_offset {o = o} each) = read_first _ (flows _ (each (offset_of store o)))
      flows _ (from_closed {o = o} each) = read_first _ (flows _ (each (closed_of store o)))
      flows _ (from_method {place = place} {name = name} each) = read_first (method_at place name) (flows _ (each (method_of store place name) (method_read place name)))
      flows _ (from_base {place = place} each) = read_first (base_at place) (flows _ (each (base_of store place) (base_read place)))
      flows _ (from_kind {o = o} each) = flows _ (each (slice_get store.kinds o) (is.kinds o))
      flows _ (from_name {place = place} so each) = flows _ (each (store.names place))
      flows _ (from_opened {path = path} each) = flows _ (each (has_path path store.opened))
      flows _ (from_ask {what = what} {go = go} each) = by_given (answers.given what) (λ given. flows _ (each given))
        where
          by_given : (given : Option Given) → ((v : Given) → Flows (effect store answers (go v))) → Flows (touching (asked what) (elim given [ None ↦ lacking store | Some v ↦ effect store answers (go v) ]))
          by_given None all = record { touches = tt; made = tt; outcome = tt }
          by_given (Some v) all = record { touches = (all v).touches; made = (all v).made; outcome = (all v).outcome }
      flows _ (from_fetch {path = path} {go = go} each) = by_found (answers.found path) (λ found. flows _ (each found))
        where
          by_found : (found : Option Found) → ((v : Found) → Flows (effect store answers (go v))) → Flows (touching (fetched path) (elim found [ None ↦ lacking store | Some v ↦ effect store answers (go v) ]))
          by_found None all = record { touches = tt; made = tt; outcome = tt }
          by_found (Some v) all = record { touches = (all v).touches; made = (all v).made; outcome = (all v).outcome }
      flows _ (with_look rest) = let flow = flows _ rest in record { touches = flow.touches; made = flow.made; outcome = flow.outcome }
      flows _ (with_count rest) = let flow = flows _ rest in record { touches = flow.touches; made = flow.made; outcome = flow.outcome }
      flows _ (with_print rest) = let flow = flows _ rest in record { touches = flow.touches; made = flow.made; outcome = flow.outcome }
      flows _ (by_writes {all = all} so) = written_flows None all tt so
      flows _ (by_make {kind = kind} {all = all} of so) = written_flows (Some kind) (all (length store.kinds)) of (so (length store.kinds))
      flows _ (by_raise {items = items} of all) = record { touches = ((tt, tt), ((tt, tuple_known known items all), tt)); made = of; outcome = tt }
      flows _ by_again = record { touches = tt; made = tt; outcome = tt }
      flows _ by_end = record { touches = tt; made = tt; outcome = tt }
      flows _ by_run_away = record { touches = tt; made = tt; outcome = tt }

  pub store_stays_known : (store : RunStore) (answers : Answers) (p : Plan) → KeepsKnown known p → KnownStore known store → KnownStore known (after (effect store answers p) store)
  store_stays_known store answers p keeps is =
      let flow = flows store is answers p keeps in touches_known (effect store answers p).touches (with_made (effect store answers p).made store) flow.touches (made_known (effect store answers p).made store flow.made is)

  pub answer_is_known : (store : RunStore) (answers : Answers) (p : Plan) → KeepsKnown known p → KnownStore known store → KnownOutcome known (effect store answers p).outcome
  answer_is_known store answers p keeps is = (flows store is answers p keeps).outcome
