-- What effects name and leave of a store in which all is kept.
use Rattle.std.proofs.Common.{refl, inl, inr, ℕ, zero, suc, Bool, true, false, if◌then◌else◌, List, [], ◌∷◌, ◌++◌, slice_get, length, Option, Some, None}
use Rattle.std.specs.Prelude.{unwrap_or}
use Rattle.prov_base.specs.declared.place.Pos.{Pos}
use Rattle.py_value.specs.Changes.{has_key, with_key, without_key, changed}
use Rattle.py_value.specs.Contents.{Contents, nothing, tuple, no_parts}
use Rattle.py_value.specs.KeyOf.{normal}
use Rattle.py_value.specs.Same.{same_value, same_location, put}
use Rattle.py_value.specs.Seen.{SeenLocation, SeenContent, SeenChange, SeenKind, var_at, len_at, file_at, offset_at, closed_at, item_at, entry_at, order_at, method_at, base_at, var_is, item_is, entry_is, order_is, method_is, base_is, file_is, key_inserted, key_deleted, bytes_appended, reads, sets, updates}
use Rattle.py_model.specs.Effect.{Touch, accessed, looked, counted, printed, opened, noted, asked, fetched, accesses_in, Effect, Answers, effect, written, touching, lacking, after, after_touches, with_made}
use Rattle.py_model.specs.Plan.{Given, Found, Writes, write, change, move, opens, notes, done, done_at_end, Plan}
use Rattle.py_model.specs.Store.{RunStore, empty, var_of, item_of, entry_of, order_of, method_of, base_of, len_of, file_of, offset_of, closed_of, has_path}
use Rattle.kept_runs.specs.Keys.{LocationKeys}
use Rattle.kept_runs.proofs.Forms.{form_of}
use Rattle.kept_runs.proofs.Walking.{tuple_kept}
use Rattle.kept_runs.proofs.Flow.{Known, KeptKey, KeptKeys, KeptSet, KeptUpdate, KeptAccesses, KeptValue, KeptOption, KeptEntry, KeptPlace, KeptKind, KeptContent, KeptChange, WritesKept, Keeps, from_var, from_len, from_item, from_entry, from_order, from_file, from_offset, from_closed, from_method, from_base, from_kind, from_name, from_opened, from_ask, from_fetch, with_look, with_count, with_print, by_writes, by_make, by_raise, by_again, by_end, by_run_away, KeptFound, KeptStore, KeptOutcome, TouchPaths}

module _ (known : Known) where
  -- maps
  pub put_kept : (l : SeenLocation) (content : SeenContent) (map : SeenLocation → Option SeenContent) → KeptContent known content → ((m : SeenLocation) → KeptFound known (map m))
      → (m : SeenLocation) → KeptFound known (put l content map m)
  put_kept l content map is all m = by_test (same_location l m)
    where
      by_test : (test : Bool) → KeptFound known (if test then Some content else map m)
      by_test true = is
      by_test false = all m

  joined_keys : (xs ys : List Contents) → KeptKeys known xs → KeptKeys known ys → KeptKeys known (xs ++ ys)
  joined_keys [] ys one other = other
  joined_keys (x ∷ xs) ys one other = (one.0, joined_keys xs ys one.1 other)

  set_content : (l : SeenLocation) (content : SeenContent) → KeptSet known l content → KeptContent known content
  set_content (entry_at o form) content is = is.1
  set_content other content is = is

  update_change : (l : SeenLocation) (how : SeenChange) → KeptUpdate known l how → KeptChange known how
  update_change (entry_at o form) how is = is.1
  update_change other how is = is

  with_key_kept : (key : Contents) (keys : List Contents) → KeptKey known key → KeptKeys known keys → KeptKeys known (with_key key keys)
  with_key_kept key keys is all = by_test (has_key key keys)
    where
      by_test : (test : Bool) → KeptKeys known (if test then keys else keys ++ key ∷ [])
      by_test true = all
      by_test false = joined_keys keys (key ∷ []) all (is, tt)

  without_key_kept : (key : Contents) (keys : List Contents) → KeptKeys known keys → KeptKeys known (without_key key keys)
  without_key_kept key [] all = tt
  without_key_kept key (first ∷ keys) all = by_test (same_value (normal key) (normal first)) (without_key_kept key keys all.1)
    where
      by_test : (test : Bool) → KeptKeys known (without_key key keys) → KeptKeys known (if test then keys else first ∷ without_key key keys)
      by_test true rest = all.1
      by_test false rest = (all.0, rest)

  changed_kept : (how : SeenChange) (content : Option SeenContent) → KeptChange known how → KeptFound known content → KeptContent known (changed how content)
  changed_kept (key_inserted key) (Some (order_is keys)) is all = with_key_kept key keys is all
  changed_kept (key_inserted key) other is all = (is, tt)
  changed_kept (key_deleted key) (Some (order_is keys)) is all = without_key_kept key keys all
  changed_kept (key_deleted key) other is all = tt
  changed_kept (bytes_appended more) (Some (file_is bytes)) is all = tt
  changed_kept (bytes_appended more) other is all = tt

  -- stores
  touches_kept : (touches : List Touch) (store : RunStore) → KeptAccesses known (accesses_in touches) → KeptStore known store → KeptStore known (after_touches touches store)
  touches_kept [] store all is = is
  touches_kept (accessed (reads l) ∷ touches) store all is = touches_kept touches _ all.1 (record { at = is.at; kinds = is.kinds })
  touches_kept (accessed (sets l content) ∷ touches) store all is =
      touches_kept touches _ all.1 (record { at = put_kept l content store.at (set_content l content all.0) is.at; kinds = is.kinds })
  touches_kept (accessed (updates l how) ∷ touches) store all is =
      touches_kept touches _ all.1 (record { at = put_kept l (changed how (store.at l)) store.at (changed_kept how (store.at l) (update_change l how all.0) (is.at l)) is.at; kinds = is.kinds })
  touches_kept (looked n ∷ touches) store all is = touches_kept touches store all is
  touches_kept (counted n ∷ touches) store all is = touches_kept touches store all is
  touches_kept (printed bytes ∷ touches) store all is = touches_kept touches _ all (record { at = is.at; kinds = is.kinds })
  touches_kept (opened path ∷ touches) store all is = touches_kept touches _ all (record { at = is.at; kinds = is.kinds })
  touches_kept (noted place name ∷ touches) store all is = touches_kept touches _ all (record { at = is.at; kinds = is.kinds })
  touches_kept (asked what ∷ touches) store all is = touches_kept touches store all is
  touches_kept (fetched path ∷ touches) store all is = touches_kept touches store all is

  longer_kept : (kinds : List SeenKind) (kind : SeenKind) → ((o : ℕ) → KeptKind known (slice_get kinds o)) → KeptKind known (Some kind) → (o : ℕ) → KeptKind known (slice_get (kinds ++ kind ∷ []) o)
  longer_kept [] kind all is zero = is
  longer_kept [] kind all is (suc o) = tt
  longer_kept (first ∷ kinds) kind all is zero = all zero
  longer_kept (first ∷ kinds) kind all is (suc o) = longer_kept kinds kind (λ p. all (suc p)) is o

  made_kept : (made : Option SeenKind) (store : RunStore) → KeptKind known made → KeptStore known store → KeptStore known (with_made made store)
  made_kept None store of is = is
  made_kept (Some kind) store of is = record { at = is.at; kinds = longer_kept store.kinds kind is.kinds of }

  -- what is read
  abbrev holding : Option SeenContent → RunStore
  holding content = record empty { at = λ l. content }

  module _ (store : RunStore) (is : KeptStore known store) where
    var_kept : (scope : ℕ) (name : List ℕ) → KeptOption known (var_of store scope name)
    var_kept scope name = each (store.at (var_at scope name)) (is.at (var_at scope name))
      where
        each : (c : Option SeenContent) → KeptFound known c → KeptOption known (var_of (holding c) 0 [])
        each None so = tt
        each (Some (var_is v)) so = so
        each (Some else_is) so = tt

    item_read : (o i : ℕ) → KeptOption known (item_of store o i)
    item_read o i = each (store.at (item_at o i)) (is.at (item_at o i))
      where
        each : (c : Option SeenContent) → KeptFound known c → KeptOption known (item_of (holding c) 0 0)
        each None so = tt
        each (Some (item_is v)) so = so
        each (Some else_is) so = tt

    entry_read : (o : ℕ) (key : Contents) → KeptEntry known (entry_of store o key)
    entry_read o key = each (store.at (entry_at o (normal key))) (is.at (entry_at o (normal key)))
      where
        each : (c : Option SeenContent) → KeptFound known c → KeptEntry known (entry_of (holding c) 0 nothing)
        each None so = tt
        each (Some (entry_is entry)) so = so
        each (Some else_is) so = tt

    order_read : (o : ℕ) → KeptKeys known (order_of store o)
    order_read o = each (store.at (order_at o)) (is.at (order_at o))
      where
        each : (c : Option SeenContent) → KeptFound known c → KeptKeys known (order_of (holding c) 0)
        each None so = tt
        each (Some (order_is keys)) so = so
        each (Some else_is) so = tt

    pub method_read : (place : Pos) (name : List ℕ) → KeptPlace known (method_of store place name)
    method_read place name = each (store.at (method_at place name)) (is.at (method_at place name))
      where
        each : (c : Option SeenContent) → KeptFound known c → KeptPlace known (method_of (holding c) place [])
        each None so = tt
        each (Some (method_is at)) so = so
        each (Some else_is) so = tt

    base_read : (place : Pos) → KeptOption known (base_of store place)
    base_read place = each (store.at (base_at place)) (is.at (base_at place))
      where
        each : (c : Option SeenContent) → KeptFound known c → KeptOption known (base_of (holding c) place)
        each None so = tt
        each (Some (base_is base)) so = so
        each (Some else_is) so = tt

    moved_kept : (v : Option Contents) → KeptOption known v → KeptValue known (unwrap_or v (tuple no_parts))
    moved_kept None so = tt
    moved_kept (Some v) so = so

    pub record Flows (e : Effect) : Type 0 where
      pub accesses : KeptAccesses known (accesses_in e.touches)
      pub made : KeptKind known e.made
      pub outcome : KeptOutcome known (length store.kinds) e.outcome
      pub paths : TouchPaths e.touches

    read_first : (l : SeenLocation) {e : Effect} → LocationKeys l → Flows e → Flows (touching (accessed (reads l)) e)
    read_first l is flow = record { accesses = (is, flow.accesses); made = flow.made; outcome = flow.outcome; paths = (tt, flow.paths) }

    -- an object that is made has the next number
    abbrev NextOf : Option SeenKind → Option ℕ
    NextOf None = None
    NextOf (Some kind) = Some (length store.kinds)

    written_flows : (made : Option SeenKind) (all : Writes) → KeptKind known made → WritesKept known (NextOf made) all → Flows (written store made all)
    written_flows made (write l content rest) of all = let flow : Flows (written store made rest) = written_flows made rest of all.1 in record { accesses = (all.0, flow.accesses); made = flow.made; outcome = flow.outcome; paths = (tt, flow.paths) }
    written_flows made (change l how rest) of all = let flow : Flows (written store made rest) = written_flows made rest of all.1 in record { accesses = (all.0, flow.accesses); made = flow.made; outcome = flow.outcome; paths = (tt, flow.paths) }
    written_flows made (move o from to rest) of all =
        let flow : Flows (written store made rest) = written_flows made rest of all in record { accesses = (tt, (moved_kept (item_of store o from) (item_read o from), flow.accesses)); made = flow.made; outcome = flow.outcome; paths = (tt, (tt, flow.paths)) }
    written_flows made (opens path rest) of all = let flow : Flows (written store made rest) = written_flows made rest of all.1 in record { accesses = flow.accesses; made = flow.made; outcome = flow.outcome; paths = (all.0, flow.paths) }
    written_flows made (notes place name rest) of all = let flow : Flows (written store made rest) = written_flows made rest of all in record { accesses = flow.accesses; made = flow.made; outcome = flow.outcome; paths = (tt, flow.paths) }
    written_flows None (done answer) of all = record { accesses = tt; made = of; outcome = inl all; paths = tt }
    written_flows (Some kind) (done answer) of all = record { accesses = tt; made = of; outcome = inr all; paths = tt }
    written_flows made done_at_end of all = record { accesses = tt; made = of; outcome = tt; paths = tt }

    module _ (answers : Answers) where
      pub flows : (p : Plan) → Keeps known p → Flows (effect store answers p)
      flows _ (from_var {scope = scope} {name = name} each) = read_first (var_at scope name) tt (flows _ (each (var_of store scope name) (var_kept scope name)))
      flows _ (from_len {o = o} each) = read_first (len_at o) tt (flows _ (each (len_of store o)))
      flows _ (from_item {o = o} {i = i} each) = read_first (item_at o i) tt (flows _ (each (item_of store o i) (item_read o i)))
      flows _ (from_entry {o = o} {key = key} is_key each) = read_first (entry_at o (normal key)) (form_of key is_key) (flows _ (each (entry_of store o key) (entry_read o key)))
      flows _ (from_order {o = o} each) = read_first (order_at o) tt (flows _ (each (order_of store o) (order_read o)))
      flows _ (from_file {path = path} each) = read_first (file_at path) tt (flows _ (each (file_of store path)))
      flows _ (from_offset {o = o} each) = read_first (offset_at o) tt (flows _ (each (offset_of store o)))
      flows _ (from_closed {o = o} each) = read_first (closed_at o) tt (flows _ (each (closed_of store o)))
      flows _ (from_method {place = place} {name = name} each) = read_first (method_at place name) tt (flows _ (each (method_of store place name) (method_read place name)))
      flows _ (from_base {place = place} each) = read_first (base_at place) tt (flows _ (each (base_of store place) (base_read place)))
      flows _ (from_kind {o = o} each) = flows _ (each (slice_get store.kinds o) (is.kinds o))
      flows _ (from_name {place = place} so each) = flows _ (each (store.names place))
      flows _ (from_opened {path = path} each) = flows _ (each (has_path path store.opened))
      flows _ (from_ask {what = what} {go = go} each) = by_given (answers.given what) (λ given. flows _ (each given))
        where
          by_given : (given : Option Given) → ((v : Given) → Flows (effect store answers (go v))) → Flows (touching (asked what) (elim given [ None ↦ lacking store | Some v ↦ effect store answers (go v) ]))
          by_given None all = record { accesses = tt; made = tt; outcome = tt; paths = (tt, tt) }
          by_given (Some v) all = record { accesses = (all v).accesses; made = (all v).made; outcome = (all v).outcome; paths = (tt, (all v).paths) }
      flows _ (from_fetch {path = path} {go = go} good each) = by_found (answers.found path) (λ found. flows _ (each found))
        where
          by_found : (found : Option Found) → ((v : Found) → Flows (effect store answers (go v))) → Flows (touching (fetched path) (elim found [ None ↦ lacking store | Some v ↦ effect store answers (go v) ]))
          by_found None all = record { accesses = tt; made = tt; outcome = tt; paths = (good, tt) }
          by_found (Some v) all = record { accesses = (all v).accesses; made = (all v).made; outcome = (all v).outcome; paths = (good, (all v).paths) }
      flows _ (with_look rest) = let flow = flows _ rest in record { accesses = flow.accesses; made = flow.made; outcome = flow.outcome; paths = (tt, flow.paths) }
      flows _ (with_count rest) = let flow = flows _ rest in record { accesses = flow.accesses; made = flow.made; outcome = flow.outcome; paths = (tt, flow.paths) }
      flows _ (with_print rest) = let flow = flows _ rest in record { accesses = flow.accesses; made = flow.made; outcome = flow.outcome; paths = (tt, flow.paths) }
      flows _ (by_writes {all = all} so) = written_flows None all tt so
      flows _ (by_make {kind = kind} {all = all} of so) = written_flows (Some kind) (all (length store.kinds)) of (so (length store.kinds))
      flows _ (by_raise {items = items} of all) = record { accesses = ((((tt, refl), tt)), (((refl, refl), ((tt, refl), tuple_kept known items all)), tt)); made = of; outcome = tt; paths = (tt, (tt, tt)) }
      flows _ by_again = record { accesses = tt; made = tt; outcome = tt; paths = tt }
      flows _ by_end = record { accesses = tt; made = tt; outcome = tt; paths = tt }
      flows _ by_run_away = record { accesses = tt; made = tt; outcome = tt; paths = tt }

  pub store_stays_kept : (e : Effect) (store : RunStore) (is : KeptStore known store) → Flows store is e → KeptStore known (after e store)
  store_stays_kept e store is flow = touches_kept e.touches (with_made e.made store) flow.accesses (made_kept e.made store flow.made is)
