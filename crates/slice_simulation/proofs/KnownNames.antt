-- A plan that passes known functions on asks for names at known places alone. So what stands at other places does not matter to it.
use Rattle.std.proofs.Common.{◌≡◌, ℕ, true, List, [], length, slice_get, Option, Some, None, refl, ap, ◌∙◌}
use Rattle.std.specs.Prelude.{Bool, unwrap_or}
use Rattle.prov_base.specs.declared.place.Pos.{Pos}
use Rattle.py_value.specs.Contents.{Contents, nothing, tuple, no_parts}
use Rattle.py_value.specs.KeyOf.{normal}
use Rattle.py_value.specs.Seen.{SeenContent, SeenKind, var_at, len_at, item_at, entry_at, order_at, file_at, offset_at, closed_at, method_at, base_at, var_is, item_is, entry_is, order_is, method_is, base_is, reads, sets, updates}
use Rattle.py_model.specs.Effect.{accessed, looked, counted, printed, opened, noted, asked, fetched, Effect, Answers, effect, written, touching, lacking}
use Rattle.py_model.specs.Plan.{Given, Found, Writes, write, change, move, opens, notes, done, done_at_end, Plan}
use Rattle.py_model.specs.Store.{RunStore, empty, var_of, item_of, entry_of, order_of, method_of, base_of, len_of, file_of, offset_of, closed_of, has_path}
use Rattle.model_laws.specs.Flow.{KnownOption, KnownAll, KnownEntry, KnownPlace, KeepsKnown, from_var, from_len, from_item, from_entry, from_order, from_file, from_offset, from_closed, from_method, from_base, from_kind, from_name, from_opened, from_ask, from_fetch, with_look, with_count, with_print, by_writes, by_make, by_raise, by_again, by_end, by_run_away, KnownFound, KnownStore}

module _ (known : Pos → Bool) (store : RunStore) (is : KnownStore known store) where
  -- what is read in a store where all is known
  abbrev holding : Option SeenContent → RunStore
  holding content = record empty { at = λ l. content }

  pub var_read : (scope : ℕ) (name : List ℕ) → KnownOption known (var_of store scope name)
  var_read scope name = each (store.at (var_at scope name)) (is.at (var_at scope name))
    where
      each : (c : Option SeenContent) → KnownFound known c → KnownOption known (var_of (holding c) 0 [])
      each None so = tt
      each (Some (var_is v)) so = so
      each (Some else_is) so = tt

  pub item_read : (o i : ℕ) → KnownOption known (item_of store o i)
  item_read o i = each (store.at (item_at o i)) (is.at (item_at o i))
    where
      each : (c : Option SeenContent) → KnownFound known c → KnownOption known (item_of (holding c) 0 0)
      each None so = tt
      each (Some (item_is v)) so = so
      each (Some else_is) so = tt

  pub entry_read : (o : ℕ) (key : Contents) → KnownEntry known (entry_of store o key)
  entry_read o key = each (store.at (entry_at o (normal key))) (is.at (entry_at o (normal key)))
    where
      each : (c : Option SeenContent) → KnownFound known c → KnownEntry known (entry_of (holding c) 0 nothing)
      each None so = tt
      each (Some (entry_is entry)) so = so
      each (Some else_is) so = tt

  pub order_read : (o : ℕ) → KnownAll known (order_of store o)
  order_read o = each (store.at (order_at o)) (is.at (order_at o))
    where
      each : (c : Option SeenContent) → KnownFound known c → KnownAll known (order_of (holding c) 0)
      each None so = tt
      each (Some (order_is keys)) so = so
      each (Some else_is) so = tt

  pub method_read : (place : Pos) (name : List ℕ) → KnownPlace known (method_of store place name)
  method_read place name = each (store.at (method_at place name)) (is.at (method_at place name))
    where
      each : (c : Option SeenContent) → KnownFound known c → KnownPlace known (method_of (holding c) place [])
      each None so = tt
      each (Some (method_is at)) so = so
      each (Some else_is) so = tt

  pub base_read : (place : Pos) → KnownOption known (base_of store place)
  base_read place = each (store.at (base_at place)) (is.at (base_at place))
    where
      each : (c : Option SeenContent) → KnownFound known c → KnownOption known (base_of (holding c) place)
      each None so = tt
      each (Some (base_is base)) so = so
      each (Some else_is) so = tt

  module _ (names : Pos → Option (List ℕ)) (same : (place : Pos) → known place ≡ true → names place ≡ store.names place) where
    -- the store with these names
    abbrev pub named : RunStore
    named = record store { names = names }

    written_same : (made : Option SeenKind) (all : Writes) → written named made all ≡ written store made all
    written_same made (write l content rest) = ap (touching (accessed (sets l content))) (written_same made rest)
    written_same made (change l how rest) = ap (touching (accessed (updates l how))) (written_same made rest)
    written_same made (move o from to rest) =
        ap (λ (e : Effect). touching (accessed (reads (item_at o from))) (touching (accessed (sets (item_at o to) (item_is (unwrap_or (item_of store o from) (tuple no_parts))))) e)) (written_same made rest)
    written_same made (opens path rest) = ap (touching (opened path)) (written_same made rest)
    written_same made (notes place name rest) = ap (touching (noted place name)) (written_same made rest)
    written_same made (done answer) = refl
    written_same made done_at_end = refl

    module _ (answers : Answers) where
      pub names_unread : (p : Plan) → KeepsKnown known p → effect named answers p ≡ effect store answers p
      names_unread _ (from_var {scope = scope} {name = name} each) = ap (touching (accessed (reads (var_at scope name)))) (names_unread _ (each (var_of store scope name) (var_read scope name)))
      names_unread _ (from_len {o = o} each) = ap (touching (accessed (reads (len_at o)))) (names_unread _ (each (len_of store o)))
      names_unread _ (from_item {o = o} {i = i} each) = ap (touching (accessed (reads (item_at o i)))) (names_unread _ (each (item_of store o i) (item_read o i)))
      names_unread _ (from_entry {o = o} {key = key} each) = ap (touching (accessed (reads (entry_at o (normal key))))) (names_unread _ (each (entry_of store o key) (entry_read o key)))
      names_unread _ (from_order {o = o} each) = ap (touching (accessed (reads (order_at o)))) (names_unread _ (each (order_of store o) (order_read o)))
      names_unread _ (from_file {path = path} each) = ap (touching (accessed (reads (file_at path)))) (names_unread _ (each (file_of store path)))
      names_unread _ (from_offset {o = o} each) = ap (touching (accessed (reads (offset_at o)))) (names_unread _ (each (offset_of store o)))
      names_unread _ (from_closed {o = o} each) = ap (touching (accessed (reads (closed_at o)))) (names_unread _ (each (closed_of store o)))
      names_unread _ (from_method {place = place} {name = name} each) = ap (touching (accessed (reads (method_at place name)))) (names_unread _ (each (method_of store place name) (method_read place name)))
      names_unread _ (from_base {place = place} each) = ap (touching (accessed (reads (base_at place)))) (names_unread _ (each (base_of store place) (base_read place)))
      names_unread _ (from_kind {o = o} each) = names_unread _ (each (slice_get store.kinds o) (is.kinds o))
      names_unread _ (from_name {place = place} {go = go} so each) = ap (λ (name : Option (List ℕ)). effect named answers (go name)) (same place so) ∙ names_unread _ (each (store.names place))
      names_unread _ (from_opened {path = path} each) = names_unread _ (each (has_path path store.opened))
      names_unread _ (from_ask {what = what} {go = go} each) = ap (touching (asked what)) (by_given (answers.given what) (λ given. names_unread _ (each given)))
        where
          by_given : (given : Option Given) → ((v : Given) → effect named answers (go v) ≡ effect store answers (go v))
              → ◌≡◌ {A = Effect} (elim given [ None ↦ lacking named | Some v ↦ effect named answers (go v) ]) (elim given [ None ↦ lacking store | Some v ↦ effect store answers (go v) ])
          by_given None all = refl
          by_given (Some v) all = all v
      names_unread _ (from_fetch {path = path} {go = go} each) = ap (touching (fetched path)) (by_found (answers.found path) (λ found. names_unread _ (each found)))
        where
          by_found : (found : Option Found) → ((v : Found) → effect named answers (go v) ≡ effect store answers (go v))
              → ◌≡◌ {A = Effect} (elim found [ None ↦ lacking named | Some v ↦ effect named answers (go v) ]) (elim found [ None ↦ lacking store | Some v ↦ effect store answers (go v) ])
          by_found None all = refl
          by_found (Some v) all = all v
      names_unread _ (with_look {n = n} rest) = ap (touching (looked n)) (names_unread _ rest)
      names_unread _ (with_count {n = n} rest) = ap (touching (counted n)) (names_unread _ rest)
      names_unread _ (with_print {bytes = bytes} rest) = ap (touching (printed bytes)) (names_unread _ rest)
      names_unread _ (by_writes {all = all} so) = written_same None all
      names_unread _ (by_make {kind = kind} {all = all} of so) = written_same (Some kind) (all (length store.kinds))
      names_unread _ (by_raise of all) = refl
      names_unread _ by_again = refl
      names_unread _ by_end = refl
      names_unread _ by_run_away = refl
