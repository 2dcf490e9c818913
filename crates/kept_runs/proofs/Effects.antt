-- An operation on operands below these counts, in a store where all is below them, names nothing else: its plan is alike to itself under a
-- renaming that moves all other numbers.
use Rattle.std.proofs.Common.{◌≡◌, ◌<◌, ℕ, List, [], slice_get, length, Option, Some, None, refl, sym, ap, subst, ◌∙◌}
use Rattle.std.specs.Prelude.{⊤, unwrap_or}
use Rattle.prov_base.specs.declared.place.Pos.{Pos}
use Rattle.py_value.specs.Contents.{Contents, nothing, tuple, no_parts}
use Rattle.py_value.specs.KeyOf.{normal}
use Rattle.py_value.specs.Seen.{SeenLocation, SeenContent, SeenKind, var_at, len_at, item_at, entry_at, order_at, file_at, offset_at, closed_at, method_at, base_at, var_is, item_is, entry_is, order_is, base_is, reads}
use Rattle.py_model.specs.Agreement.{AlikeWrites, both_write, both_change, both_move, both_open, both_note, both_done, both_done_at_end, Alike, both_read_var, both_read_len, both_read_item, both_read_entry, both_read_order, both_read_file, both_read_offset, both_read_closed, both_read_method, both_read_base, both_kind, both_name, both_was_opened, both_ask, both_fetch, both_look, both_count, both_print, both_writes, both_make, both_raise, both_again, both_end, both_run_away}
use Rattle.py_model.specs.Effect.{accessed, asked, fetched, Outcome, answered, Effect, Answers, effect, written, touching, lacking, accesses_in}
use Rattle.py_model.specs.Plan.{Given, Found, Writes, write, change, move, opens, notes, done, done_at_end, Plan}
use Rattle.py_model.specs.Renaming.{Renaming}
use Rattle.py_model.specs.Store.{RunStore, empty, var_of, item_of, entry_of, order_of, method_of, base_of, len_of, file_of, offset_of, closed_of, has_path}
use Rattle.kept_runs.specs.Below.{ValueBelow, OptionBelow, AllBelow, EntryBelow, KindBelow, ContentBelow, AnswerBelow, LocationBelow, AccessesBelow}
use Rattle.kept_runs.proofs.Moved.{stays, below, moving, scope_below, value_below, option_stays, list_stays, entry_stays, kind_stays, all_below, kind_below, content_below, change_below, location_below, normal_below, tuple_below}

module _ (objects : ℕ) where
  abbrev pub FoundBelow : Option SeenContent → Type 0
  FoundBelow None = ⊤
  FoundBelow (Some content) = ContentBelow objects content

  -- all that stands in a store is below the count
  pub record StoreBelow (store : RunStore) : Type 0 where
    pub at : (l : SeenLocation) → FoundBelow (store.at l)
    pub kinds : (o : ℕ) → KindBelow objects (slice_get store.kinds o)

  abbrev pub OutcomeBelow : Outcome → Type 0
  OutcomeBelow (answered answer) = AnswerBelow objects answer
  OutcomeBelow other = ⊤

  -- what is read
  abbrev holding : Option SeenContent → RunStore
  holding content = record empty { at = λ l. content }

  module _ (store : RunStore) (is : StoreBelow store) where
    pub var_read : (scope : ℕ) (name : List ℕ) → OptionBelow objects (var_of store scope name)
    var_read scope name = each (store.at (var_at scope name)) (is.at (var_at scope name))
      where
        each : (c : Option SeenContent) → FoundBelow c → OptionBelow objects (var_of (holding c) 0 [])
        each None so = tt
        each (Some (var_is v)) so = so
        each (Some else_is) so = tt

    pub item_read : (o i : ℕ) → OptionBelow objects (item_of store o i)
    item_read o i = each (store.at (item_at o i)) (is.at (item_at o i))
      where
        each : (c : Option SeenContent) → FoundBelow c → OptionBelow objects (item_of (holding c) 0 0)
        each None so = tt
        each (Some (item_is v)) so = so
        each (Some else_is) so = tt

    pub entry_read : (o : ℕ) (key : Contents) → EntryBelow objects (entry_of store o key)
    entry_read o key = each (store.at (entry_at o (normal key))) (is.at (entry_at o (normal key)))
      where
        each : (c : Option SeenContent) → FoundBelow c → EntryBelow objects (entry_of (holding c) 0 nothing)
        each None so = tt
        each (Some (entry_is entry)) so = so
        each (Some else_is) so = tt

    pub order_read : (o : ℕ) → AllBelow objects (order_of store o)
    order_read o = each (store.at (order_at o)) (is.at (order_at o))
      where
        each : (c : Option SeenContent) → FoundBelow c → AllBelow objects (order_of (holding c) 0)
        each None so = tt
        each (Some (order_is keys)) so = so
        each (Some else_is) so = tt

    pub base_read : (place : Pos) → OptionBelow objects (base_of store place)
    base_read place = each (store.at (base_at place)) (is.at (base_at place))
      where
        each : (c : Option SeenContent) → FoundBelow c → OptionBelow objects (base_of (holding c) place)
        each None so = tt
        each (Some (base_is base)) so = so
        each (Some else_is) so = tt

  moved_item : (v : Option Contents) → OptionBelow objects v → ValueBelow objects (unwrap_or v (tuple no_parts))
  moved_item None so = tt
  moved_item (Some v) so = so

  module _ (scopes : ℕ) where
    -- all that an effect names is below the counts
    pub record EffectBelow (e : Effect) : Type 0 where
      pub accesses : AccessesBelow objects scopes (accesses_in e.touches)
      pub made : KindBelow objects e.made
      pub outcome : OutcomeBelow e.outcome

    read_first : (l : SeenLocation) {e : Effect} → LocationBelow objects scopes l → EffectBelow e → EffectBelow (touching (accessed (reads l)) e)
    read_first l here rest = record { accesses = (here, rest.accesses); made = rest.made; outcome = rest.outcome }

    module _ (some : 0 < objects) (any : 0 < scopes) (store : RunStore) (is : StoreBelow store) where
      abbrev r : Renaming
      r = moving objects scopes some any

      -- an object that is made has a number below the count
      abbrev pub Fits : Option SeenKind → Type 0
      Fits None = ⊤
      Fits (Some kind) = length store.kinds < objects

      made_is : (made : Option SeenKind) (all : Writes) → (written store made all).made ≡ made
      made_is made (write l content rest) = made_is made rest
      made_is made (change l how rest) = made_is made rest
      made_is made (move o from to rest) = made_is made rest
      made_is made (opens path rest) = made_is made rest
      made_is made (notes place name rest) = made_is made rest
      made_is made (done answer) = refl
      made_is made done_at_end = refl

      written_below : (made : Option SeenKind) {all every : Writes} → KindBelow objects made → AlikeWrites r all every → all ≡ every → EffectBelow (written store made all)
      written_below made of (both_write {l = l} {m = m} {c = c} {d = d} {rest = rest} {more = more} at content next) same =
          let rest_below : EffectBelow (written store made rest) = written_below made of next cc in
          record { accesses = ((location_below objects scopes some any l cc, content_below objects scopes some any c cc), rest_below.accesses); made = rest_below.made; outcome = rest_below.outcome }
      written_below made of (both_change {l = l} {m = m} {c = c} {d = d} {rest = rest} at how next) same =
          let rest_below : EffectBelow (written store made rest) = written_below made of next cc in
          record { accesses = ((location_below objects scopes some any l cc, change_below objects scopes some any c cc), rest_below.accesses); made = rest_below.made; outcome = rest_below.outcome }
      written_below made of (both_move {o = o} {from = from} {to = to} {rest = rest} next) same =
          let rest_below : EffectBelow (written store made rest) = written_below made of next cc in
          let small : o < objects = below objects o cc in
          record { accesses = (small, ((small, moved_item (item_of store o from) (item_read store is o from)), rest_below.accesses)); made = rest_below.made; outcome = rest_below.outcome }
      written_below made of (both_open {rest = rest} next) same =
          let rest_below : EffectBelow (written store made rest) = written_below made of next cc in record { accesses = rest_below.accesses; made = rest_below.made; outcome = rest_below.outcome }
      written_below made of (both_note {rest = rest} next) same =
          let rest_below : EffectBelow (written store made rest) = written_below made of next cc in record { accesses = rest_below.accesses; made = rest_below.made; outcome = rest_below.outcome }
      written_below made of (both_done {v = v} answer) same = record { accesses = tt; made = of; outcome = value_below objects scopes some any v cc }
      written_below made of both_done_at_end same = record { accesses = tt; made = of; outcome = tt }

      module _ (answers : Answers) where
        abbrev Named : Plan → Type 0
        Named p = Fits (effect store answers p).made → EffectBelow (effect store answers p)

        pub named : {p q : Plan} → Alike r p q → p ≡ q → Named p
        named (both_read_var {scope = scope} {name = name} {go = go} {gone = gone} each) same fits =
            let go_is : go ≡ gone = cc in
            read_first (var_at scope name) (scope_below objects scopes some any scope cc)
            (named (each (var_of store scope name)) (ap (λ f. f (var_of store scope name)) go_is ∙ ap gone (sym (option_stays objects scopes some any (var_of store scope name) (var_read store is scope name)))) fits)
        named (both_read_len {o = o} {go = go} {gone = gone} each) same fits =
            let go_is : go ≡ gone = cc in read_first (len_at o) (below objects o cc) (named (each (len_of store o)) (ap (λ f. f (len_of store o)) go_is) fits)
        named (both_read_item {o = o} {i = i} {go = go} {gone = gone} each) same fits =
            let go_is : go ≡ gone = cc in
            read_first (item_at o i) (below objects o cc)
            (named (each (item_of store o i)) (ap (λ f. f (item_of store o i)) go_is ∙ ap gone (sym (option_stays objects scopes some any (item_of store o i) (item_read store is o i)))) fits)
        named (both_read_entry {o = o} {key = key} {go = go} {gone = gone} each) same fits =
            let go_is : go ≡ gone = cc in
            read_first (entry_at o (normal key)) (below objects o cc, normal_below objects key (value_below objects scopes some any key cc))
            (named (each (entry_of store o key)) (ap (λ f. f (entry_of store o key)) go_is ∙ ap gone (sym (entry_stays objects scopes some any (entry_of store o key) (entry_read store is o key)))) fits)
        named (both_read_order {o = o} {go = go} {gone = gone} each) same fits =
            let go_is : go ≡ gone = cc in
            read_first (order_at o) (below objects o cc)
            (named (each (order_of store o)) (ap (λ f. f (order_of store o)) go_is ∙ ap gone (sym (list_stays objects scopes some any (order_of store o) (order_read store is o)))) fits)
        named (both_read_file {path = path} {go = go} {gone = gone} each) same fits =
            let go_is : go ≡ gone = cc in read_first (file_at path) tt (named (each (file_of store path)) (ap (λ f. f (file_of store path)) go_is) fits)
        named (both_read_offset {o = o} {go = go} {gone = gone} each) same fits =
            let go_is : go ≡ gone = cc in read_first (offset_at o) (below objects o cc) (named (each (offset_of store o)) (ap (λ f. f (offset_of store o)) go_is) fits)
        named (both_read_closed {o = o} {go = go} {gone = gone} each) same fits =
            let go_is : go ≡ gone = cc in read_first (closed_at o) (below objects o cc) (named (each (closed_of store o)) (ap (λ f. f (closed_of store o)) go_is) fits)
        named (both_read_method {place = place} {name = name} {go = go} {gone = gone} each) same fits =
            let go_is : go ≡ gone = cc in read_first (method_at place name) tt (named (each (method_of store place name)) (ap (λ f. f (method_of store place name)) go_is) fits)
        named (both_read_base {place = place} {go = go} {gone = gone} each) same fits =
            let go_is : go ≡ gone = cc in
            read_first (base_at place) tt
            (named (each (base_of store place)) (ap (λ f. f (base_of store place)) go_is ∙ ap gone (sym (option_stays objects scopes some any (base_of store place) (base_read store is place)))) fits)
        named (both_kind {o = o} {go = go} {gone = gone} each) same fits =
            let go_is : go ≡ gone = cc in
            named (each (slice_get store.kinds o)) (ap (λ f. f (slice_get store.kinds o)) go_is ∙ ap gone (sym (kind_stays objects scopes some any (slice_get store.kinds o) (is.kinds o)))) fits
        named (both_name {place = place} {go = go} {gone = gone} each) same fits =
            let go_is : go ≡ gone = cc in named (each (store.names place)) (ap (λ f. f (store.names place)) go_is) fits
        named (both_was_opened {path = path} {go = go} {gone = gone} each) same fits =
            let go_is : go ≡ gone = cc in named (each (has_path path store.opened)) (ap (λ f. f (has_path path store.opened)) go_is) fits
        named (both_ask {what = what} {go = go} {gone = gone} each) same fits = by_given (answers.given what) (λ given. named (each given) (ap (λ f. f given) go_is)) fits
          where
            go_is : go ≡ gone
            go_is = cc

            by_given : (given : Option Given) → ((v : Given) → Named (go v)) → Fits (touching (asked what) (elim given [ None ↦ lacking store | Some v ↦ effect store answers (go v) ])).made
                → EffectBelow (touching (asked what) (elim given [ None ↦ lacking store | Some v ↦ effect store answers (go v) ]))
            by_given None all fits = record { accesses = tt; made = tt; outcome = tt }
            by_given (Some v) all fits = let rest : EffectBelow (effect store answers (go v)) = all v fits in record { accesses = rest.accesses; made = rest.made; outcome = rest.outcome }
        named (both_fetch {path = path} {go = go} {gone = gone} each) same fits = by_found (answers.found path) (λ found. named (each found) (ap (λ f. f found) go_is)) fits
          where
            go_is : go ≡ gone
            go_is = cc

            by_found : (found : Option Found) → ((v : Found) → Named (go v)) → Fits (touching (fetched path) (elim found [ None ↦ lacking store | Some v ↦ effect store answers (go v) ])).made
                → EffectBelow (touching (fetched path) (elim found [ None ↦ lacking store | Some v ↦ effect store answers (go v) ]))
            by_found None all fits = record { accesses = tt; made = tt; outcome = tt }
            by_found (Some v) all fits = let rest : EffectBelow (effect store answers (go v)) = all v fits in record { accesses = rest.accesses; made = rest.made; outcome = rest.outcome }
        named (both_look {p = p} many next) same fits =
            let rest : EffectBelow (effect store answers p) = named next (cc) fits in record { accesses = rest.accesses; made = rest.made; outcome = rest.outcome }
        named (both_count {p = p} many next) same fits =
            let rest : EffectBelow (effect store answers p) = named next (cc) fits in record { accesses = rest.accesses; made = rest.made; outcome = rest.outcome }
        named (both_print {p = p} next) same fits =
            let rest : EffectBelow (effect store answers p) = named next (cc) fits in record { accesses = rest.accesses; made = rest.made; outcome = rest.outcome }
        named (both_writes next) same fits = written_below None tt next cc
        named (both_make {kind = kind} {like = like} {all = all} {every = every} of each) same fits =
            let all_is : all ≡ every = cc in
            let small : length store.kinds < objects = subst Fits (made_is (Some kind) (all (length store.kinds))) fits in
            written_below (Some kind) (kind_below objects scopes some any kind cc) (each (length store.kinds))
            (ap (λ f. f (length store.kinds)) all_is ∙ ap every (sym (stays objects (length store.kinds) small)))
        named (both_raise {of = of} {to = to} {items = items} {more = more} class_is items_are) same fits =
            let of_below : ValueBelow objects of = value_below objects scopes some any of cc in
            let items_below : AllBelow objects items = all_below objects scopes some any items cc in
            record { accesses = ((fits, (tt, tt)), (((fits, tt), (tt, tuple_below objects items items_below)), tt)); made = of_below; outcome = fits }
        named (both_again {o = o}) same fits = record { accesses = tt; made = tt; outcome = below objects o cc }
        named both_end same fits = record { accesses = tt; made = tt; outcome = tt }
        named both_run_away same fits = record { accesses = tt; made = tt; outcome = tt }
