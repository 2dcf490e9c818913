-- In every run all functions and classes stand where the script defines them.
use Rattle.std.proofs.Common.{◌≡◌, ℕ, zero, suc, ◌+◌, Bool, true, false, ◌||◌, if◌then◌else◌, List, [], ◌∷◌, length, nat_le, slice_get, Option, Some, None, inl, inr, refl, sym, ap, subst, rules}
use Rattle.std.specs.Prelude.{codes}
use Rattle.std.specs.List.{list_any}
use Rattle.prov_base.specs.declared.place.Pos.{Pos}
use Rattle.prov_base.specs.contracts.place.PosPartialEq.TheImpl.{ghosts as places}
use Rattle.py_tree.specs.Tree.{ScriptTree}
use Rattle.py_value.specs.Changes.{after_accesses}
use Rattle.py_value.specs.Contents.{Contents, text}
use Rattle.py_value.specs.Same.{put}
use Rattle.py_value.specs.Seen.{SeenLocation, SeenContent, SeenAccess, a_list, var_at, len_at, item_at, entry_at, order_at, file_at, offset_at, closed_at, method_at, base_at, var_is, len_is, item_is, file_is, reads, sets, updates}
use Rattle.py_model.specs.Act.{Act, Walked}
use Rattle.py_model.specs.Capture.{Capture, with_bytes, answers_at}
use Rattle.py_model.specs.Effect.{Touch, accessed, looked, counted, printed, opened, noted, asked, fetched, Outcome, answered, unanswered, unpaid, Effect, accesses_in, after, cost}
use Rattle.py_model.specs.Meaning.{level, meaning, at_start, starting}
use Rattle.py_model.specs.Moment.{parameters_set}
use Rattle.py_model.specs.Operations.{Op, plan}
use Rattle.py_model.specs.Plan.{Answer}
use Rattle.py_model.specs.Running.{State, spent, lacking, state_in, Happened, did, too_dear, lacked, note, method_found, walked, performed, happened, effect_of, operation, outcome, beginning, entering, askings_at}
use Rattle.py_model.specs.Store.{RunStore, method_of, opening, with_items, with_files, unset}
use Rattle.model_laws.proofs.Every.{every_sound}
use Rattle.model_laws.proofs.Rules.{IsAmong, AllPlaces, suite_k, levels_k, found_known}
use Rattle.model_laws.proofs.Stores.{put_known, method_read, store_stays_known, answer_is_known}
use Rattle.model_laws.specs.Knows.{Knows, kn_ret, kn_stop, kn_perform, kn_begin, kn_close, kn_enter, kn_leave}
use Rattle.model_laws.specs.Defined.{defined_suite, defines}
use Rattle.model_laws.specs.Flow.{KnownAll, KnownKind, KnownPlace, KnownFound, KnownStore, KnownAnswer, KnownOutcome}

same_place : (place : Pos) → places.eq place place ≡ true
same_place place = search rules

among_any : (list : List Pos) (place : Pos) → IsAmong list place → list_any (λ at. places.eq at place) list ≡ true
among_any [] place there = absurd there
among_any (first ∷ rest) place (inl is) = ap (λ test. test || list_any (λ at. places.eq at place) rest) (subst (λ at. places.eq at place ≡ true) (sym is) (same_place place))
among_any (first ∷ rest) place (inr there) = by_test (places.eq first place) (among_any rest place there)
  where
    by_test : (test : Bool) → list_any (λ at. places.eq at place) rest ≡ true → (test || list_any (λ at. places.eq at place) rest) ≡ true
    by_test true later = refl
    by_test false later = later

note_store : (at : Pos) (k : ℕ) (touches : List Touch) (s : State) → (note at k touches s).store ≡ s.store
note_store at k [] s = refl
note_store at k (accessed access ∷ touches) s = note_store at k touches s
note_store at k (looked n ∷ touches) s = note_store at k touches s
note_store at k (counted n ∷ touches) s = note_store at k touches s
note_store at k (printed bytes ∷ touches) s = note_store at k touches s
note_store at k (opened path ∷ touches) s = note_store at k touches s
note_store at k (noted place name ∷ touches) s = note_store at k touches s
note_store at k (asked what ∷ touches) s = note_store at k touches (record s { askings = record { at = at; k = k; what = what } ∷ s.askings })
note_store at k (fetched path ∷ touches) s = note_store at k touches (record s { fetches = path ∷ s.fetches })

module _ (known : Pos → Bool) where
  method_known : (store : RunStore) → KnownStore known store → (accesses : List SeenAccess) (found : Option Pos) → KnownPlace known found → KnownPlace known (method_found store accesses found)
  method_known store is [] found so = so
  method_known store is (sets l content ∷ accesses) found so = method_known store is accesses found so
  method_known store is (updates l how ∷ accesses) found so = method_known store is accesses found so
  method_known store is (reads (method_at place name) ∷ accesses) found so = method_known store is accesses (method_of store place name) (method_read known store is place name)
  method_known store is (reads (var_at scope name) ∷ accesses) found so = method_known store is accesses found so
  method_known store is (reads (len_at o) ∷ accesses) found so = method_known store is accesses found so
  method_known store is (reads (item_at o i) ∷ accesses) found so = method_known store is accesses found so
  method_known store is (reads (entry_at o key) ∷ accesses) found so = method_known store is accesses found so
  method_known store is (reads (order_at o) ∷ accesses) found so = method_known store is accesses found so
  method_known store is (reads (file_at path) ∷ accesses) found so = method_known store is accesses found so
  method_known store is (reads (offset_at o) ∷ accesses) found so = method_known store is accesses found so
  method_known store is (reads (closed_at o) ∷ accesses) found so = method_known store is accesses found so
  method_known store is (reads (base_at place) ∷ accesses) found so = method_known store is accesses found so

  -- what an operation comes to
  abbrev HappensKnown : Happened → Type 0
  HappensKnown (did answer came u) = KnownAnswer known answer × KnownPlace known came.method × KnownStore known u.store
  HappensKnown (too_dear u) = KnownStore known u.store
  HappensKnown (lacked u) = KnownStore known u.store

  happens_known : (at : Pos) (p : Op) (vs : List Contents) (e : Effect) (o : Outcome) (u : State) → KnownOutcome known o → KnownStore known u.store → KnownStore known (after e u.store) → HappensKnown (happened at p vs e o u)
  happens_known at p vs e (answered answer) u so is later = by_cost (nat_le (cost e) u.left)
    where
      by_cost : (enough : Bool) → HappensKnown (if enough then did answer (walked u.store (accesses_in e.touches)) (performed at p vs answer e u) else too_dear u)
      by_cost true = (so, method_known u.store is (accesses_in e.touches) None tt, later)
      by_cost false = is
  happens_known at p vs e unanswered u so is later = is
  happens_known at p vs e unpaid u so is later = is

  module _ (capture : Capture) where
    operation_known : (at : Pos) (p : Op) (vs : List Contents) (s : State) → KnownOutcome known (effect_of capture at p vs s).outcome → KnownStore known s.store → KnownStore known (after (effect_of capture at p vs s) s.store)
        → HappensKnown (operation capture at p vs s)
    operation_known at p vs s so is later = by_left (nat_le 1 s.left)
      where
        same : (note at (suc (askings_at at s.askings)) (effect_of capture at p vs s).touches s).store ≡ s.store
        same = note_store at (suc (askings_at at s.askings)) (effect_of capture at p vs s).touches s

        by_left : (enough : Bool) → HappensKnown (if enough
            then (let e = effect_of capture at p vs s in happened at p vs e e.outcome (note at (suc (askings_at at s.askings)) e.touches s))
            else too_dear s)
        by_left true =
            happens_known at p vs (effect_of capture at p vs s) (effect_of capture at p vs s).outcome (note at (suc (askings_at at s.askings)) (effect_of capture at p vs s).touches s) so
            (subst (KnownStore known) (sym same) is) (subst (λ store. KnownStore known (after (effect_of capture at p vs s) store)) (sym same) later)
        by_left false = is

    params_known : (a : ℕ) (params : List (List ℕ)) (vs : List Contents) (map : SeenLocation → Option SeenContent) → KnownAll known vs → ((l : SeenLocation) → KnownFound known (map l))
        → (l : SeenLocation) → KnownFound known (after_accesses (parameters_set a params vs) map l)
    params_known a [] vs map all is = is
    params_known a (name ∷ params) [] map all is = is
    params_known a (name ∷ params) (v ∷ vs) map all is =
        params_known a params vs (put (var_at a name) (var_is (Some v)) map) all.1 (put_known known (var_at a name) (var_is (Some v)) map all.0 is)

    pub run_known : {a : Act} → Knows known a → (s : State) → KnownStore known s.store → KnownStore known (state_in (outcome capture a s)).store
    run_known (kn_ret so) s is = is
    run_known kn_stop s is = is
    run_known (kn_perform {at = at} {p = p} {vs = vs} {f = f} one all next) s is =
        by_happened (operation capture at p vs s)
        (operation_known at p vs s (answer_is_known known s.store (answers_at capture at (suc (askings_at at s.askings))) (plan p vs) (every_sound known p vs one all) is) is
        (store_stays_known known s.store (answers_at capture at (suc (askings_at at s.askings))) (plan p vs) (every_sound known p vs one all) is))
        (λ answer came so place u known_now. run_known (next answer came so place) u known_now)
      where
        by_happened : (h : Happened) → HappensKnown h
            → ((answer : Answer) (came : Walked) → KnownAnswer known answer → KnownPlace known came.method → (u : State) → KnownStore known u.store → KnownStore known (state_in (outcome capture (f answer came) u)).store)
            → KnownStore known (state_in (elim h [ did answer came u ↦ outcome capture (f answer came) u | too_dear u ↦ spent u | lacked u ↦ lacking u ])).store
        by_happened (did answer came u) happens on = on answer came happens.0 happens.1 u happens.2
        by_happened (too_dear u) happens on = happens
        by_happened (lacked u) happens on = happens
    run_known (kn_begin {n = n} {a = a} rest) s is = by_left (nat_le 1 s.left) (run_known rest _ is)
      where
        by_left : (enough : Bool) → KnownStore known (state_in (outcome capture a (beginning n s))).store → KnownStore known (state_in (if enough then outcome capture a (beginning n s) else spent s)).store
        by_left true on = on
        by_left false on = is
    run_known (kn_close rest) s is = run_known rest _ is
    run_known (kn_enter {at = at} {def = def} {params = params} {vs = vs} {f = f} all next) s is =
        by_left (nat_le (suc (length vs)) s.left) (run_known (next (suc s.entered)) (entering at def params vs s) (record { at = params_known (suc s.entered) params vs s.store.at all is.at; kinds = is.kinds }))
      where
        by_left : (enough : Bool) → KnownStore known (state_in (outcome capture (f (suc s.entered)) (entering at def params vs s))).store
            → KnownStore known (state_in (if enough then outcome capture (f (suc s.entered)) (entering at def params vs s) else spent s)).store
        by_left true on = on
        by_left false on = is
    run_known (kn_leave rest) s is = run_known rest _ is

  -- a run begins with texts alone
  unset_known : (l : SeenLocation) → KnownFound known (unset l)
  unset_known (order_at o) = tt
  unset_known (var_at scope name) = tt
  unset_known (len_at o) = tt
  unset_known (item_at o i) = tt
  unset_known (entry_at o key) = tt
  unset_known (file_at path) = tt
  unset_known (offset_at o) = tt
  unset_known (closed_at o) = tt
  unset_known (method_at place name) = tt
  unset_known (base_at place) = tt

  files_known : (files : List (List ℕ × List ℕ)) (l : SeenLocation) → KnownFound known (with_files files unset l)
  files_known [] l = unset_known l
  files_known (file ∷ files) l = put_known known (file_at file.0) (file_is file.1) (with_files files unset) tt (files_known files) l

  items_known : (i : ℕ) (words : List (List ℕ)) (map : SeenLocation → Option SeenContent) → ((l : SeenLocation) → KnownFound known (map l)) → (l : SeenLocation) → KnownFound known (with_items 0 i words map l)
  items_known i [] map is = is
  items_known i (word ∷ words) map is = put_known known (item_at 0 i) (item_is (text word)) (with_items 0 (i + 1) words map) tt (items_known (i + 1) words map is)

  opening_known : (path : List ℕ) (arguments : List (List ℕ)) (files : List (List ℕ × List ℕ)) → KnownStore known (opening path arguments files)
  opening_known path arguments files = record {
    at = put_known known (var_at 0 (codes "__name__")) (var_is (Some (text (codes "__main__")))) (put (len_at 0) (len_is (length arguments + 1)) (with_items 0 0 (path ∷ arguments) (with_files files unset))) tt
        (put_known known (len_at 0) (len_is (length arguments + 1)) (with_items 0 0 (path ∷ arguments) (with_files files unset)) tt
        (items_known 0 (path ∷ arguments) (with_files files unset) (files_known files)));
    kinds = first_kind;
  }
    where
      first_kind : (o : ℕ) → KnownKind known (slice_get (a_list ∷ []) o)
      first_kind zero = tt
      first_kind (suc o) = tt

pub meaning_knows : (script : ScriptTree) (steps : ℕ) → Knows (defines script) (meaning script steps)
meaning_knows script steps =
    suite_k (defines script) script (found_known (defines script) script every) (level script (suc steps)) (levels_k (defines script) script (found_known (defines script) script every) (suc steps)) at_start tt script.body every
  where
    every : AllPlaces (defines script) (defined_suite script.body)
    every = record { each = λ place there. among_any (defined_suite script.body) place there }

pub run_defined : (script : ScriptTree) (capture : Capture) (path : List ℕ) (arguments : List (List ℕ)) (steps : ℕ)
    → KnownStore (defines script) (state_in (outcome capture (meaning script steps) (starting capture path arguments steps))).store
run_defined script capture path arguments steps =
    run_known (defines script) capture (meaning_knows script steps) (starting capture path arguments steps) (opening_known (defines script) path arguments (with_bytes capture.files))

pub methods_are_known : (known : Pos → Bool) (store : RunStore) (accesses : List SeenAccess) → KnownStore known store → KnownPlace known (method_found store accesses None)
methods_are_known known store accesses is = method_known known store is accesses None tt
