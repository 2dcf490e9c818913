-- Which names an operation reads and sets: one that has no activation those of the module alone, and the four that have one their own. No operation is taken apart:
-- the plan of one without an activation is alike to itself where all activations but the module's are renamed.
use Rattle.std.proofs.Common.{◌≡◌, ℕ, zero, suc, Bool, true, false, if◌then◌else◌, List, [], ◌∷◌, length, slice_get, Option, Some, None, option_map, refl, sym, ap, ap₂, subst, ◌∙◌, arith}
use Rattle.std.specs.Prelude.{⊤, nat_lt, ◌-◌}
use Rattle.std.proofs.lemmas.Bool.{false≢true}
use Rattle.py_value.specs.Contents.{Contents, Parts, nothing, truth, int, text, tuple, range, function, class, exception_class, builtin, object, no_parts, part}
use Rattle.py_value.specs.Seen.{SeenLocation, SeenAccess, SeenKind, a_list, a_dict, an_instance, a_file, var_at}
use Rattle.py_model.specs.Agreement.{AlikeWrites, both_write, both_change, both_move, both_open, both_note, both_done, both_done_at_end, Alike, both_read_var, both_read_len, both_read_item, both_read_entry, both_read_order, both_read_file, both_read_offset, both_read_closed, both_read_method, both_read_base, both_kind, both_name, both_was_opened, both_ask, both_fetch, both_look, both_count, both_print, both_writes, both_make, both_raise, both_again, both_end, both_run_away}
use Rattle.py_model.specs.AlikeOperations.{renamed_op}
use Rattle.py_model.specs.Effect.{Answers, Effect, effect, written, accesses_in, lacking}
use Rattle.py_model.specs.Names.{load, load_unset, bind, unbind, unset, unset_name, known}
use Rattle.py_model.specs.Classes.{import_module}
use Rattle.py_model.specs.Operations.{Op, plan, or_no_operation, or_none, language, functions, methods, is_silent}
use Rattle.py_model.specs.Plan.{Given, Found, Writes, done, Plan, writes}
use Rattle.py_model.specs.Renaming.{Renaming, renamed, renamed_parts, renamed_option, renamed_list, renamed_entry, renamed_location, renamed_kind}
use Rattle.py_model.specs.Store.{RunStore, var_of, len_of, item_of, entry_of, order_of, file_of, offset_of, closed_of, method_of, base_of, has_path}
use Rattle.slice_simulation.specs.BoundNames.{location_of, is_write}

-- something holds of each access to a name: of its scope, its name and whether it sets
abbrev pub AllNamed : (ℕ → List ℕ → Bool → Type 0) → List SeenAccess → Type 0
AllNamed Q [] = ⊤
AllNamed Q (access ∷ accesses) = ((scope : ℕ) (name : List ℕ) → location_of access ≡ var_at scope name → Q scope name (is_write access)) × AllNamed Q accesses

-- of the module alone
abbrev pub OfModule : ℕ → List ℕ → Bool → Type 0
OfModule scope name written = scope ≡ 0

module _ (r : Renaming) (fixed : (o : ℕ) → r.objects o ≡ o) (moved : (scope : ℕ) → r.scopes scope ≡ scope → scope ≡ 0) where
  mutual
    value_stays : (v : Contents) → renamed r v ≡ v
    value_stays (object o) = ap object (fixed o)
    value_stays (tuple parts) = ap tuple (parts_stay parts)
    value_stays nothing = refl
    value_stays (truth b) = refl
    value_stays (int i) = refl
    value_stays (text bytes) = refl
    value_stays (range start end step) = refl
    value_stays (function place) = refl
    value_stays (class place) = refl
    value_stays (exception_class number) = refl
    value_stays (builtin number) = refl

    parts_stay : (parts : Parts) → renamed_parts r parts ≡ parts
    parts_stay no_parts = refl
    parts_stay (part first rest) = ap₂ part (value_stays first) (parts_stay rest)

  option_stays : (v : Option Contents) → renamed_option r v ≡ v
  option_stays None = refl
  option_stays (Some v) = ap Some (value_stays v)

  list_stays : (vs : List Contents) → renamed_list r vs ≡ vs
  list_stays [] = refl
  list_stays (v ∷ vs) = ap₂ (λ (w : Contents) (ws : List Contents). w ∷ ws) (value_stays v) (list_stays vs)

  entry_stays : (entry : Option (Contents × Contents)) → renamed_entry r entry ≡ entry
  entry_stays None = refl
  entry_stays (Some entry) = ap₂ (λ (v w : Contents). Some (v, w)) (value_stays entry.0) (value_stays entry.1)

  kind_stays : (kind : Option SeenKind) → option_map (renamed_kind r) kind ≡ kind
  kind_stays None = refl
  kind_stays (Some a_list) = refl
  kind_stays (Some a_dict) = refl
  kind_stays (Some (an_instance of)) = ap (λ v. Some (an_instance v)) (value_stays of)
  kind_stays (Some (a_file path mode)) = refl

  scope_stays : (scope : ℕ) (name : List ℕ) (l : SeenLocation) → renamed_location r l ≡ l → l ≡ var_at scope name → scope ≡ 0
  scope_stays scope name l same is = moved scope (one_scope (ap (renamed_location r) (sym is) ∙ (same ∙ is)))
    where
      one_scope : var_at (r.scopes scope) name ≡ var_at scope name → r.scopes scope ≡ scope
      one_scope is = cc

  module _ (store : RunStore) where
    writes_module : (made : Option SeenKind) {all every : Writes} → AlikeWrites r all every → every ≡ all → AllNamed OfModule (accesses_in (written store made all).touches)
    writes_module made (both_write {l} {m} {c} {d} {rest} {more} at content others) is =
        let same : m ≡ l = cc in
        let others_same : more ≡ rest = cc in
        ((λ scope name place. scope_stays scope name l (sym at ∙ same) place), writes_module made others others_same)
    writes_module made (both_change {l} {m} {c} {d} {rest} {more} at content others) is =
        let same : m ≡ l = cc in
        let others_same : more ≡ rest = cc in
        ((λ scope name place. scope_stays scope name l (sym at ∙ same) place), writes_module made others others_same)
    writes_module made (both_move {o} {from} {to} {rest} {more} others) is =
        let others_same : more ≡ rest = cc in
        ((λ scope name place. absurd cc), ((λ scope name place. absurd cc), writes_module made others others_same))
    writes_module made (both_open {path} {rest} {more} others) is = let others_same : more ≡ rest = cc in writes_module made others others_same
    writes_module made (both_note {place} {name} {rest} {more} others) is = let others_same : more ≡ rest = cc in writes_module made others others_same
    writes_module made (both_done is_value) is = tt
    writes_module made both_done_at_end is = tt

    module _ (answers : Answers) where
      plan_module : {p q : Plan} → Alike r p q → q ≡ p → AllNamed OfModule (accesses_in (effect store answers p).touches)
      plan_module (both_read_var {scope} {name} {go} {gone} each) is =
          let kept : r.scopes scope ≡ scope = cc in
          let same : gone ≡ go = cc in
          let v : Option Contents = var_of store scope name in
          ((λ scope_there name_there place. of_scope scope_there name_there (moved scope kept) place), plan_module (each v) (ap (λ g. g (renamed_option r v)) same ∙ ap go (option_stays v)))
        where
          of_scope : (scope_there : ℕ) (name_there : List ℕ) → scope ≡ 0 → var_at scope name ≡ var_at scope_there name_there → scope_there ≡ 0
          of_scope scope_there name_there zero_is place = cc
      plan_module (both_read_len {o} {go} {gone} each) is = let same : gone ≡ go = cc in ((λ scope name place. absurd cc), plan_module (each (len_of store o)) (ap (λ g. g (len_of store o)) same))
      plan_module (both_read_item {o} {i} {go} {gone} each) is =
          let same : gone ≡ go = cc in
          let v : Option Contents = item_of store o i in
          ((λ scope name place. absurd cc), plan_module (each v) (ap (λ g. g (renamed_option r v)) same ∙ ap go (option_stays v)))
      plan_module (both_read_entry {o} {key} {go} {gone} each) is =
          let same : gone ≡ go = cc in
          let e : Option (Contents × Contents) = entry_of store o key in
          ((λ scope name place. absurd cc), plan_module (each e) (ap (λ g. g (renamed_entry r e)) same ∙ ap go (entry_stays e)))
      plan_module (both_read_order {o} {go} {gone} each) is =
          let same : gone ≡ go = cc in
          let keys : List Contents = order_of store o in
          ((λ scope name place. absurd cc), plan_module (each keys) (ap (λ g. g (renamed_list r keys)) same ∙ ap go (list_stays keys)))
      plan_module (both_read_file {path} {go} {gone} each) is = let same : gone ≡ go = cc in ((λ scope name place. absurd cc), plan_module (each (file_of store path)) (ap (λ g. g (file_of store path)) same))
      plan_module (both_read_offset {o} {go} {gone} each) is = let same : gone ≡ go = cc in ((λ scope name place. absurd cc), plan_module (each (offset_of store o)) (ap (λ g. g (offset_of store o)) same))
      plan_module (both_read_closed {o} {go} {gone} each) is = let same : gone ≡ go = cc in ((λ scope name place. absurd cc), plan_module (each (closed_of store o)) (ap (λ g. g (closed_of store o)) same))
      plan_module (both_read_method {place} {name} {go} {gone} each) is =
          let same : gone ≡ go = cc in ((λ scope name_there there. absurd cc), plan_module (each (method_of store place name)) (ap (λ g. g (method_of store place name)) same))
      plan_module (both_read_base {place} {go} {gone} each) is =
          let same : gone ≡ go = cc in
          let v : Option Contents = base_of store place in
          ((λ scope name there. absurd cc), plan_module (each v) (ap (λ g. g (renamed_option r v)) same ∙ ap go (option_stays v)))
      plan_module (both_kind {o} {go} {gone} each) is =
          let same : gone ≡ go = cc in
          let kind : Option SeenKind = slice_get store.kinds o in
          plan_module (each kind) (ap (λ g. g (option_map (renamed_kind r) kind)) same ∙ ap go (kind_stays kind))
      plan_module (both_name {place} {go} {gone} each) is = let same : gone ≡ go = cc in plan_module (each (store.names place)) (ap (λ g. g (store.names place)) same)
      plan_module (both_was_opened {path} {go} {gone} each) is =
          let same : gone ≡ go = cc in plan_module (each (has_path path store.opened)) (ap (λ g. g (has_path path store.opened)) same)
      plan_module (both_ask {what} {go} {gone} each) is = let same : gone ≡ go = cc in by_given (answers.given what) (λ given. plan_module (each given) (ap (λ g. g given) same))
        where
          by_given : (given : Option Given) → ((given : Given) → AllNamed OfModule (accesses_in (effect store answers (go given)).touches))
              → AllNamed OfModule (accesses_in (elim given as (λ g. Effect) [ None ↦ lacking store | Some given ↦ effect store answers (go given) ]).touches)
          by_given None on = tt
          by_given (Some given) on = on given
      plan_module (both_fetch {path} {go} {gone} each) is = let same : gone ≡ go = cc in by_found (answers.found path) (λ found. plan_module (each found) (ap (λ g. g found) same))
        where
          by_found : (found : Option Found) → ((found : Found) → AllNamed OfModule (accesses_in (effect store answers (go found)).touches))
              → AllNamed OfModule (accesses_in (elim found as (λ g. Effect) [ None ↦ lacking store | Some found ↦ effect store answers (go found) ]).touches)
          by_found None on = tt
          by_found (Some found) on = on found
      plan_module (both_look {m} {n} {p} {q} more rest) is = let same : q ≡ p = cc in plan_module rest same
      plan_module (both_count {m} {n} {p} {q} more rest) is = let same : q ≡ p = cc in plan_module rest same
      plan_module (both_print {bytes} {p} {q} rest) is = let same : q ≡ p = cc in plan_module rest same
      plan_module (both_writes {all} {every} same) is = let all_same : every ≡ all = cc in writes_module None same all_same
      plan_module (both_make {kind} {like} {all} {every} kinds each) is =
          let same : every ≡ all = cc in
          writes_module (Some kind) (each (length store.kinds)) (ap (λ g. g (r.objects (length store.kinds))) same ∙ ap all (fixed (length store.kinds)))
      plan_module (both_raise of items) is = ((λ scope name place. absurd cc), ((λ scope name place. absurd cc), tt))
      plan_module both_again is = tt
      plan_module both_end is = tt
      plan_module both_run_away is = tt

-- all activations but the module's are moved by one
abbrev beside_module : ℕ → ℕ
beside_module zero = zero
beside_module (suc a) = suc (suc a)

one_beside : (m n : ℕ) → beside_module m ≡ beside_module n → m ≡ n
one_beside zero zero is = refl
one_beside zero (suc n) is = absurd (omega (arith, is))
one_beside (suc m) zero is = absurd (omega (arith, is))
one_beside (suc m) (suc n) is = omega (arith, is)

moved_beside : (scope : ℕ) → beside_module scope ≡ scope → scope ≡ 0
moved_beside zero is = refl
moved_beside (suc a) is = absurd (omega (arith, is))

abbrev beside : Renaming
beside = record { objects = λ o. o; scopes = beside_module; one_object = λ m n is. is; one_scope = one_beside; module_stays = refl; arguments_stay = refl }

module _ (alike : (r : Renaming) (p : Op) (vs : List Contents) → Alike r (plan p vs) (plan (renamed_op r p) (renamed_list r vs))) (store : RunStore) (answers : Answers) where
  -- an operation without an activation
  pub module_named : (p : Op) (vs : List Contents) → p.scope ≡ 0 → AllNamed OfModule (accesses_in (effect store answers (plan p vs)).touches)
  module_named p vs is =
      plan_module beside (λ o. refl) moved_beside store answers (alike beside p vs) (ap₂ (λ (q : Op) (ws : List Contents). plan q ws) same_op (list_stays beside (λ o. refl) moved_beside vs))
    where
      scope_same : beside_module p.scope ≡ p.scope
      scope_same = ap beside_module is ∙ sym is

      same_op : renamed_op beside p ≡ p
      same_op = ap₂ (λ (scope : ℕ) (v : Contents). record { no = p.no; scope = scope; name = p.name; value = v }) scope_same (value_stays beside (λ o. refl) moved_beside p.value)

-- of one name, which is set where something holds
abbrev pub OfName : ℕ → List ℕ → Type 0 → ℕ → List ℕ → Bool → Type 0
OfName scope name B scope_there name_there written = (scope_there ≡ scope) × (name_there ≡ name) × (written ≡ true → B)

-- an operation of an activation: it loads a name, binds it, unsets it or imports it
pub data IsScoped (B : Type 0) (p : Op) (vs : List Contents) : Type 0 where
  loads : p.no ≡ 1 → vs ≡ [] → IsScoped B p vs
  binds_it : (v : Contents) → p.no ≡ 33 → vs ≡ v ∷ [] → B → IsScoped B p vs
  unsets : p.no ≡ 34 → vs ≡ [] → B → IsScoped B p vs
  imports : p.no ≡ 44 → vs ≡ [] → B → IsScoped B p vs

module _ (store : RunStore) (answers : Answers) (B : Type 0) (scope : ℕ) (name : List ℕ) where
  abbrev Named : Plan → Type 0
  Named p = AllNamed (OfName scope name B) (accesses_in (effect store answers p).touches)

  reads_own : (scope_there : ℕ) (name_there : List ℕ) → var_at scope name ≡ var_at scope_there name_there → OfName scope name B scope_there name_there false
  reads_own scope_there name_there is = (cc, cc, λ written. absurd (false≢true written))

  sets_own : B → (scope_there : ℕ) (name_there : List ℕ) → var_at scope name ≡ var_at scope_there name_there → OfName scope name B scope_there name_there true
  sets_own bound scope_there name_there is = (cc, cc, λ written. bound)

  unset_name_named : (at : ℕ) → Named (unset_name at name)
  unset_name_named zero = ((λ scope name place. absurd cc), ((λ scope name place. absurd cc), tt))
  unset_name_named (suc at) = ((λ scope name place. absurd cc), ((λ scope name place. absurd cc), tt))

  load_unset_named : (at : ℕ) → Named (load_unset at name)
  load_unset_named zero = by_known (known name)
    where
      by_known : (v : Option Contents) → Named (elim v as (λ w. Plan) [ None ↦ unset_name zero name | Some w ↦ writes (done w) ])
      by_known None = unset_name_named zero
      by_known (Some v) = tt
  load_unset_named (suc at) = unset_name_named (suc at)

  load_named : Named (load scope name)
  load_named = (reads_own, by_option (var_of store scope name))
    where
      by_option : (v : Option Contents) → Named (elim v as (λ w. Plan) [ None ↦ load_unset scope name | Some w ↦ writes (done w) ])
      by_option None = load_unset_named scope
      by_option (Some v) = tt

  bind_named : B → (v : Contents) → Named (bind scope name v)
  bind_named bound v = (sets_own bound, tt)

  unbind_named : B → (silent : Bool) → Named (unbind silent scope name)
  unbind_named bound true = (reads_own, (sets_own bound, tt))
  unbind_named bound false = (reads_own, by_option (var_of store scope name))
    where
      by_option : (v : Option Contents) → Named (elim v as (λ w. Plan) [ None ↦ unset_name scope name | Some w ↦ unset scope name ])
      by_option None = unset_name_named scope
      by_option (Some v) = (sets_own bound, tt)

  import_named : B → (v : Contents) → Named (import_module scope name v)
  import_named bound v = (sets_own bound, tt)

plan_by : (p : Op) (vs : List Contents) (number : ℕ) → p.no ≡ number
    → plan p vs ≡ (if nat_lt number 50 then or_no_operation (slice_get language number) p vs
    else if nat_lt number 80 then or_none (slice_get functions (number - 50)) vs else or_none (slice_get methods (number - 80)) vs)
plan_by p vs number is = ap (λ (no : ℕ). if nat_lt no 50 then or_no_operation (slice_get language no) p vs
    else if nat_lt no 80 then or_none (slice_get functions (no - 50)) vs else or_none (slice_get methods (no - 80)) vs) is

-- an operation of an activation
pub scoped_named : (store : RunStore) (answers : Answers) (B : Type 0) (p : Op) (vs : List Contents) → IsScoped B p vs → AllNamed (OfName p.scope p.name B) (accesses_in (effect store answers (plan p vs)).touches)
scoped_named store answers B p vs (loads number none) =
    subst (Named store answers B p.scope p.name) (sym (ap (plan p) none ∙ plan_by p [] 1 number)) (load_named store answers B p.scope p.name)
scoped_named store answers B p vs (binds_it v number one bound) =
    subst (Named store answers B p.scope p.name) (sym (ap (plan p) one ∙ plan_by p (v ∷ []) 33 number)) (bind_named store answers B p.scope p.name bound v)
scoped_named store answers B p vs (unsets number none bound) =
    subst (Named store answers B p.scope p.name) (sym (ap (plan p) none ∙ plan_by p [] 34 number)) (unbind_named store answers B p.scope p.name bound (is_silent p.value))
scoped_named store answers B p vs (imports number none bound) =
    subst (Named store answers B p.scope p.name) (sym (ap (plan p) none ∙ plan_by p [] 44 number)) (import_named store answers B p.scope p.name bound p.value)
