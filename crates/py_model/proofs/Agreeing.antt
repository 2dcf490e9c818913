-- Alike plans have corresponding effects in stores that agree on what they read and ask.
use Rattle.std.proofs.Common.{◌≡◌, ℕ, true, false, List, [], ◌∷◌, length, slice_get, Option, Some, None, option_map, refl, ap, ap₂, ◌∙◌, codes, unwrap_or}
use Rattle.prov_base.specs.declared.place.Pos.{Pos}
use Rattle.py_value.specs.Contents.{Contents, Parts, nothing, truth, int, text, tuple, range, function, class, exception_class, builtin, object, no_parts, part}
use Rattle.py_value.specs.KeyOf.{normal, normal_parts}
use Rattle.py_value.specs.Seen.{SeenContent, SeenKind, an_instance, var_at, len_at, item_at, entry_at, order_at, file_at, offset_at, closed_at, method_at, base_at, var_is, len_is, item_is, entry_is, order_is, file_is, offset_is, closed_is, method_is, base_is, reads, sets, updates}
use Rattle.py_model.specs.Agreement.{AlikeWrites, both_write, both_change, both_move, both_open, both_note, both_done, both_done_at_end, Alike, both_read_var, both_read_len, both_read_item, both_read_entry, both_read_order, both_read_file, both_read_offset, both_read_closed, both_read_method, both_read_base, both_kind, both_name, both_was_opened, both_ask, both_fetch, both_look, both_count, both_print, both_writes, both_make, both_raise, both_again, both_end, both_run_away, CorrespondsAt, WritesAgree, Agrees}
use Rattle.py_model.specs.Effect.{accessed, looked, counted, printed, opened, noted, asked, fetched, Effect, Answers, effect, written, lacking, touching, answered, parts_of}
use Rattle.py_model.specs.Plan.{raised, Given, Found, Writes, done, Plan}
use Rattle.py_model.specs.Renaming.{Renaming, renamed, renamed_parts, renamed_option, renamed_list, renamed_entry, renamed_location, renamed_content, renamed_change, renamed_kind, renamed_effect}
use Rattle.py_model.specs.Store.{RunStore, empty, var_of, len_of, item_of, entry_of, order_of, file_of, offset_of, closed_of, method_of, base_of, has_path}

-- the normal form of a renamed value
mutual
  pub normal_renamed : (r : Renaming) (v : Contents) → normal (renamed r v) ≡ renamed r (normal v)
  normal_renamed r (truth true) = refl
  normal_renamed r (truth false) = refl
  normal_renamed r (tuple parts) = ap tuple (normal_renamed_parts r parts)
  normal_renamed r nothing = refl
  normal_renamed r (int i) = refl
  normal_renamed r (text bytes) = refl
  normal_renamed r (range start end step) = refl
  normal_renamed r (function place) = refl
  normal_renamed r (class place) = refl
  normal_renamed r (exception_class number) = refl
  normal_renamed r (builtin number) = refl
  normal_renamed r (object o) = refl

  pub normal_renamed_parts : (r : Renaming) (ps : Parts) → normal_parts (renamed_parts r ps) ≡ renamed_parts r (normal_parts ps)
  normal_renamed_parts r no_parts = refl
  normal_renamed_parts r (part first rest) = ap₂ part (normal_renamed r first) (normal_renamed_parts r rest)

pub parts_renamed : (r : Renaming) (items : List Contents) → parts_of (renamed_list r items) ≡ renamed_parts r (parts_of items)
parts_renamed r [] = refl
parts_renamed r (item ∷ items) = ap (part (renamed r item)) (parts_renamed r items)

-- an exception of a class is made as an object
abbrev thrown_as : ℕ → Contents → Parts → Effect
thrown_as o of items = record {
  outcome = answered (raised o);
  made = Some (an_instance of);
  touches = accessed (sets (order_at o) (order_is (text (codes "args") ∷ [])))
      ∷ accessed (sets (entry_at o (text (codes "args"))) (entry_is (Some (text (codes "args"), tuple items)))) ∷ [];
}

-- what is read at corresponding locations
abbrev holding : Option SeenContent → RunStore
holding content = record empty { at = λ l. content }

module _ (r : Renaming) (store other : RunStore) where
  var_read : (scope : ℕ) (name : List ℕ) → CorrespondsAt r store other (var_at scope name) → var_of other (r.scopes scope) name ≡ renamed_option r (var_of store scope name)
  var_read scope name is = ap (λ c. var_of (holding c) 0 []) is ∙ each (store.at (var_at scope name))
    where
      each : (c : Option SeenContent) → var_of (holding (option_map (renamed_content r) c)) 0 [] ≡ renamed_option r (var_of (holding c) 0 [])
      each None = refl
      each (Some (var_is v)) = refl
      each (Some else_is) = refl

  len_read : (o : ℕ) → CorrespondsAt r store other (len_at o) → len_of other (r.objects o) ≡ len_of store o
  len_read o is = ap (λ c. len_of (holding c) 0) is ∙ each (store.at (len_at o))
    where
      each : (c : Option SeenContent) → len_of (holding (option_map (renamed_content r) c)) 0 ≡ len_of (holding c) 0
      each None = refl
      each (Some (len_is n)) = refl
      each (Some else_is) = refl

  item_read : (o i : ℕ) → CorrespondsAt r store other (item_at o i) → item_of other (r.objects o) i ≡ renamed_option r (item_of store o i)
  item_read o i is = ap (λ c. item_of (holding c) 0 0) is ∙ each (store.at (item_at o i))
    where
      each : (c : Option SeenContent) → item_of (holding (option_map (renamed_content r) c)) 0 0 ≡ renamed_option r (item_of (holding c) 0 0)
      each None = refl
      each (Some (item_is v)) = refl
      each (Some else_is) = refl

  entry_read : (o : ℕ) (key : Contents) → CorrespondsAt r store other (entry_at o (normal key)) → entry_of other (r.objects o) (renamed r key) ≡ renamed_entry r (entry_of store o key)
  entry_read o key is =
      ap (λ k. entry_of (holding (other.at (entry_at (r.objects o) k))) 0 nothing) (normal_renamed r key)
      ∙ (ap (λ c. entry_of (holding c) 0 nothing) is ∙ each (store.at (entry_at o (normal key))))
    where
      each : (c : Option SeenContent) → entry_of (holding (option_map (renamed_content r) c)) 0 nothing ≡ renamed_entry r (entry_of (holding c) 0 nothing)
      each None = refl
      each (Some (entry_is v)) = refl
      each (Some else_is) = refl

  order_read : (o : ℕ) → CorrespondsAt r store other (order_at o) → order_of other (r.objects o) ≡ renamed_list r (order_of store o)
  order_read o is = ap (λ c. order_of (holding c) 0) is ∙ each (store.at (order_at o))
    where
      each : (c : Option SeenContent) → order_of (holding (option_map (renamed_content r) c)) 0 ≡ renamed_list r (order_of (holding c) 0)
      each None = refl
      each (Some (order_is n)) = refl
      each (Some else_is) = refl

  file_read : (path : List ℕ) → CorrespondsAt r store other (file_at path) → file_of other path ≡ file_of store path
  file_read path is = ap (λ c. file_of (holding c) []) is ∙ each (store.at (file_at path))
    where
      each : (c : Option SeenContent) → file_of (holding (option_map (renamed_content r) c)) [] ≡ file_of (holding c) []
      each None = refl
      each (Some (file_is n)) = refl
      each (Some else_is) = refl

  offset_read : (o : ℕ) → CorrespondsAt r store other (offset_at o) → offset_of other (r.objects o) ≡ offset_of store o
  offset_read o is = ap (λ c. offset_of (holding c) 0) is ∙ each (store.at (offset_at o))
    where
      each : (c : Option SeenContent) → offset_of (holding (option_map (renamed_content r) c)) 0 ≡ offset_of (holding c) 0
      each None = refl
      each (Some (offset_is n)) = refl
      each (Some else_is) = refl

  closed_read : (o : ℕ) → CorrespondsAt r store other (closed_at o) → closed_of other (r.objects o) ≡ closed_of store o
  closed_read o is = ap (λ c. closed_of (holding c) 0) is ∙ each (store.at (closed_at o))
    where
      each : (c : Option SeenContent) → closed_of (holding (option_map (renamed_content r) c)) 0 ≡ closed_of (holding c) 0
      each None = refl
      each (Some (closed_is n)) = refl
      each (Some else_is) = refl

  method_read : (place : Pos) (name : List ℕ) → CorrespondsAt r store other (method_at place name) → method_of other place name ≡ method_of store place name
  method_read place name is = ap (λ c. method_of (holding c) place []) is ∙ each (store.at (method_at place name))
    where
      each : (c : Option SeenContent) → method_of (holding (option_map (renamed_content r) c)) place [] ≡ method_of (holding c) place []
      each None = refl
      each (Some (method_is n)) = refl
      each (Some else_is) = refl

  base_read : (place : Pos) → CorrespondsAt r store other (base_at place) → base_of other place ≡ renamed_option r (base_of store place)
  base_read place is = ap (λ c. base_of (holding c) place) is ∙ each (store.at (base_at place))
    where
      each : (c : Option SeenContent) → base_of (holding (option_map (renamed_content r) c)) place ≡ renamed_option r (base_of (holding c) place)
      each None = refl
      each (Some (base_is n)) = refl
      each (Some else_is) = refl

  -- the effect of alike writes
  made_written : (made : Option SeenKind) (all every : Writes) → AlikeWrites r all every → WritesAgree r store other all
      → written other (option_map (renamed_kind r) made) every ≡ renamed_effect r (written store made all)
  made_written made _ _ (both_write {l} {m} {c} {d} {rest} {more} at is both) agree =
      ap₂ (λ l c. touching (accessed (sets l c)) (written other (option_map (renamed_kind r) made) more)) at is
      ∙ ap (touching (accessed (sets (renamed_location r l) (renamed_content r c)))) (made_written made rest more both agree)
  made_written made _ _ (both_change {l} {m} {c} {d} {rest} {more} at is both) agree =
      ap₂ (λ l c. touching (accessed (updates l c)) (written other (option_map (renamed_kind r) made) more)) at is
      ∙ ap (touching (accessed (updates (renamed_location r l) (renamed_change r c)))) (made_written made rest more both agree)
  made_written made _ _ (both_move {o} {from} {to} {rest} {more} both) agree =
      ap₂ (λ v e. touching (accessed (reads (item_at (r.objects o) from))) (touching (accessed (sets (item_at (r.objects o) to) (item_is v))) e))
      (ap (λ v. unwrap_or v (tuple no_parts)) (item_read o from agree.0) ∙ moved (item_of store o from))
      (made_written made rest more both agree.1)
    where
      moved : (v : Option Contents) → unwrap_or (renamed_option r v) (tuple no_parts) ≡ renamed r (unwrap_or v (tuple no_parts))
      moved None = refl
      moved (Some v) = refl
  made_written made _ _ (both_open {path} {rest} {more} both) agree = ap (touching (opened path)) (made_written made rest more both agree)
  made_written made _ _ (both_note {place} {name} {rest} {more} both) agree = ap (touching (noted place name)) (made_written made rest more both agree)
  made_written made _ _ (both_done is) agree = ap (λ v. written other (option_map (renamed_kind r) made) (done v)) is
  made_written made _ _ both_done_at_end agree = refl

  module _ (answers others : Answers) where
    pub alike_agree : (p q : Plan) → Alike r p q → Agrees r store other answers others p → effect other others q ≡ renamed_effect r (effect store answers p)
    alike_agree _ _ (both_read_var {scope} {name} {go} {gone} each) agree =
        ap (touching (accessed (reads (var_at (r.scopes scope) name))))
        (ap (λ v. effect other others (gone v)) (var_read scope name agree.0) ∙ alike_agree _ _ (each (var_of store scope name)) agree.1)
    alike_agree _ _ (both_read_len {o} {go} {gone} each) agree =
        ap (touching (accessed (reads (len_at (r.objects o)))))
        (ap (λ n. effect other others (gone n)) (len_read o agree.0) ∙ alike_agree _ _ (each (len_of store o)) agree.1)
    alike_agree _ _ (both_read_item {o} {i} {go} {gone} each) agree =
        ap (touching (accessed (reads (item_at (r.objects o) i))))
        (ap (λ v. effect other others (gone v)) (item_read o i agree.0) ∙ alike_agree _ _ (each (item_of store o i)) agree.1)
    alike_agree _ _ (both_read_entry {o} {key} {go} {gone} each) agree =
        ap₂ (λ k e. touching (accessed (reads (entry_at (r.objects o) k))) e) (normal_renamed r key)
        (ap (λ e. effect other others (gone e)) (entry_read o key agree.0) ∙ alike_agree _ _ (each (entry_of store o key)) agree.1)
    alike_agree _ _ (both_read_order {o} {go} {gone} each) agree =
        ap (touching (accessed (reads (order_at (r.objects o)))))
        (ap (λ keys. effect other others (gone keys)) (order_read o agree.0) ∙ alike_agree _ _ (each (order_of store o)) agree.1)
    alike_agree _ _ (both_read_file {path} {go} {gone} each) agree =
        ap (touching (accessed (reads (file_at path))))
        (ap (λ bytes. effect other others (gone bytes)) (file_read path agree.0) ∙ alike_agree _ _ (each (file_of store path)) agree.1)
    alike_agree _ _ (both_read_offset {o} {go} {gone} each) agree =
        ap (touching (accessed (reads (offset_at (r.objects o)))))
        (ap (λ n. effect other others (gone n)) (offset_read o agree.0) ∙ alike_agree _ _ (each (offset_of store o)) agree.1)
    alike_agree _ _ (both_read_closed {o} {go} {gone} each) agree =
        ap (touching (accessed (reads (closed_at (r.objects o)))))
        (ap (λ b. effect other others (gone b)) (closed_read o agree.0) ∙ alike_agree _ _ (each (closed_of store o)) agree.1)
    alike_agree _ _ (both_read_method {place} {name} {go} {gone} each) agree =
        ap (touching (accessed (reads (method_at place name))))
        (ap (λ at. effect other others (gone at)) (method_read place name agree.0) ∙ alike_agree _ _ (each (method_of store place name)) agree.1)
    alike_agree _ _ (both_read_base {place} {go} {gone} each) agree =
        ap (touching (accessed (reads (base_at place))))
        (ap (λ v. effect other others (gone v)) (base_read place agree.0) ∙ alike_agree _ _ (each (base_of store place)) agree.1)
    alike_agree _ _ (both_kind {o} {go} {gone} each) agree =
        ap (λ kind. effect other others (gone kind)) agree.0 ∙ alike_agree _ _ (each (slice_get store.kinds o)) agree.1
    alike_agree _ _ (both_name {place} {go} {gone} each) agree =
        ap (λ name. effect other others (gone name)) agree.0 ∙ alike_agree _ _ (each (store.names place)) agree.1
    alike_agree _ _ (both_was_opened {path} {go} {gone} each) agree =
        ap (λ b. effect other others (gone b)) agree.0 ∙ alike_agree _ _ (each (has_path path store.opened)) agree.1
    alike_agree _ _ (both_ask {what} {go} {gone} each) agree =
        ap (λ found. touching (asked what) (elim found as (λ g. Effect) [ None ↦ lacking other | Some g ↦ effect other others (gone g) ])) agree.0
        ∙ given (answers.given what) (λ g it. alike_agree _ _ (each g) it) agree.1
      where
        given : (found : Option Given) → ((g : Given) → Agrees r store other answers others (go g) → effect other others (gone g) ≡ renamed_effect r (effect store answers (go g)))
            → (elim found as (λ g. Type 0) [ None ↦ Unit {0} | Some g ↦ Agrees r store other answers others (go g) ])
            → touching (asked what) (elim found as (λ g. Effect) [ None ↦ lacking other | Some g ↦ effect other others (gone g) ])
            ≡ renamed_effect r (touching (asked what) (elim found as (λ g. Effect) [ None ↦ lacking store | Some g ↦ effect store answers (go g) ]))
        given None each it = refl
        given (Some g) each it = ap (touching (asked what)) (each g it)
    alike_agree _ _ (both_fetch {path} {go} {gone} each) agree =
        ap (λ there. touching (fetched path) (elim there as (λ f. Effect) [ None ↦ lacking other | Some f ↦ effect other others (gone f) ])) agree.0
        ∙ found (answers.found path) (λ f it. alike_agree _ _ (each f) it) agree.1
      where
        found : (there : Option Found) → ((f : Found) → Agrees r store other answers others (go f) → effect other others (gone f) ≡ renamed_effect r (effect store answers (go f)))
            → (elim there as (λ f. Type 0) [ None ↦ Unit {0} | Some f ↦ Agrees r store other answers others (go f) ])
            → touching (fetched path) (elim there as (λ f. Effect) [ None ↦ lacking other | Some f ↦ effect other others (gone f) ])
            ≡ renamed_effect r (touching (fetched path) (elim there as (λ f. Effect) [ None ↦ lacking store | Some f ↦ effect store answers (go f) ]))
        found None each it = refl
        found (Some f) each it = ap (touching (fetched path)) (each f it)
    alike_agree _ _ (both_look {m} {n} {p} {q} same both) agree = ap₂ (λ k e. touching (looked k) e) same (alike_agree p q both agree)
    alike_agree _ _ (both_count {m} {n} {p} {q} same both) agree = ap₂ (λ k e. touching (counted k) e) same (alike_agree p q both agree)
    alike_agree _ _ (both_print {bytes} {p} {q} both) agree = ap (touching (printed bytes)) (alike_agree p q both agree)
    alike_agree _ _ (both_writes {all} {every} both) agree = made_written None all every both agree
    alike_agree _ _ (both_make {kind} {like} {all} {every} is both) agree =
        ap₂ (λ k n. written other (Some k) (every n)) is agree.0
        ∙ made_written (Some kind) (all (length store.kinds)) (every (r.objects (length store.kinds))) (both (length store.kinds)) agree.1
    alike_agree _ _ (both_raise {of} {to} {items} {more} of_is items_are) agree =
        ap₂ (λ n v. thrown_as n v (parts_of more)) agree of_is
        ∙ ap (thrown_as (r.objects (length store.kinds)) (renamed r of)) (ap parts_of items_are ∙ parts_renamed r items)
    alike_agree _ _ (both_again {o}) agree = refl
    alike_agree _ _ both_end agree = refl
    alike_agree _ _ both_run_away agree = refl
