-- When two plans are alike under a renaming, and what has to correspond in two stores for that (this project's profile).
use Rattle.std.specs.Prelude.{◌≡◌, ℕ, Bool, List, length, slice_get, Option, Some, None, ⊤}
use Rattle.std.specs.Option.{option_map}
use Rattle.prov_base.specs.declared.place.Pos.{Pos}
use Rattle.py_value.specs.Contents.{Contents}
use Rattle.py_value.specs.KeyOf.{normal}
use Rattle.py_value.specs.Seen.{SeenLocation, SeenContent, SeenChange, SeenKind, var_at, len_at, item_at, entry_at, order_at, file_at, offset_at, closed_at, method_at, base_at}
use Rattle.py_model.specs.Effect.{Answers}
use Rattle.py_model.specs.Plan.{Ask, Given, Found, Writes, write, change, move, opens, notes, done, done_at_end, Plan, read_var, read_len, read_item, read_entry, read_order, read_file, read_offset, read_closed, read_method, read_base, kind_of, name_of, was_opened, ask, fetch, looks, counts, prints, writes, makes, raises, raises_again, ends, runs_away}
use Rattle.py_model.specs.Renaming.{Renaming, renamed, renamed_option, renamed_list, renamed_entry, renamed_location, renamed_content, renamed_change, renamed_kind}
use Rattle.py_model.specs.Store.{RunStore, var_of, len_of, item_of, entry_of, order_of, file_of, offset_of, closed_of, method_of, base_of, has_path}

-- Writes whose locations, contents and changes correspond one after the other, and whose answers do.
pub data AlikeWrites (r : Renaming) : Writes → Writes → Type 0 where
  both_write : {l m : SeenLocation} {c d : SeenContent} {rest more : Writes} → m ≡ renamed_location r l → d ≡ renamed_content r c → AlikeWrites r rest more
      → AlikeWrites r (write l c rest) (write m d more)
  both_change : {l m : SeenLocation} {c d : SeenChange} {rest more : Writes} → m ≡ renamed_location r l → d ≡ renamed_change r c → AlikeWrites r rest more
      → AlikeWrites r (change l c rest) (change m d more)
  both_move : {o from to : ℕ} {rest more : Writes} → AlikeWrites r rest more → AlikeWrites r (move o from to rest) (move (r.objects o) from to more)
  both_open : {path : List ℕ} {rest more : Writes} → AlikeWrites r rest more → AlikeWrites r (opens path rest) (opens path more)
  both_note : {place : Pos} {name : List ℕ} {rest more : Writes} → AlikeWrites r rest more → AlikeWrites r (notes place name rest) (notes place name more)
  both_done : {v w : Contents} → w ≡ renamed r v → AlikeWrites r (done v) (done w)
  both_done_at_end : AlikeWrites r done_at_end done_at_end

-- Plans that read at corresponding locations and ask the same, and go on alike for corresponding contents and the same answers.
pub data Alike (r : Renaming) : Plan → Plan → Type 0 where
  both_read_var : {scope : ℕ} {name : List ℕ} {go gone : Option Contents → Plan} → ((v : Option Contents) → Alike r (go v) (gone (renamed_option r v)))
      → Alike r (read_var scope name go) (read_var (r.scopes scope) name gone)
  both_read_len : {o : ℕ} {go gone : ℕ → Plan} → ((n : ℕ) → Alike r (go n) (gone n)) → Alike r (read_len o go) (read_len (r.objects o) gone)
  both_read_item : {o i : ℕ} {go gone : Option Contents → Plan} → ((v : Option Contents) → Alike r (go v) (gone (renamed_option r v)))
      → Alike r (read_item o i go) (read_item (r.objects o) i gone)
  both_read_entry : {o : ℕ} {key : Contents} {go gone : Option (Contents × Contents) → Plan} → ((e : Option (Contents × Contents)) → Alike r (go e) (gone (renamed_entry r e)))
      → Alike r (read_entry o key go) (read_entry (r.objects o) (renamed r key) gone)
  both_read_order : {o : ℕ} {go gone : List Contents → Plan} → ((keys : List Contents) → Alike r (go keys) (gone (renamed_list r keys)))
      → Alike r (read_order o go) (read_order (r.objects o) gone)
  both_read_file : {path : List ℕ} {go gone : Option (List ℕ) → Plan} → ((bytes : Option (List ℕ)) → Alike r (go bytes) (gone bytes))
      → Alike r (read_file path go) (read_file path gone)
  both_read_offset : {o : ℕ} {go gone : ℕ → Plan} → ((n : ℕ) → Alike r (go n) (gone n)) → Alike r (read_offset o go) (read_offset (r.objects o) gone)
  both_read_closed : {o : ℕ} {go gone : Bool → Plan} → ((b : Bool) → Alike r (go b) (gone b)) → Alike r (read_closed o go) (read_closed (r.objects o) gone)
  both_read_method : {place : Pos} {name : List ℕ} {go gone : Option Pos → Plan} → ((at : Option Pos) → Alike r (go at) (gone at))
      → Alike r (read_method place name go) (read_method place name gone)
  both_read_base : {place : Pos} {go gone : Option Contents → Plan} → ((v : Option Contents) → Alike r (go v) (gone (renamed_option r v)))
      → Alike r (read_base place go) (read_base place gone)
  both_kind : {o : ℕ} {go gone : Option SeenKind → Plan} → ((kind : Option SeenKind) → Alike r (go kind) (gone (option_map (renamed_kind r) kind)))
      → Alike r (kind_of o go) (kind_of (r.objects o) gone)
  both_name : {place : Pos} {go gone : Option (List ℕ) → Plan} → ((name : Option (List ℕ)) → Alike r (go name) (gone name)) → Alike r (name_of place go) (name_of place gone)
  both_was_opened : {path : List ℕ} {go gone : Bool → Plan} → ((b : Bool) → Alike r (go b) (gone b)) → Alike r (was_opened path go) (was_opened path gone)
  both_ask : {what : Ask} {go gone : Given → Plan} → ((given : Given) → Alike r (go given) (gone given)) → Alike r (ask what go) (ask what gone)
  both_fetch : {path : List ℕ} {go gone : Found → Plan} → ((found : Found) → Alike r (go found) (gone found)) → Alike r (fetch path go) (fetch path gone)
  both_look : {m n : ℕ} {p q : Plan} → n ≡ m → Alike r p q → Alike r (looks m p) (looks n q)
  both_count : {m n : ℕ} {p q : Plan} → n ≡ m → Alike r p q → Alike r (counts m p) (counts n q)
  both_print : {bytes : List ℕ} {p q : Plan} → Alike r p q → Alike r (prints bytes p) (prints bytes q)
  both_writes : {all every : Writes} → AlikeWrites r all every → Alike r (writes all) (writes every)
  both_make : {kind like : SeenKind} {all every : ℕ → Writes} → like ≡ renamed_kind r kind → ((o : ℕ) → AlikeWrites r (all o) (every (r.objects o)))
      → Alike r (makes kind all) (makes like every)
  both_raise : {of to : Contents} {items more : List Contents} → to ≡ renamed r of → more ≡ renamed_list r items → Alike r (raises of items) (raises to more)
  both_again : {o : ℕ} → Alike r (raises_again o) (raises_again (r.objects o))
  both_end : Alike r ends ends
  both_run_away : Alike r runs_away runs_away

-- One operation in two stores: what has to correspond, asked of what its plan reads and asks in the one store alone.
module _ (r : Renaming) (store other : RunStore) where
  -- the location has corresponding contents
  abbrev pub CorrespondsAt : SeenLocation → Type 0
  CorrespondsAt l = other.at (renamed_location r l) ≡ option_map (renamed_content r) (store.at l)

  -- the next object to be made has corresponding numbers
  abbrev pub NextCorresponds : Type 0
  NextCorresponds = length other.kinds ≡ r.objects (length store.kinds)

  -- moved items are read
  abbrev pub WritesAgree : Writes → Type 0
  WritesAgree (write l c rest) = WritesAgree rest
  WritesAgree (change l c rest) = WritesAgree rest
  WritesAgree (move o from to rest) = CorrespondsAt (item_at o from) × WritesAgree rest
  WritesAgree (opens path rest) = WritesAgree rest
  WritesAgree (notes place name rest) = WritesAgree rest
  WritesAgree (done v) = ⊤
  WritesAgree done_at_end = ⊤

  module _ (answers others : Answers) where
    abbrev pub Agrees : Plan → Type 0
    Agrees (read_var scope name go) = CorrespondsAt (var_at scope name) × Agrees (go (var_of store scope name))
    Agrees (read_len o go) = CorrespondsAt (len_at o) × Agrees (go (len_of store o))
    Agrees (read_item o i go) = CorrespondsAt (item_at o i) × Agrees (go (item_of store o i))
    Agrees (read_entry o key go) = CorrespondsAt (entry_at o (normal key)) × Agrees (go (entry_of store o key))
    Agrees (read_order o go) = CorrespondsAt (order_at o) × Agrees (go (order_of store o))
    Agrees (read_file path go) = CorrespondsAt (file_at path) × Agrees (go (file_of store path))
    Agrees (read_offset o go) = CorrespondsAt (offset_at o) × Agrees (go (offset_of store o))
    Agrees (read_closed o go) = CorrespondsAt (closed_at o) × Agrees (go (closed_of store o))
    Agrees (read_method place name go) = CorrespondsAt (method_at place name) × Agrees (go (method_of store place name))
    Agrees (read_base place go) = CorrespondsAt (base_at place) × Agrees (go (base_of store place))
    Agrees (kind_of o go) = (slice_get other.kinds (r.objects o) ≡ option_map (renamed_kind r) (slice_get store.kinds o)) × Agrees (go (slice_get store.kinds o))
    Agrees (name_of place go) = (other.names place ≡ store.names place) × Agrees (go (store.names place))
    Agrees (was_opened path go) = (has_path path other.opened ≡ has_path path store.opened) × Agrees (go (has_path path store.opened))
    Agrees (ask what go) = (others.given what ≡ answers.given what) × (elim (answers.given what) [ None ↦ ⊤ | Some given ↦ Agrees (go given) ])
    Agrees (fetch path go) = (others.found path ≡ answers.found path) × (elim (answers.found path) [ None ↦ ⊤ | Some found ↦ Agrees (go found) ])
    Agrees (looks n rest) = Agrees rest
    Agrees (counts n rest) = Agrees rest
    Agrees (prints bytes rest) = Agrees rest
    Agrees (writes all) = WritesAgree all
    Agrees (makes kind all) = NextCorresponds × WritesAgree (all (length store.kinds))
    Agrees (raises of items) = NextCorresponds
    Agrees (raises_again o) = ⊤
    Agrees ends = ⊤
    Agrees runs_away = ⊤
