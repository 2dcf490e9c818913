-- Two plans that are alike, and what the first of them does not do: it asks nothing, where it may not, raises again only objects of
-- which something holds, and writes entries and orders, and opens files, in few ways alone.
use Rattle.std.proofs.Common.{◌≡◌, ℕ, Bool, true, false, if◌then◌else◌, List, [], ◌∷◌, Option, Some, None, option_map, inl, inr, refl, sym, subst, ◌∙◌}
use Rattle.std.proofs.lemmas.Bool.{false≢true}
use Rattle.prov_base.specs.declared.place.Pos.{Pos}
use Rattle.py_value.specs.Contents.{Contents}
use Rattle.py_value.specs.Seen.{SeenLocation, SeenContent, SeenChange, SeenKind, var_at, len_at, item_at, entry_at, order_at, file_at, offset_at, closed_at, method_at, base_at, file_is}
use Rattle.py_model.specs.Agreement as plans
use Rattle.py_model.specs.Agreement.{AlikeWrites, Alike}
use Rattle.py_model.specs.Plan.{Ask, Given, Found, Writes, write, change, move, opens, notes, done, done_at_end, Plan, read_var, read_len, read_item, read_entry, read_order, read_file, read_offset, read_closed, read_method, read_base, kind_of, name_of, was_opened, ask, fetch, looks, counts, prints, writes, makes, raises, raises_again, ends, runs_away}
use Rattle.py_model.specs.Dicts.{set_entries}
use Rattle.py_model.specs.Orderly.{IsNoKeyPlace, SetsPlainly, WritesPlainly, LastRead, entry_read, other_read, WritesEntry, resets, inserts, deletes, BeginsWith, IsOrderlyAfter}
use Rattle.py_model.specs.Tidy.{IsNoFile, IsFileless, is_there, OpensFile, sets_it, leaves_it, IsTidyAfter}
use Rattle.py_model.specs.Quiet.{IsQuiet}
use Rattle.py_model.specs.Renaming.{Renaming, renamed, renamed_option, renamed_list, renamed_entry, renamed_location, renamed_content, renamed_change, renamed_kind}

-- each object that is raised again is one of these
abbrev pub RaisesOnly : (ℕ → Type 0) → Plan → Type 0
RaisesOnly P (read_var scope name go) = (v : Option Contents) → RaisesOnly P (go v)
RaisesOnly P (read_len o go) = (n : ℕ) → RaisesOnly P (go n)
RaisesOnly P (read_item o i go) = (v : Option Contents) → RaisesOnly P (go v)
RaisesOnly P (read_entry o key go) = (entry : Option (Contents × Contents)) → RaisesOnly P (go entry)
RaisesOnly P (read_order o go) = (keys : List Contents) → RaisesOnly P (go keys)
RaisesOnly P (read_file path go) = (bytes : Option (List ℕ)) → RaisesOnly P (go bytes)
RaisesOnly P (read_offset o go) = (n : ℕ) → RaisesOnly P (go n)
RaisesOnly P (read_closed o go) = (b : Bool) → RaisesOnly P (go b)
RaisesOnly P (read_method place name go) = (at : Option Pos) → RaisesOnly P (go at)
RaisesOnly P (read_base place go) = (v : Option Contents) → RaisesOnly P (go v)
RaisesOnly P (kind_of o go) = (kind : Option SeenKind) → RaisesOnly P (go kind)
RaisesOnly P (name_of place go) = (name : Option (List ℕ)) → RaisesOnly P (go name)
RaisesOnly P (was_opened path go) = (b : Bool) → RaisesOnly P (go b)
RaisesOnly P (ask what go) = (given : Given) → RaisesOnly P (go given)
RaisesOnly P (fetch path go) = (found : Found) → RaisesOnly P (go found)
RaisesOnly P (looks n rest) = RaisesOnly P rest
RaisesOnly P (counts n rest) = RaisesOnly P rest
RaisesOnly P (prints bytes rest) = RaisesOnly P rest
RaisesOnly P (writes all) = Unit {0}
RaisesOnly P (makes kind all) = Unit {0}
RaisesOnly P (raises of items) = Unit {0}
RaisesOnly P (raises_again o) = P o
RaisesOnly P ends = Unit {0}
RaisesOnly P runs_away = Unit {0}

-- writes that note no name, and plans that end in such
abbrev pub NotesNone : Writes → Type 0
NotesNone (write place content rest) = NotesNone rest
NotesNone (change place how rest) = NotesNone rest
NotesNone (move o from to rest) = NotesNone rest
NotesNone (opens path rest) = NotesNone rest
NotesNone (notes place name rest) = ⊥
NotesNone (done answer) = Unit {0}
NotesNone done_at_end = Unit {0}

abbrev pub IsNoteless : Plan → Type 0
IsNoteless (read_var scope name go) = (v : Option Contents) → IsNoteless (go v)
IsNoteless (read_len o go) = (n : ℕ) → IsNoteless (go n)
IsNoteless (read_item o i go) = (v : Option Contents) → IsNoteless (go v)
IsNoteless (read_entry o key go) = (entry : Option (Contents × Contents)) → IsNoteless (go entry)
IsNoteless (read_order o go) = (keys : List Contents) → IsNoteless (go keys)
IsNoteless (read_file path go) = (bytes : Option (List ℕ)) → IsNoteless (go bytes)
IsNoteless (read_offset o go) = (n : ℕ) → IsNoteless (go n)
IsNoteless (read_closed o go) = (b : Bool) → IsNoteless (go b)
IsNoteless (read_method place name go) = (at : Option Pos) → IsNoteless (go at)
IsNoteless (read_base place go) = (v : Option Contents) → IsNoteless (go v)
IsNoteless (kind_of o go) = (kind : Option SeenKind) → IsNoteless (go kind)
IsNoteless (name_of place go) = (name : Option (List ℕ)) → IsNoteless (go name)
IsNoteless (was_opened path go) = (b : Bool) → IsNoteless (go b)
IsNoteless (ask what go) = (given : Given) → IsNoteless (go given)
IsNoteless (fetch path go) = (found : Found) → IsNoteless (go found)
IsNoteless (looks n rest) = IsNoteless rest
IsNoteless (counts n rest) = IsNoteless rest
IsNoteless (prints bytes rest) = IsNoteless rest
IsNoteless (writes all) = NotesNone all
IsNoteless (makes kind all) = (o : ℕ) → NotesNone (all o)
IsNoteless (raises of items) = Unit {0}
IsNoteless (raises_again o) = Unit {0}
IsNoteless ends = Unit {0}
IsNoteless runs_away = Unit {0}

-- whether a plan may ask and fetch, whether it may note names, and which objects it may raise again
pub record Allowed : Type 1 where
  pub asks : Bool
  pub notes : Bool
  pub again : ℕ → Type 0

pub record AlikeBy (may : Allowed) (r : Renaming) (p q : Plan) : Type 0 where
  pub same : Alike r p q
  pub quiet : may.asks ≡ false → IsQuiet p
  pub again : RaisesOnly may.again p
  pub tidy : (known : Option (List ℕ)) → IsTidyAfter known p
  pub noteless : may.notes ≡ false → IsNoteless p
  pub orderly : (last : LastRead) → IsOrderlyAfter last p

-- the same, after something was read
pub record AlikeAfter (last : LastRead) (may : Allowed) (r : Renaming) (p q : Plan) : Type 0 where
  pub same : Alike r p q
  pub quiet : may.asks ≡ false → IsQuiet p
  pub again : RaisesOnly may.again p
  pub tidy : (known : Option (List ℕ)) → IsTidyAfter known p
  pub noteless : may.notes ≡ false → IsNoteless p
  pub orderly : IsOrderlyAfter last p

-- a location that is no entry, no order and no file
abbrev IsPlainPlace : SeenLocation → Type 0
IsPlainPlace (entry_at o form) = ⊥
IsPlainPlace (order_at o) = ⊥
IsPlainPlace (file_at path) = ⊥
IsPlainPlace place = Unit {0}

plainly_set : (l : SeenLocation) (c : SeenContent) → IsPlainPlace l → SetsPlainly l c
plainly_set (var_at scope name) c plain = tt
plainly_set (len_at o) c plain = tt
plainly_set (item_at o i) c plain = tt
plainly_set (entry_at o form) c plain = absurd plain
plainly_set (order_at o) c plain = absurd plain
plainly_set (file_at path) c plain = absurd plain
plainly_set (offset_at o) c plain = tt
plainly_set (closed_at o) c plain = tt
plainly_set (method_at place name) c plain = tt
plainly_set (base_at place) c plain = tt

no_file_there : (l : SeenLocation) → IsPlainPlace l → IsNoFile l
no_file_there (var_at scope name) plain = tt
no_file_there (len_at o) plain = tt
no_file_there (item_at o i) plain = tt
no_file_there (entry_at o form) plain = tt
no_file_there (order_at o) plain = tt
no_file_there (file_at path) plain = absurd plain
no_file_there (offset_at o) plain = tt
no_file_there (closed_at o) plain = tt
no_file_there (method_at place name) plain = tt
no_file_there (base_at place) plain = tt

entries_fileless : (o : ℕ) (pairs : List (Contents × Contents)) (rest : Writes) → IsFileless rest → IsFileless (set_entries o pairs rest)
entries_fileless o [] rest fileless = fileless
entries_fileless o (pair ∷ pairs) rest fileless = (tt, entries_fileless o pairs rest fileless)

begins_fileless : (o : ℕ) (all : Writes) → BeginsWith o all → IsFileless all
begins_fileless o all begins = subst IsFileless (sym begins.writes_are) (tt, entries_fileless o begins.pairs (done begins.answer) tt)

entry_fileless : (last : LastRead) (all : Writes) → WritesEntry last all → IsFileless all
entry_fileless last all resets = (tt, tt)
entry_fileless last all inserts = (tt, tt)
entry_fileless last all deletes = (tt, tt)

entries_noteless : (o : ℕ) (pairs : List (Contents × Contents)) (rest : Writes) → NotesNone rest → NotesNone (set_entries o pairs rest)
entries_noteless o [] rest none = none
entries_noteless o (pair ∷ pairs) rest none = entries_noteless o pairs rest none

begins_noteless : (o : ℕ) (all : Writes) → BeginsWith o all → NotesNone all
begins_noteless o all begins = subst NotesNone (sym begins.writes_are) (entries_noteless o begins.pairs (done begins.answer) tt)

entry_noteless : (last : LastRead) (all : Writes) → WritesEntry last all → NotesNone all
entry_noteless last all resets = tt
entry_noteless last all inserts = tt
entry_noteless last all deletes = tt

-- writes that are alike, and write no entry and no order, set no file and open none, and note no name
pub record AlikePlainly (r : Renaming) (all every : Writes) : Type 0 where
  pub same : AlikeWrites r all every
  pub plain : WritesPlainly all
  pub fileless : IsFileless all
  pub noteless : NotesNone all

-- the same, with a name that is noted
pub record AlikeNoting (r : Renaming) (all every : Writes) : Type 0 where
  pub same : AlikeWrites r all every
  pub plain : WritesPlainly all
  pub fileless : IsFileless all

-- writes that are alike, and set the file that they open
pub record AlikeOpening (r : Renaming) (all every : Writes) : Type 0 where
  pub same : AlikeWrites r all every
  pub plain : WritesPlainly all
  pub opening : (known : Option (List ℕ)) → OpensFile known all
  pub noteless : NotesNone all

-- the same, where it is known that a path was opened or can be read
pub record AlikeKnown (path : List ℕ) (may : Allowed) (r : Renaming) (p q : Plan) : Type 0 where
  pub same : Alike r p q
  pub again : RaisesOnly may.again p
  pub tidy : IsTidyAfter (Some path) p
  pub noteless : may.notes ≡ false → IsNoteless p
  pub orderly : (last : LastRead) → IsOrderlyAfter last p

module _ {r : Renaming} where
  pub both_write : {l m : SeenLocation} {c d : SeenContent} {rest more : Writes} → IsPlainPlace l → m ≡ renamed_location r l → d ≡ renamed_content r c
      → AlikePlainly r rest more → AlikePlainly r (write l c rest) (write m d more)
  both_write {l = l} {c = c} plain place_is content_is both = record {
    same = plans.both_write place_is content_is both.same;
    plain = (plainly_set l c plain, both.plain);
    fileless = (no_file_there l plain, both.fileless);
    noteless = both.noteless;
  }

  pub both_change : {l m : SeenLocation} {c d : SeenChange} {rest more : Writes} → IsNoKeyPlace l → m ≡ renamed_location r l → d ≡ renamed_change r c
      → AlikePlainly r rest more → AlikePlainly r (change l c rest) (change m d more)
  both_change plain place_is change_is both = record { same = plans.both_change place_is change_is both.same; plain = (plain, both.plain); fileless = both.fileless; noteless = both.noteless }

  pub both_move : {o from to : ℕ} {rest more : Writes} → AlikePlainly r rest more → AlikePlainly r (move o from to rest) (move (r.objects o) from to more)
  both_move both = record { same = plans.both_move both.same; plain = both.plain; fileless = both.fileless; noteless = both.noteless }

  pub both_set_and_open : {path : List ℕ} {rest more : Writes} → AlikePlainly r rest more
      → AlikeOpening r (write (file_at path) (file_is []) (opens path rest)) (write (file_at path) (file_is []) (opens path more))
  both_set_and_open both = record { same = plans.both_write refl refl (plans.both_open both.same); plain = (refl, both.plain); opening = λ known. sets_it both.fileless; noteless = both.noteless }

  pub both_note : {place : Pos} {name : List ℕ} {rest more : Writes} → AlikePlainly r rest more → AlikeNoting r (notes place name rest) (notes place name more)
  both_note both = record { same = plans.both_note both.same; plain = both.plain; fileless = both.fileless }

  pub both_done : {v w : Contents} → w ≡ renamed r v → AlikePlainly r (done v) (done w)
  both_done is = record { same = plans.both_done is; plain = tt; fileless = tt; noteless = tt }

  pub both_done_at_end : AlikePlainly r done_at_end done_at_end
  both_done_at_end = record { same = plans.both_done_at_end; plain = tt; fileless = tt; noteless = tt }

pub not_both : {A : Type 0} (b : Bool) → b ≡ true → b ≡ false → A
not_both b is none = absurd (false≢true (sym none ∙ is))

-- the plans that are alike, node by node
module _ {may : Allowed} {r : Renaming} where
  pub both_read_var : {scope : ℕ} {name : List ℕ} {go gone : Option Contents → Plan} → ((v : Option Contents) → AlikeBy may r (go v) (gone (renamed_option r v)))
      → AlikeBy may r (read_var scope name go) (read_var (r.scopes scope) name gone)
  both_read_var each = record { same = plans.both_read_var (λ v. (each v).same); quiet = λ none v. (each v).quiet none; again = λ v. (each v).again; tidy = λ known v. (each v).tidy known; noteless = λ none v. (each v).noteless none; orderly = λ last v. (each v).orderly other_read }

  pub both_read_len : {o : ℕ} {go gone : ℕ → Plan} → ((n : ℕ) → AlikeBy may r (go n) (gone n))
      → AlikeBy may r (read_len o go) (read_len (r.objects o) gone)
  both_read_len each = record { same = plans.both_read_len (λ n. (each n).same); quiet = λ none n. (each n).quiet none; again = λ n. (each n).again; tidy = λ known n. (each n).tidy known; noteless = λ none n. (each n).noteless none; orderly = λ last n. (each n).orderly other_read }

  pub both_read_item : {o i : ℕ} {go gone : Option Contents → Plan} → ((v : Option Contents) → AlikeBy may r (go v) (gone (renamed_option r v)))
      → AlikeBy may r (read_item o i go) (read_item (r.objects o) i gone)
  both_read_item each = record { same = plans.both_read_item (λ v. (each v).same); quiet = λ none v. (each v).quiet none; again = λ v. (each v).again; tidy = λ known v. (each v).tidy known; noteless = λ none v. (each v).noteless none; orderly = λ last v. (each v).orderly other_read }

  pub both_read_entry : {o : ℕ} {key : Contents} {go gone : Option (Contents × Contents) → Plan} → ((e : Option (Contents × Contents)) → AlikeBy may r (go e) (gone (renamed_entry r e)))
      → AlikeBy may r (read_entry o key go) (read_entry (r.objects o) (renamed r key) gone)
  both_read_entry each = record { same = plans.both_read_entry (λ e. (each e).same); quiet = λ none e. (each e).quiet none; again = λ e. (each e).again; tidy = λ known e. (each e).tidy known; noteless = λ none e. (each e).noteless none; orderly = λ last e. (each e).orderly (entry_read _ _ e) }

  pub both_read_order : {o : ℕ} {go gone : List Contents → Plan} → ((keys : List Contents) → AlikeBy may r (go keys) (gone (renamed_list r keys)))
      → AlikeBy may r (read_order o go) (read_order (r.objects o) gone)
  both_read_order each = record { same = plans.both_read_order (λ keys. (each keys).same); quiet = λ none keys. (each keys).quiet none; again = λ keys. (each keys).again; tidy = λ known keys. (each keys).tidy known; noteless = λ none keys. (each keys).noteless none; orderly = λ last keys. (each keys).orderly other_read }

  pub both_read_file : {path : List ℕ} {go gone : Option (List ℕ) → Plan} → ((bytes : Option (List ℕ)) → AlikeBy may r (go bytes) (gone bytes))
      → AlikeBy may r (read_file path go) (read_file path gone)
  both_read_file each = record { same = plans.both_read_file (λ bytes. (each bytes).same); quiet = λ none bytes. (each bytes).quiet none; again = λ bytes. (each bytes).again; tidy = λ known bytes. (each bytes).tidy known; noteless = λ none bytes. (each bytes).noteless none; orderly = λ last bytes. (each bytes).orderly other_read }

  pub both_read_offset : {o : ℕ} {go gone : ℕ → Plan} → ((n : ℕ) → AlikeBy may r (go n) (gone n))
      → AlikeBy may r (read_offset o go) (read_offset (r.objects o) gone)
  both_read_offset each = record { same = plans.both_read_offset (λ n. (each n).same); quiet = λ none n. (each n).quiet none; again = λ n. (each n).again; tidy = λ known n. (each n).tidy known; noteless = λ none n. (each n).noteless none; orderly = λ last n. (each n).orderly other_read }

  pub both_read_closed : {o : ℕ} {go gone : Bool → Plan} → ((b : Bool) → AlikeBy may r (go b) (gone b))
      → AlikeBy may r (read_closed o go) (read_closed (r.objects o) gone)
  both_read_closed each = record { same = plans.both_read_closed (λ b. (each b).same); quiet = λ none b. (each b).quiet none; again = λ b. (each b).again; tidy = λ known b. (each b).tidy known; noteless = λ none b. (each b).noteless none; orderly = λ last b. (each b).orderly other_read }

  pub both_read_method : {place : Pos} {name : List ℕ} {go gone : Option Pos → Plan} → ((at : Option Pos) → AlikeBy may r (go at) (gone at))
      → AlikeBy may r (read_method place name go) (read_method place name gone)
  both_read_method each = record { same = plans.both_read_method (λ at. (each at).same); quiet = λ none at. (each at).quiet none; again = λ at. (each at).again; tidy = λ known at. (each at).tidy known; noteless = λ none at. (each at).noteless none; orderly = λ last at. (each at).orderly other_read }

  pub both_read_base : {place : Pos} {go gone : Option Contents → Plan} → ((v : Option Contents) → AlikeBy may r (go v) (gone (renamed_option r v)))
      → AlikeBy may r (read_base place go) (read_base place gone)
  both_read_base each = record { same = plans.both_read_base (λ v. (each v).same); quiet = λ none v. (each v).quiet none; again = λ v. (each v).again; tidy = λ known v. (each v).tidy known; noteless = λ none v. (each v).noteless none; orderly = λ last v. (each v).orderly other_read }

  pub both_kind : {o : ℕ} {go gone : Option SeenKind → Plan} → ((kind : Option SeenKind) → AlikeBy may r (go kind) (gone (option_map (renamed_kind r) kind)))
      → AlikeBy may r (kind_of o go) (kind_of (r.objects o) gone)
  both_kind each = record { same = plans.both_kind (λ kind. (each kind).same); quiet = λ none kind. (each kind).quiet none; again = λ kind. (each kind).again; tidy = λ known kind. (each kind).tidy known; noteless = λ none kind. (each kind).noteless none; orderly = λ last kind. (each kind).orderly other_read }

  pub both_name : {place : Pos} {go gone : Option (List ℕ) → Plan} → ((name : Option (List ℕ)) → AlikeBy may r (go name) (gone name))
      → AlikeBy may r (name_of place go) (name_of place gone)
  both_name each = record { same = plans.both_name (λ name. (each name).same); quiet = λ none name. (each name).quiet none; again = λ name. (each name).again; tidy = λ known name. (each name).tidy known; noteless = λ none name. (each name).noteless none; orderly = λ last name. (each name).orderly other_read }

  pub both_ask : {what : Ask} {go gone : Given → Plan} → may.asks ≡ true → ((given : Given) → AlikeBy may r (go given) (gone given)) → AlikeBy may r (ask what go) (ask what gone)
  both_ask is each = record { same = plans.both_ask (λ given. (each given).same); quiet = not_both may.asks is; again = λ given. (each given).again; tidy = λ known given. (each given).tidy known; noteless = λ none given. (each given).noteless none; orderly = λ last given. (each given).orderly other_read }

  pub both_fetch : {path : List ℕ} {go gone : Found → Plan} → may.asks ≡ true → ((found : Found) → AlikeBy may r (go found) (gone found))
      → AlikeBy may r (fetch path go) (fetch path gone)
  both_fetch {path = path} is each = record { same = plans.both_fetch (λ found. (each found).same); quiet = not_both may.asks is; again = λ found. (each found).again; tidy = λ known found. (each found).tidy (if is_there found then Some path else None); noteless = λ none found. (each found).noteless none; orderly = λ last found. (each found).orderly other_read }

  pub both_look : {m n : ℕ} {p q : Plan} → n ≡ m → AlikeBy may r p q → AlikeBy may r (looks m p) (looks n q)
  both_look is both = record { same = plans.both_look is both.same; quiet = both.quiet; again = both.again; tidy = both.tidy; noteless = both.noteless; orderly = λ last. both.orderly other_read }

  pub both_count : {m n : ℕ} {p q : Plan} → n ≡ m → AlikeBy may r p q → AlikeBy may r (counts m p) (counts n q)
  both_count is both = record { same = plans.both_count is both.same; quiet = both.quiet; again = both.again; tidy = both.tidy; noteless = both.noteless; orderly = λ last. both.orderly other_read }

  pub both_print : {bytes : List ℕ} {p q : Plan} → AlikeBy may r p q → AlikeBy may r (prints bytes p) (prints bytes q)
  both_print both = record { same = plans.both_print both.same; quiet = both.quiet; again = both.again; tidy = both.tidy; noteless = both.noteless; orderly = λ last. both.orderly other_read }

  pub both_writes : {all every : Writes} → AlikePlainly r all every → AlikeBy may r (writes all) (writes every)
  both_writes both = record { same = plans.both_writes both.same; quiet = λ none. tt; again = tt; tidy = λ known. both.fileless; noteless = λ none. both.noteless; orderly = λ last. inl both.plain }

  pub both_writes_noting : {all every : Writes} → may.notes ≡ true → AlikeNoting r all every → AlikeBy may r (writes all) (writes every)
  both_writes_noting is both = record { same = plans.both_writes both.same; quiet = λ none. tt; again = tt; tidy = λ known. both.fileless; noteless = not_both may.notes is; orderly = λ last. inl both.plain }

  pub both_make : {kind like : SeenKind} {all every : ℕ → Writes} → like ≡ renamed_kind r kind → ((o : ℕ) → AlikePlainly r (all o) (every (r.objects o)))
      → AlikeBy may r (makes kind all) (makes like every)
  both_make is both = record { same = plans.both_make is (λ o. (both o).same); quiet = λ none. tt; again = tt; tidy = λ known o. inl (both o).fileless; noteless = λ none o. (both o).noteless; orderly = λ last o. inl (both o).plain }

  pub both_make_opening : {kind like : SeenKind} {all every : ℕ → Writes} → like ≡ renamed_kind r kind → ((o : ℕ) → AlikeOpening r (all o) (every (r.objects o)))
      → AlikeBy may r (makes kind all) (makes like every)
  both_make_opening is both = record { same = plans.both_make is (λ o. (both o).same); quiet = λ none. tt; again = tt; tidy = λ known o. inr ((both o).opening known); noteless = λ none o. (both o).noteless; orderly = λ last o. inl (both o).plain }

  -- a file that is left as it is
  pub both_make_left : {path : List ℕ} {kind like : SeenKind} {rest more : ℕ → Writes} → like ≡ renamed_kind r kind → ((o : ℕ) → AlikePlainly r (rest o) (more (r.objects o)))
      → AlikeKnown path may r (makes kind (λ o. opens path (rest o))) (makes like (λ o. opens path (more o)))
  both_make_left is both = record { same = plans.both_make is (λ o. plans.both_open (both o).same); again = tt; tidy = λ o. inr (leaves_it refl (both o).fileless); noteless = λ none o. (both o).noteless; orderly = λ last o. inl (both o).plain }

  pub known_any : {path : List ℕ} {p q : Plan} → AlikeBy may r p q → AlikeKnown path may r p q
  known_any {path} both = record { same = both.same; again = both.again; tidy = both.tidy (Some path); noteless = both.noteless; orderly = both.orderly }

  pub both_raise : {of to : Contents} {items more : List Contents} → to ≡ renamed r of → more ≡ renamed_list r items → AlikeBy may r (raises of items) (raises to more)
  both_raise of_is items_are = record { same = plans.both_raise of_is items_are; quiet = λ none. tt; again = tt; tidy = λ known. tt; noteless = λ none. tt; orderly = λ last. tt }

  pub both_again : {o : ℕ} → may.again o → AlikeBy may r (raises_again o) (raises_again (r.objects o))
  both_again is = record { same = plans.both_again; quiet = λ none. tt; again = is; tidy = λ known. tt; noteless = λ none. tt; orderly = λ last. tt }

  pub both_end : AlikeBy may r ends ends
  both_end = record { same = plans.both_end; quiet = λ none. tt; again = tt; tidy = λ known. tt; noteless = λ none. tt; orderly = λ last. tt }

  pub both_run_away : AlikeBy may r runs_away runs_away
  both_run_away = record { same = plans.both_run_away; quiet = λ none. tt; again = tt; tidy = λ known. tt; noteless = λ none. tt; orderly = λ last. tt }

  -- an object that begins with its keys and their entries
  pub both_begin : {kind like : SeenKind} {all every : ℕ → Writes} → like ≡ renamed_kind r kind → ((o : ℕ) → AlikeWrites r (all o) (every (r.objects o))) → ((o : ℕ) → BeginsWith o (all o))
      → AlikeBy may r (makes kind all) (makes like every)
  both_begin {all = all} is both begins = record { same = plans.both_make is both; quiet = λ none. tt; again = tt; tidy = λ known o. inl (begins_fileless o (all o) (begins o)); noteless = λ none o. begins_noteless o (all o) (begins o); orderly = λ last o. inr (begins o) }

  -- what follows the reading of an entry, and may write it
  pub after_any : {last : LastRead} {p q : Plan} → AlikeBy may r p q → AlikeAfter last may r p q
  after_any {last} both = record { same = both.same; quiet = both.quiet; again = both.again; tidy = both.tidy; noteless = both.noteless; orderly = both.orderly last }

  pub after_writes : {last : LastRead} {all every : Writes} → AlikeWrites r all every → WritesEntry last all → AlikeAfter last may r (writes all) (writes every)
  after_writes {last} {all} both how = record { same = plans.both_writes both; quiet = λ none. tt; again = tt; tidy = λ known. entry_fileless last all how; noteless = λ none. entry_noteless last all how; orderly = inr how }

  pub both_read_entry_and_write : {o : ℕ} {key : Contents} {go gone : Option (Contents × Contents) → Plan}
      → ((e : Option (Contents × Contents)) → AlikeAfter (entry_read o key e) may r (go e) (gone (renamed_entry r e)))
      → AlikeBy may r (read_entry o key go) (read_entry (r.objects o) (renamed r key) gone)
  both_read_entry_and_write each = record { same = plans.both_read_entry (λ e. (each e).same); quiet = λ none e. (each e).quiet none; again = λ e. (each e).again; tidy = λ known e. (each e).tidy known; noteless = λ none e. (each e).noteless none; orderly = λ last e. (each e).orderly }
