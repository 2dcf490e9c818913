-- A plan that goes on with the bytes that are held of a file, in place of those that it reads.
use Rattle.std.proofs.Common.{◌≡◌, refl, sym, ap, subst, ◌∙◌, ℕ, ◌<◌, Bool, true, false, List, length, Option, Some, None, IfSome, Result, Ok, Err, arith, unwrap_or, if◌then◌else◌}
use Rattle.std.specs.Option.{option_map}
use Rattle.std.specs.Str.{bytes_eq}
use Rattle.std.proofs.Math.Path.{fun_ext}
use Rattle.std.proofs.lemmas.Slice.Eq.{bytes_eq-Decides}
use Rattle.object_store.specs.Keyed.{SeenMap, IsKeyed}
use Rattle.object_store.specs.Performing.{SuitInTurn}
use Rattle.object_store.specs.Store.{IsReadWhole, file_at as held_file}
use Rattle.op_devices.specs.Opening.{EndsAt}
use Rattle.op_state.specs.Happening.{IsBegun}
use Rattle.op_parts.specs.Files.{FinishesAt}
use Rattle.op_state.specs.Held.{HeldView, Finishes, FinishesAll, IsFinished}
use Rattle.op_state.proofs.MixedFiles.{Files, mixed}
use Rattle.op_state.proofs.PathNumbers.{text_there}
use Rattle.op_work.specs.declared.stop.Stop.{Stop}
use Rattle.op_work.specs.declared.stop.Stop.TheVariants.{Raises, TooDear, Memory as NoMemory}
use Rattle.op_work.specs.Work.{WorkView, Extends, IsSeen, Goes, IsDear, Leads, under, ended, raising, EndedSo, Ends}
use Rattle.prov_base.specs.declared.refusal.Memory.{Memory as Want}
use Rattle.py_model.specs.Effect.{Answers, Effect, accessed, looked, counted, printed, opened, noted, asked, fetched, touching, written, lacking, effect, accesses_in, after}
use Rattle.py_model.specs.Plan.{Given, Found, Plan, Writes, write, change, move, opens, notes, done, done_at_end, read_var, read_len, read_item, read_entry, read_order, read_file, read_offset, read_closed, read_method, read_base, kind_of, name_of, was_opened, ask, fetch, looks, counts, prints, writes, makes, raises, raises_again, ends, runs_away}
use Rattle.py_model.specs.Store.{RunStore, has_path, var_of, len_of, item_of, entry_of, order_of, file_of, offset_of, closed_of, method_of, base_of}
use Rattle.py_model.specs.declared.doer.Deed.{Deed}
use Rattle.py_model.specs.declared.moment.Answer.{Answer as OneAnswer}
use Rattle.py_value.specs.Contents.{tuple, no_parts}
use Rattle.py_value.specs.KeyOf.{normal}
use Rattle.py_value.specs.Seen.{SeenLocation, SeenContent, SeenKind, var_at, len_at, item_at, entry_at, order_at, file_at, offset_at, closed_at, method_at, base_at, file_is, item_is, reads, sets, updates, location_seen, bytes_of}
use Rattle.py_value.specs.Values.{ValuesView, AreInterned}
use Rattle.py_value.specs.declared.access.Location.{Location}
use Rattle.py_value.specs.declared.access.Location.TheVariants.{Var, Len, Item, Entry, Order, File, Offset, Closed, Method, Base}

abbrev pub with_file : List ℕ → Option (List ℕ) → Plan → Plan
with_file p h (read_var scope name go) = read_var scope name (λ v. with_file p h (go v))
with_file p h (read_len o go) = read_len o (λ n. with_file p h (go n))
with_file p h (read_item o i go) = read_item o i (λ v. with_file p h (go v))
with_file p h (read_entry o key go) = read_entry o key (λ entry. with_file p h (go entry))
with_file p h (read_order o go) = read_order o (λ keys. with_file p h (go keys))
with_file p h (read_file path go) = read_file path (λ bytes. with_file p h (go (if bytes_eq path p then h else bytes)))
with_file p h (read_offset o go) = read_offset o (λ n. with_file p h (go n))
with_file p h (read_closed o go) = read_closed o (λ b. with_file p h (go b))
with_file p h (read_method place name go) = read_method place name (λ at. with_file p h (go at))
with_file p h (read_base place go) = read_base place (λ v. with_file p h (go v))
with_file p h (kind_of o go) = kind_of o (λ kind. with_file p h (go kind))
with_file p h (name_of place go) = name_of place (λ name. with_file p h (go name))
with_file p h (was_opened path go) = was_opened path (λ b. with_file p h (go b))
with_file p h (ask what go) = ask what (λ given. with_file p h (go given))
with_file p h (fetch path go) = fetch path (λ found. with_file p h (go found))
with_file p h (looks n rest) = looks n (with_file p h rest)
with_file p h (counts n rest) = counts n (with_file p h rest)
with_file p h (prints bytes rest) = prints bytes (with_file p h rest)
with_file p h (writes all) = writes all
with_file p h (makes kind all) = makes kind all
with_file p h (raises of items) = raises of items
with_file p h (raises_again o) = raises_again o
with_file p h ends = ends
with_file p h runs_away = runs_away

-- a store with other files
abbrev pub with_files : Files → RunStore → RunStore
with_files files store = record store { at = mixed files store.at }

mixed_same : (at : SeenMap) (place : SeenLocation) → mixed (λ path. at (file_at path)) at place ≡ at place
mixed_same at (var_at scope name) = refl
mixed_same at (len_at o) = refl
mixed_same at (item_at o i) = refl
mixed_same at (entry_at o key) = refl
mixed_same at (order_at o) = refl
mixed_same at (file_at path) = refl
mixed_same at (offset_at o) = refl
mixed_same at (closed_at o) = refl
mixed_same at (method_at place name) = refl
mixed_same at (base_at place) = refl

own_files : (store : RunStore) → with_files (λ path. store.at (file_at path)) store ≡ store
own_files store = ap (λ at. record store { at = at }) (fun_ext (mixed_same store.at))

-- in a store with other files a plan comes to what the plan with a file's bytes comes to
module _ (p : List ℕ) (h : Option (List ℕ)) (store : RunStore) (files : Files)
    (same : (path : List ℕ) → file_of (with_files files store) path ≡ (if bytes_eq path p then h else file_of store path)) where
  abbrev pub other : RunStore
  other = with_files files store

  same_written : (made : Option SeenKind) (all : Writes) → written store made all ≡ written other made all
  same_written made (write l content rest) = ap (touching (accessed (sets l content))) (same_written made rest)
  same_written made (change l how rest) = ap (touching (accessed (updates l how))) (same_written made rest)
  same_written made (move o from to rest) = ap (λ e. touching (accessed (reads (item_at o from))) (touching (accessed (sets (item_at o to) (item_is (unwrap_or (item_of store o from) (tuple no_parts))))) e)) (same_written made rest)
  same_written made (opens path rest) = ap (touching (opened path)) (same_written made rest)
  same_written made (notes place name rest) = ap (touching (noted place name)) (same_written made rest)
  same_written made (done answer) = refl
  same_written made done_at_end = refl

  module _ (answers : Answers) where
    abbrev given_in_this : (Given → Plan) → Option Given → Effect
    given_in_this go None = lacking store
    given_in_this go (Some x) = effect store answers (with_file p h (go x))

    abbrev given_in_other : (Given → Plan) → Option Given → Effect
    given_in_other go None = lacking other
    given_in_other go (Some x) = effect other answers (go x)

    abbrev found_in_this : (Found → Plan) → Option Found → Effect
    found_in_this go None = lacking store
    found_in_this go (Some x) = effect store answers (with_file p h (go x))

    abbrev found_in_other : (Found → Plan) → Option Found → Effect
    found_in_other go None = lacking other
    found_in_other go (Some x) = effect other answers (go x)

    pub same_effect : (q : Plan) → effect store answers (with_file p h q) ≡ effect other answers q
    same_effect (read_var scope name go) = ap (touching (accessed (reads (var_at scope name)))) (same_effect (go (var_of store scope name)))
    same_effect (read_len o go) = ap (touching (accessed (reads (len_at o)))) (same_effect (go (len_of store o)))
    same_effect (read_item o i go) = ap (touching (accessed (reads (item_at o i)))) (same_effect (go (item_of store o i)))
    same_effect (read_entry o key go) = ap (touching (accessed (reads (entry_at o (normal key))))) (same_effect (go (entry_of store o key)))
    same_effect (read_order o go) = ap (touching (accessed (reads (order_at o)))) (same_effect (go (order_of store o)))
    same_effect (read_file path go) = ap (touching (accessed (reads (file_at path))))
        (ap (λ bytes. effect store answers (with_file p h (go bytes))) (sym (same path)) ∙ same_effect (go (file_of other path)))
    same_effect (read_offset o go) = ap (touching (accessed (reads (offset_at o)))) (same_effect (go (offset_of store o)))
    same_effect (read_closed o go) = ap (touching (accessed (reads (closed_at o)))) (same_effect (go (closed_of store o)))
    same_effect (read_method place name go) = ap (touching (accessed (reads (method_at place name)))) (same_effect (go (method_of store place name)))
    same_effect (read_base place go) = ap (touching (accessed (reads (base_at place)))) (same_effect (go (base_of store place)))
    same_effect (kind_of o go) = same_effect (go _)
    same_effect (name_of place go) = same_effect (go (store.names place))
    same_effect (was_opened path go) = same_effect (go (has_path path store.opened))
    same_effect (ask what go) = ap (touching (asked what)) (by_given (answers.given what) (λ given. same_effect (go given)))
      where
        by_given : (given : Option Given) → ((x : Given) → effect store answers (with_file p h (go x)) ≡ effect other answers (go x))
            → given_in_this go given ≡ given_in_other go given
        by_given (Some x) later = later x
        by_given None later = refl
    same_effect (fetch path go) = ap (touching (fetched path)) (by_found (answers.found path) (λ found. same_effect (go found)))
      where
        by_found : (found : Option Found) → ((x : Found) → effect store answers (with_file p h (go x)) ≡ effect other answers (go x))
            → found_in_this go found ≡ found_in_other go found
        by_found (Some x) later = later x
        by_found None later = refl
    same_effect (looks n rest) = ap (touching (looked n)) (same_effect rest)
    same_effect (counts n rest) = ap (touching (counted n)) (same_effect rest)
    same_effect (prints bytes rest) = ap (touching (printed bytes)) (same_effect rest)
    same_effect (writes all) = same_written None all
    same_effect (makes kind all) = same_written (Some kind) (all (length store.kinds))
    same_effect (raises of items) = refl
    same_effect (raises_again o) = refl
    same_effect ends = refl
    same_effect runs_away = refl

-- bytes of a content
abbrev bytes_in : Option SeenContent → Option (List ℕ)
bytes_in (Some (file_is bytes)) = Some bytes
bytes_in content = None

-- where the run has the file as it is held, the plan with the bytes that are held comes to what the plan does
pub has_effect : (p : List ℕ) (h : Option (List ℕ)) (store : RunStore) → file_of store p ≡ h → (answers : Answers) (q : Plan) → effect store answers (with_file p h q) ≡ effect store answers q
has_effect p h store has answers q = same_effect p h store (λ path. store.at (file_at path)) (λ path. by_test path (bytes_eq path p) refl) answers q
    ∙ ap (λ s. effect s answers q) (own_files store)
  where
    by_test : (path : List ℕ) (b : Bool) → bytes_eq path p ≡ b → file_of store path ≡ (if b then h else file_of store path)
    by_test path true is = ap (file_of store) ((bytes_eq-Decides path p).0 is) ∙ has
    by_test path false is = refl

-- the run with a file as it is held
abbrev set_file : List ℕ → Option (List ℕ) → RunStore → Files
set_file p h store path = if bytes_eq path p then option_map file_is h else store.at (file_at path)

set_bytes : (b : Bool) (h : Option (List ℕ)) (c : Option SeenContent) → bytes_in (if b then option_map file_is h else c) ≡ (if b then h else bytes_in c)
set_bytes true (Some bytes) c = refl
set_bytes true None c = refl
set_bytes false h c = refl

module _ (p : List ℕ) (h : Option (List ℕ)) (store : RunStore) where
  abbrev set_store : RunStore
  set_store = with_files (set_file p h store) store

  set_same : (path : List ℕ) → file_of set_store path ≡ (if bytes_eq path p then h else file_of store path)
  set_same path = set_bytes (bytes_eq path p) h (store.at (file_at path))

-- what is read whole is no file
whole_same : (files : Files) (at : SeenMap) (table : ValuesView) (l : Location) → IsReadWhole l → mixed files at (location_seen table l) ≡ at (location_seen table l)
whole_same files at table (Var scope name) is = refl
whole_same files at table (Len o) is = refl
whole_same files at table (Item o i) is = refl
whole_same files at table (Entry o key) is = refl
whole_same files at table (Order o) is = absurd is
whole_same files at table (File path) is = absurd is
whole_same files at table (Offset o) is = refl
whole_same files at table (Closed o) is = refl
whole_same files at table (Method place name) is = refl
whole_same files at table (Base place) is = refl

-- What ended where the run has the file ended anywhere as the plan with the bytes that are held.
module _ (path : ℕ) {plan : ValuesView → Plan} {a b : WorkView} {result : Result OneAnswer Stop} (within : path < length a.values.texts) (at_path : EndsAt (Some path) plan a b result) where
  abbrev pub held_plan : ValuesView → Plan
  held_plan table = with_file (bytes_of table path) (held_file a.store path) (plan table)

  one_path : (table : ValuesView) → AreInterned table → Extends b.values table → (q : ℕ) → q < length table.texts → bytes_of table q ≡ bytes_of table path → q ≡ path
  one_path table interned extends q q_within is =
      let more : path < length table.texts = omega (arith, within, at_path.extends.few.0, extends.few.0) in
      interned.texts_once q path (bytes_of table q) (text_there table.texts q q_within) (text_there table.texts path more ∙ ap Some (sym is))

  set_seen : (table : ValuesView) (store : RunStore) → Extends b.values table → IsSeen table a.store store → IsSeen table a.store (set_store (bytes_of table path) (held_file a.store path) store)
  set_seen table store extends seen = record {
    interned = seen.interned;
    whole = λ l is_whole named. whole_same (set_file (bytes_of table path) (held_file a.store path) store) store.at table l is_whole ∙ seen.whole l is_whole named;
    orders = seen.orders;
    files = λ q q_within there. set_same (bytes_of table path) (held_file a.store path) store (bytes_of table q) ∙ by_test q (bytes_eq (bytes_of table q) (bytes_of table path)) refl q_within (seen.files q q_within there);
    opened_files = seen.opened_files;
    kinds_are = seen.kinds_are;
    names_are = seen.names_are;
  }
    where
      by_test : (q : ℕ) (test : Bool) → bytes_eq (bytes_of table q) (bytes_of table path) ≡ test → q < length table.texts → file_of store (bytes_of table q) ≡ held_file a.store q
          → (if test then held_file a.store path else file_of store (bytes_of table q)) ≡ held_file a.store q
      by_test q true is q_within also = ap (held_file a.store) (sym (one_path table seen.interned extends q q_within ((bytes_eq-Decides (bytes_of table q) (bytes_of table path)).0 is)))
      by_test q false is q_within also = also

  set_effect : (table : ValuesView) (store : RunStore) → under (set_store (bytes_of table path) (held_file a.store path) store) (plan table) ≡ under store (held_plan table)
  set_effect table store = fun_ext (λ answers. sym (same_effect (bytes_of table path) (held_file a.store path) store (set_file (bytes_of table path) (held_file a.store path) store)
      (set_same (bytes_of table path) (held_file a.store path) store) answers (plan table)))

  pub ends_with : Ends held_plan a b result
  ends_with = record {
    store_is = at_path.store_is;
    left_is = at_path.left_is;
    extends = at_path.extends;
    is_named = at_path.is_named;
    came = λ table store extends seen. by_result table store result (at_path.came table (set_store (bytes_of table path) (held_file a.store path) store) extends (set_seen table store extends seen) (has_set table store));
  }
    where
      has_set : (table : ValuesView) (store : RunStore) → file_of (set_store (bytes_of table path) (held_file a.store path) store) (bytes_of table path) ≡ held_file a.store path
      has_set table store = set_same (bytes_of table path) (held_file a.store path) store (bytes_of table path)
          ∙ ap (λ test. if test then held_file a.store path else file_of store (bytes_of table path)) ((bytes_eq-Decides (bytes_of table path) (bytes_of table path)).1 refl)

      by_result : (table : ValuesView) (store : RunStore) (r : Result OneAnswer Stop) → EndedSo plan table (set_store (bytes_of table path) (held_file a.store path) store) a b r → EndedSo held_plan table store a b r
      by_result table store (Ok answer) came = subst (λ (first : Leads). Goes table a b first (ended table b answer)) (set_effect table store) came
      by_result table store (Err (Raises class argument)) came = subst (λ (first : Leads). Goes table a b first (under store (raising table class argument))) (set_effect table store) came
      by_result table store (Err TooDear) came = subst (λ (first : Leads). IsDear a first) (set_effect table store) came
      by_result table store (Err NoMemory) came = tt

-- what ends where nothing is asked of a file
ends_free : {plan : ValuesView → Plan} {a b : WorkView} {result : Result OneAnswer Stop} → EndsAt None plan a b result → Ends plan a b result
ends_free at_none = record {
  store_is = at_none.store_is;
  left_is = at_none.left_is;
  extends = at_none.extends;
  is_named = at_none.is_named;
  came = λ table store extends seen. at_none.came table store extends seen tt;
}

module _ (plan : ValuesView → Plan) (old new : HeldView) (answer : Result OneAnswer Stop) (began : WorkView) (is_begun : IsBegun began) where
  abbrev pub start : HeldView
  start = record old { work = began }

  free_finish : (result : Result (Option Deed) Want) → Finishes plan start new result → FinishesAt None plan start new result
  free_finish (Ok (Some deed)) finishes = λ found table run answers extends stands has. finishes found table run answers extends stands
  free_finish (Ok None) finishes = (λ table store extends seen has. finishes.0 table store extends seen, finishes.1)
  free_finish (Err want) finishes = finishes

  path_finish : (path : ℕ) (result : Result (Option Deed) Want) → Finishes (λ table. with_file (bytes_of table path) (held_file began.store path) (plan table)) start new result
      → FinishesAt (Some path) plan start new result
  path_finish path (Ok (Some deed)) finishes = λ found table run answers extends stands has suits keyed.
      let same = has_effect (bytes_of table path) (held_file began.store path) run has answers (plan table) in
      subst (λ (e : Effect). IsFinished found table run e deed began.left new) same
      (finishes found table run answers extends stands (subst (λ (e : Effect). SuitInTurn run.at (accesses_in e.touches)) (sym same) suits) (subst (λ (e : Effect). IsKeyed (after e run).at) (sym same) keyed))
  path_finish path (Ok None) finishes = (
    λ table store extends seen has. subst (λ (first : Leads). IsDear began first)
        (fun_ext (λ answers. has_effect (bytes_of table path) (held_file began.store path) store has answers (plan table))) (finishes.0 table store extends seen),
    finishes.1,
  )
  path_finish path (Err want) finishes = finishes

  pub finishes_at : (path : Option ℕ) → IfSome path (λ p. p < length began.values.texts) → EndsAt path plan began old.work answer → (result : Result (Option Deed) Want) → FinishesAll old new answer result
      → FinishesAt path plan start new result
  finishes_at None named came result all = free_finish result (all plan began is_begun (ends_free came))
  finishes_at (Some path) named came result all = path_finish path result (all (held_plan path named came) began is_begun (ends_with path named came))
