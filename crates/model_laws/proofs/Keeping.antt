-- Operations keep the pairs of dictionaries and instances: each order has its entries, and no others are there.
use Rattle.std.proofs.Common.{◌≡◌, ◌∙◌, ◌⊎◌, refl, sym, ap, subst, inl, inr, eqb-true, ℕ, ◌+◌, ◌==◌, Bool, true, false, List, [], ◌∷◌, length, slice_get, Option, Some, None, codes}
use Rattle.py_value.specs.Changes.{changed, after_accesses}
use Rattle.py_value.specs.Contents.{Contents, text, tuple}
use Rattle.py_value.specs.KeyOf.{normal}
use Rattle.py_value.specs.Same.{put}
use Rattle.py_value.specs.Seen.{SeenLocation, SeenContent, SeenKind, SeenAccess, entry_at, order_at, file_at, item_at, order_is, key_inserted, key_deleted}
use Rattle.py_model.specs.Dicts.{with_pair, set_entries}
use Rattle.py_model.specs.Effect.{Effect, Answers, written, lacking, effect, after, accesses_in, parts_of}
use Rattle.py_model.specs.Orderly.{IsNoKeyPlace, SetsPlainly, WritesPlainly, LastRead, other_read, entry_read, WritesEntry, resets, inserts, deletes, HasKeysApart, BeginsWith, IsOrderlyAfter}
use Rattle.py_model.specs.Plan.{Given, Found, Writes, write, change, move, opens, notes, done, done_at_end, Plan, read_var, read_len, read_item, read_entry, read_order, read_file, read_offset, read_closed, read_method, read_base, kind_of, name_of, was_opened, ask, fetch, looks, counts, prints, writes, makes, raises, raises_again, ends, runs_away}
use Rattle.py_model.specs.Store.{RunStore, var_of, len_of, item_of, entry_of, order_of, file_of, offset_of, closed_of, method_of, base_of, has_path, with_items, with_files, unset, opening}
use Rattle.model_laws.specs.Comparing.{HasDicts}
use Rattle.model_laws.specs.Reading.{pair_of, HasPairs, HasAllPairs, is_of}
use Rattle.model_laws.specs.TableDicts.{Pairs, HasNoNext, without_pair}
use Rattle.model_laws.proofs.Dicts.{entry_in, order_in, with_entry, with_order, entry_apart, order_apart, order_set, value_set, pair_put, pair_taken, pairs_read}
use Rattle.model_laws.proofs.Keys.{ValuesTested, keys_in}
use Rattle.model_laws.proofs.NewDicts.{entries_block, block_order, block_apart, block_entries, or_else, pair_alone}

abbrev with_map : RunStore → (SeenLocation → Option SeenContent) → RunStore
with_map s m = record s { at = m }

-- where entries and orders are the same, pairs are
same_pairs : (s t : RunStore) (o : ℕ) (pairs : Pairs) → t.at (order_at o) ≡ s.at (order_at o) → ((key : Contents) → t.at (entry_at o (normal key)) ≡ s.at (entry_at o (normal key))) → HasPairs s o pairs → HasPairs t o pairs
same_pairs s t o pairs order entries has = record {
  order_is = ap order_in order ∙ has.order_is;
  entries_are = λ key. ap entry_in (entries key) ∙ has.entries_are key;
  apart = has.apart;
}

-- a location that is no entry and no order is set
order_stays : (place : SeenLocation) (content : SeenContent) (m : SeenLocation → Option SeenContent) (o : ℕ) → IsNoKeyPlace place → put place content m (order_at o) ≡ m (order_at o)
order_stays (entry_at p form) content m o plain = absurd plain
order_stays (order_at p) content m o plain = absurd plain
order_stays place content m o plain = refl

entry_stays : (place : SeenLocation) (content : SeenContent) (m : SeenLocation → Option SeenContent) (o : ℕ) (form : Contents) → IsNoKeyPlace place → put place content m (entry_at o form) ≡ m (entry_at o form)
entry_stays (entry_at p other) content m o form plain = absurd plain
entry_stays (order_at p) content m o form plain = absurd plain
entry_stays place content m o form plain = refl

plain_place : (place : SeenLocation) (content : SeenContent) → SetsPlainly place content → IsNoKeyPlace place
plain_place (file_at path) content plain = tt
plain_place (entry_at o form) content plain = absurd plain
plain_place (order_at o) content plain = absurd plain
plain_place place content plain = tt

set_plainly : (s : RunStore) (place : SeenLocation) (content : SeenContent) (m : SeenLocation → Option SeenContent) → IsNoKeyPlace place → HasAllPairs (with_map s m) → HasAllPairs (with_map s (put place content m))
set_plainly s place content m plain all o = ((all o).0, same_pairs (with_map s m) (with_map s (put place content m)) o (all o).0 (order_stays place content m o plain) (λ key. entry_stays place content m o (normal key) plain) (all o).1)

module _ (store : RunStore) where
  plain_kept : (made : Option SeenKind) (all : Writes) (m : SeenLocation → Option SeenContent) → WritesPlainly all → HasAllPairs (with_map store m)
      → HasAllPairs (with_map store (after_accesses (accesses_in (written store made all).touches) m))
  plain_kept made (write place content rest) m plain has = plain_kept made rest (put place content m) plain.1 (set_plainly store place content m (plain_place place content plain.0) has)
  plain_kept made (change place how rest) m plain has = plain_kept made rest (put place (changed how (m place)) m) plain.1 (set_plainly store place (changed how (m place)) m plain.0 has)
  plain_kept made (move o from to rest) m plain has = plain_kept made rest _ plain (set_plainly store (item_at o to) _ m tt has)
  plain_kept made (opens path rest) m plain has = plain_kept made rest m plain has
  plain_kept made (notes place name rest) m plain has = plain_kept made rest m plain has
  plain_kept made (done answer) m plain has = has
  plain_kept made done_at_end m plain has = has

-- one object changes, and all others stay
one_changed : (s t : RunStore) (o : ℕ) (pairs : Pairs) → HasAllPairs s → HasPairs t o pairs → ((l : SeenLocation) → is_of o l ≡ false → t.at l ≡ s.at l) → HasAllPairs t
one_changed s t o pairs all here apart p = by_test (o == p) refl
  where
    by_test : (b : Bool) → (o == p) ≡ b → (some : Pairs) × HasPairs t p some
    by_test true is = (pairs, subst (λ (q : ℕ). HasPairs t q pairs) (eqb-true o p is) here)
    by_test false is = ((all p).0, same_pairs s t p (all p).0 (apart (order_at p) is) (λ key. apart (entry_at p (normal key)) is) (all p).1)

-- an object begins with its pairs
entries_after : (store : RunStore) (made : Option SeenKind) (o : ℕ) (answer : Contents) (pairs : Pairs) (s : RunStore)
    → after_accesses (accesses_in (written store made (set_entries o pairs (done answer))).touches) s.at ≡ (entries_block o pairs s).at
entries_after store made o answer [] s = refl
entries_after store made o answer (pair ∷ pairs) s = entries_after store made o answer pairs (with_entry o pair.0 (Some pair) s)

module _ (tested : ValuesTested) (store : RunStore) (all : HasAllPairs store) (fresh : HasNoNext store) where
  abbrev AreKept : List SeenAccess → Type 0
  AreKept accesses = HasAllPairs (with_map store (after_accesses accesses store.at))

  -- the entry that was read is as it was read
  abbrev Holds : LastRead → Type 0
  Holds other_read = Unit {0}
  Holds (entry_read o key entry) = entry_of store o key ≡ entry

  found_there : (o : ℕ) (key : Contents) (entry : Option (Contents × Contents)) → entry_of store o key ≡ entry → pair_of key (all o).0 ≡ entry
  found_there o key entry is = sym ((all o).1.entries_are key) ∙ is

  reset_kept : (o : ℕ) (key item : Contents) (pair : Contents × Contents) → entry_of store o key ≡ Some pair → HasAllPairs (with_entry o key (Some (pair.0, item)) store)
  reset_kept o key item pair is = one_changed store (with_entry o key (Some (pair.0, item)) store) o (with_pair key item (all o).0) all
      (value_set tested store o (all o).0 (all o).1 key item pair (found_there o key (Some pair) is)) (entry_apart store o key (Some (pair.0, item)))

  inserted_kept : (o : ℕ) (key item : Contents) → entry_of store o key ≡ None → HasAllPairs (with_order o (changed (key_inserted key) (store.at (order_at o))) (with_entry o key (Some (key, item)) store))
  inserted_kept o key item is = one_changed store (with_order o (changed (key_inserted key) (store.at (order_at o))) (with_entry o key (Some (key, item)) store)) o (with_pair key item (all o).0) all
      (pair_put tested store o (all o).0 (all o).1 key item (found_there o key None is))
      (λ l apart. order_apart (with_entry o key (Some (key, item)) store) o (changed (key_inserted key) (store.at (order_at o))) l apart ∙ entry_apart store o key (Some (key, item)) l apart)

  deleted_kept : (o : ℕ) (key : Contents) (pair : Contents × Contents) → entry_of store o key ≡ Some pair → HasAllPairs (with_order o (changed (key_deleted pair.0) (store.at (order_at o))) (with_entry o key None store))
  deleted_kept o key pair is = one_changed store (with_order o (changed (key_deleted pair.0) (store.at (order_at o))) (with_entry o key None store)) o (without_pair key (all o).0) all
      (pair_taken tested store o (all o).0 (all o).1 key pair (found_there o key (Some pair) is))
      (λ l apart. order_apart (with_entry o key None store) o (changed (key_deleted pair.0) (store.at (order_at o))) l apart ∙ entry_apart store o key None l apart)

  again : (s t : RunStore) → s.at ≡ t.at → HasAllPairs s → HasAllPairs t
  again s t same has o = ((has o).0, same_pairs s t o (has o).0 (ap (λ (m : SeenLocation → Option SeenContent). m (order_at o)) (sym same)) (λ key. ap (λ (m : SeenLocation → Option SeenContent). m (entry_at o (normal key))) (sym same)) (has o).1)

  entry_kept : (last : LastRead) (some : Writes) → WritesEntry last some → Holds last → AreKept (accesses_in (written store None some).touches)
  entry_kept _ _ (resets {o} {key} {item} {pair}) holds = reset_kept o key item pair holds
  entry_kept _ _ (inserts {o} {key} {item}) holds = inserted_kept o key item holds
  entry_kept _ _ (deletes {o} {key} {pair}) holds = deleted_kept o key pair holds

  abbrev begun : Pairs → RunStore
  begun pairs = entries_block (length store.kinds) pairs (with_order (length store.kinds) (order_is (keys_in pairs)) store)

  begun_kept : (pairs : Pairs) → HasKeysApart pairs → HasAllPairs (begun pairs)
  begun_kept pairs apart =
      let o = length store.kinds in
      let s = with_order o (order_is (keys_in pairs)) store in
      one_changed store (begun pairs) o pairs all
      (record {
        order_is = block_order o pairs s ∙ order_set store o (order_is (keys_in pairs));
        entries_are = λ key. block_entries tested o pairs s key apart ∙ ap (or_else (pair_of key pairs)) (fresh key) ∙ pair_alone tested (pair_of key pairs);
        apart = apart;
      })
      (λ l away. block_apart o pairs s l away ∙ order_apart store o (order_is (keys_in pairs)) l away)

  begins_kept : (made : Option SeenKind) (some : Writes) → BeginsWith (length store.kinds) some → AreKept (accesses_in (written store made some).touches)
  begins_kept made some begins = subst (λ (w : Writes). AreKept (accesses_in (written store made w).touches)) (sym begins.writes_are)
      (again (begun begins.pairs) (with_map store (after_accesses (accesses_in (written store made (set_entries (length store.kinds) begins.pairs (done begins.answer))).touches) (with_order (length store.kinds) (order_is (keys_in begins.pairs)) store).at))
      (sym (entries_after store made (length store.kinds) begins.answer begins.pairs (with_order (length store.kinds) (order_is (keys_in begins.pairs)) store))) (begun_kept begins.pairs begins.apart))

  written_kept : (last : LastRead) (some : Writes) → Holds last → WritesPlainly some ⊎ WritesEntry last some → AreKept (accesses_in (written store None some).touches)
  written_kept last some holds (inl plain) = plain_kept store None some store.at plain all
  written_kept last some holds (inr how) = entry_kept last some how holds

  made_kept : (kind : SeenKind) (some : Writes) → WritesPlainly some ⊎ BeginsWith (length store.kinds) some → AreKept (accesses_in (written store (Some kind) some).touches)
  made_kept kind some (inl plain) = plain_kept store (Some kind) some store.at plain all
  made_kept kind some (inr begins) = begins_kept (Some kind) some begins

  module _ (answers : Answers) where
    abbrev IsKept : Plan → Type 0
    IsKept p = AreKept (accesses_in (effect store answers p).touches)

    given_kept : (go : Given → Plan) → ((given : Given) → IsKept (go given)) → (found : Option Given)
        → AreKept (accesses_in (elim found as (λ f. Effect) [ None ↦ lacking store | Some given ↦ effect store answers (go given) ]).touches)
    given_kept go each None = all
    given_kept go each (Some given) = each given

    found_kept : (go : Found → Plan) → ((found : Found) → IsKept (go found)) → (at : Option Found)
        → AreKept (accesses_in (elim at as (λ f. Effect) [ None ↦ lacking store | Some found ↦ effect store answers (go found) ]).touches)
    found_kept go each None = all
    found_kept go each (Some found) = each found

    pub plan_kept : (p : Plan) (last : LastRead) → Holds last → IsOrderlyAfter last p → IsKept p
    plan_kept (read_var scope name go) last holds orderly = plan_kept (go (var_of store scope name)) other_read tt (orderly (var_of store scope name))
    plan_kept (read_len o go) last holds orderly = plan_kept (go (len_of store o)) other_read tt (orderly (len_of store o))
    plan_kept (read_item o i go) last holds orderly = plan_kept (go (item_of store o i)) other_read tt (orderly (item_of store o i))
    plan_kept (read_entry o key go) last holds orderly = plan_kept (go (entry_of store o key)) (entry_read o key (entry_of store o key)) refl (orderly (entry_of store o key))
    plan_kept (read_order o go) last holds orderly = plan_kept (go (order_of store o)) other_read tt (orderly (order_of store o))
    plan_kept (read_file path go) last holds orderly = plan_kept (go (file_of store path)) other_read tt (orderly (file_of store path))
    plan_kept (read_offset o go) last holds orderly = plan_kept (go (offset_of store o)) other_read tt (orderly (offset_of store o))
    plan_kept (read_closed o go) last holds orderly = plan_kept (go (closed_of store o)) other_read tt (orderly (closed_of store o))
    plan_kept (read_method place name go) last holds orderly = plan_kept (go (method_of store place name)) other_read tt (orderly (method_of store place name))
    plan_kept (read_base place go) last holds orderly = plan_kept (go (base_of store place)) other_read tt (orderly (base_of store place))
    plan_kept (kind_of o go) last holds orderly = plan_kept (go (slice_get store.kinds o)) other_read tt (orderly (slice_get store.kinds o))
    plan_kept (name_of place go) last holds orderly = plan_kept (go (store.names place)) other_read tt (orderly (store.names place))
    plan_kept (was_opened path go) last holds orderly = plan_kept (go (has_path path store.opened)) other_read tt (orderly (has_path path store.opened))
    plan_kept (ask what go) last holds orderly = given_kept go (λ given. plan_kept (go given) other_read tt (orderly given)) (answers.given what)
    plan_kept (fetch path go) last holds orderly = found_kept go (λ found. plan_kept (go found) other_read tt (orderly found)) (answers.found path)
    plan_kept (looks n rest) last holds orderly = plan_kept rest other_read tt orderly
    plan_kept (counts n rest) last holds orderly = plan_kept rest other_read tt orderly
    plan_kept (prints bytes rest) last holds orderly = plan_kept rest other_read tt orderly
    plan_kept (writes some) last holds orderly = written_kept last some holds orderly
    plan_kept (makes kind some) last holds orderly = made_kept kind (some (length store.kinds)) (orderly (length store.kinds))
    plan_kept (raises of items) last holds orderly = begun_kept ((text (codes "args"), tuple (parts_of items)) ∷ []) (tt, tt)
    plan_kept (raises_again o) last holds orderly = all
    plan_kept ends last holds orderly = all
    plan_kept runs_away last holds orderly = all

pub effect_kept : (store : RunStore) (answers : Answers) (p : Plan) → (after (effect store answers p) store).at ≡ after_accesses (accesses_in (effect store answers p).touches) store.at
    → HasAllPairs (with_map store (after_accesses (accesses_in (effect store answers p).touches) store.at)) → HasAllPairs (after (effect store answers p) store)
effect_kept store answers p same has o = (
  (has o).0,
  same_pairs (with_map store (after_accesses (accesses_in (effect store answers p).touches) store.at)) (after (effect store answers p) store) o (has o).0
      (ap (λ (m : SeenLocation → Option SeenContent). m (order_at o)) same) (λ key. ap (λ (m : SeenLocation → Option SeenContent). m (entry_at o (normal key))) same) (has o).1,
)

-- a dictionary has the pairs that are read of it
pub dicts_there : ValuesTested → (store : RunStore) → HasAllPairs store → HasDicts store
dicts_there tested store all o is = record { kind_is = is; has_pairs = subst (λ (pairs : Pairs). HasPairs store o pairs) (pairs_read tested store o (all o).0 (all o).1) (all o).1 }

-- a run begins with no pairs
items_order : (o i : ℕ) (words : List (List ℕ)) (m : SeenLocation → Option SeenContent) (p : ℕ) → with_items o i words m (order_at p) ≡ m (order_at p)
items_order o i [] m p = refl
items_order o i (word ∷ words) m p = items_order o (i + 1) words m p

items_entry : (o i : ℕ) (words : List (List ℕ)) (m : SeenLocation → Option SeenContent) (p : ℕ) (form : Contents) → with_items o i words m (entry_at p form) ≡ m (entry_at p form)
items_entry o i [] m p form = refl
items_entry o i (word ∷ words) m p form = items_entry o (i + 1) words m p form

files_order : (files : List (List ℕ × List ℕ)) (p : ℕ) → with_files files unset (order_at p) ≡ Some (order_is [])
files_order [] p = refl
files_order (file ∷ files) p = files_order files p

files_entry : (files : List (List ℕ × List ℕ)) (p : ℕ) (form : Contents) → with_files files unset (entry_at p form) ≡ None
files_entry [] p form = refl
files_entry (file ∷ files) p form = files_entry files p form

pub begins_with_pairs : (path : List ℕ) (arguments : List (List ℕ)) (files : List (List ℕ × List ℕ)) → HasAllPairs (opening path arguments files)
begins_with_pairs path arguments files o = (
  [],
  record {
    order_is = ap order_in (items_order 0 0 (path ∷ arguments) (with_files files unset) o ∙ files_order files o);
    entries_are = λ key. ap entry_in (items_entry 0 0 (path ∷ arguments) (with_files files unset) o (normal key) ∙ files_entry files o (normal key));
    apart = tt;
  },
)
