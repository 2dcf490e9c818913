-- What orderly plans write suits a map whose orders have their entries, and keeps it so.
use Rattle.std.proofs.Common.{◌≡◌, ◌↔◌, ◌⊎◌, inl, inr, ℕ, Bool, true, false, List, [], ◌∷◌, map, length, slice_get, Option, Some, None, if◌then◌else◌, codes, refl, sym, ap, subst, ◌∙◌}
use Rattle.std.proofs.lemmas.Bool.{false≢true}
use Rattle.object_store.specs.Keyed.{SeenMap, HasFirst, IsUnder, IsKeyed, IsPlainPlace, IsPlain, ArePlain, firsts, entries_set}
use Rattle.object_store.specs.Performing.{AreApart, IsOnly, SuitInTurn, keys_among}
use Rattle.py_model.specs.Dicts.{set_entries}
use Rattle.py_model.specs.Effect.{Effect, Answers, written, lacking, effect, accesses_in, parts_of}
use Rattle.py_model.specs.Orderly.{IsNoKeyPlace, SetsPlainly, WritesPlainly, LastRead, other_read, entry_read, WritesEntry, resets, inserts, deletes, HasNoKey, HasKeysApart, BeginsWith, IsOrderlyAfter}
use Rattle.py_model.specs.Plan.{Given, Found, Writes, write, change, move, opens, notes, done, done_at_end, Plan, read_var, read_len, read_item, read_entry, read_order, read_file, read_offset, read_closed, read_method, read_base, kind_of, name_of, was_opened, ask, fetch, looks, counts, prints, writes, makes, raises, raises_again, ends, runs_away}
use Rattle.py_model.specs.Store.{RunStore, var_of, len_of, item_of, entry_of, order_of, file_of, offset_of, closed_of, method_of, base_of, has_path}
use Rattle.py_value.specs.Changes.{has_key, after_access, after_accesses}
use Rattle.py_value.specs.Contents.{Contents, text, tuple}
use Rattle.py_value.specs.KeyOf.{normal}
use Rattle.py_value.specs.Same.{same_value, same_location, put}
use Rattle.py_value.specs.Seen.{SeenLocation, SeenContent, SeenKind, SeenAccess, entry_at, order_at, file_at, entry_is, order_is, file_is, key_inserted, key_deleted, reads, sets, updates}

-- what the crates below say of a map and of accesses
pub record KeyLaws : Type 0 where
  pub values_tested : (v w : Contents) → (same_value v w ≡ true) ↔ (v ≡ w)
  pub places_tested : (l m : SeenLocation) → (same_location l m ≡ true) ↔ (l ≡ m)
  pub only : (seen : SeenMap) (o : ℕ) (key : Contents) → IsKeyed seen → HasFirst key (seen (entry_at o (normal key))) → IsOnly key (keys_among (seen (order_at o)))
  pub entry_set : (seen : SeenMap) (o : ℕ) (key value : Contents) → IsKeyed seen → HasFirst key (seen (entry_at o (normal key)))
      → IsKeyed (after_access (sets (entry_at o (normal key)) (entry_is (Some (key, value)))) seen)
  pub inserted : (seen : SeenMap) (o : ℕ) (key : Contents) → IsKeyed seen → IsUnder key (seen (entry_at o (normal key))) → IsKeyed (after_access (updates (order_at o) (key_inserted key)) seen)
  pub deleted : (seen : SeenMap) (o : ℕ) (key : Contents) → IsKeyed seen
      → IsKeyed (after_accesses (sets (entry_at o (normal key)) (entry_is None) ∷ updates (order_at o) (key_deleted key) ∷ []) seen)
  pub begun : (seen : SeenMap) (o : ℕ) (pairs : List (Contents × Contents)) → IsKeyed seen → AreApart (firsts pairs)
      → IsKeyed (after_accesses (sets (order_at o) (order_is (firsts pairs)) ∷ entries_set o pairs) seen)
  pub plain_keyed : (seen : SeenMap) (plan : List SeenAccess) → IsKeyed seen → ArePlain plan → IsKeyed (after_accesses plan seen)
  pub plain_suits : (seen : SeenMap) (plan : List SeenAccess) → ArePlain plan → SuitInTurn seen plan
  pub entries_suit : (seen : SeenMap) (o : ℕ) (pairs : List (Contents × Contents)) → SuitInTurn seen (entries_set o pairs)

-- accesses that suit a map and keep its keys with their entries
pub record AreGood (seen : SeenMap) (accesses : List SeenAccess) : Type 0 where
  pub suit : SuitInTurn seen accesses
  pub keyed : IsKeyed (after_accesses accesses seen)

after_read : {seen : SeenMap} {accesses : List SeenAccess} (l : SeenLocation) → AreGood seen accesses → AreGood seen (reads l ∷ accesses)
after_read l good = record { suit = (tt, good.suit); keyed = good.keyed }

-- an entry that is read, and what stands there
abbrev entry_in : Option SeenContent → Option (Contents × Contents)
entry_in (Some (entry_is entry)) = entry
entry_in other = None

none_some : (pair : Contents × Contents) → None ≡ Some pair → ⊥
none_some pair is = cc

some_none : (pair : Contents × Contents) → Some pair ≡ None → ⊥
some_none pair is = cc

pair_there : (found : Option SeenContent) (pair : Contents × Contents) → entry_in found ≡ Some pair → found ≡ Some (entry_is (Some pair))
pair_there (Some (entry_is (Some one))) pair is = ap (λ (e : Option (Contents × Contents)). Some (entry_is e)) is
pair_there found pair is = absurd (none_some pair is)

none_there : (key : Contents) (found : Option SeenContent) → entry_in found ≡ None → HasFirst key found
none_there key (Some (entry_is (Some pair))) is = absurd (some_none pair is)
none_there key found is = tt

-- writes of no entry and no order
set_plain : (place : SeenLocation) (content : SeenContent) → SetsPlainly place content → IsPlain (sets place content)
set_plain (file_at path) (file_is bytes) plain = plain
set_plain (entry_at o form) content plain = absurd plain
set_plain (order_at o) content plain = absurd plain
set_plain place content plain = tt

place_plain : (place : SeenLocation) → IsNoKeyPlace place → IsPlainPlace place
place_plain (entry_at o form) plain = absurd plain
place_plain (order_at o) plain = absurd plain
place_plain place plain = tt

firsts_are : (pairs : List (Contents × Contents)) → map (λ (pair : Contents × Contents). pair.0) pairs ≡ firsts pairs
firsts_are [] = refl
firsts_are (pair ∷ pairs) = ap (λ (keys : List Contents). pair.0 ∷ keys) (firsts_are pairs)

module _ (laws : KeyLaws) where
  put_is : (l : SeenLocation) (content : SeenContent) (seen : SeenMap) → put l content seen l ≡ Some content
  put_is l content seen = ap (λ b. if b then Some content else seen l) ((laws.places_tested l l).1 refl)

  lacks_key : (key : Contents) (pairs : List (Contents × Contents)) → HasNoKey key pairs → has_key key (firsts pairs) ≡ false
  lacks_key key [] none = refl
  lacks_key key (pair ∷ pairs) none = by_test (same_value (normal key) (normal pair.0)) refl (lacks_key key pairs none.1)
    where
      by_test : (b : Bool) → same_value (normal key) (normal pair.0) ≡ b → has_key key (firsts pairs) ≡ false → (if b then true else has_key key (firsts pairs)) ≡ false
      by_test true is more = absurd (false≢true (sym none.0 ∙ (laws.values_tested (normal pair.0) (normal key)).1 (sym ((laws.values_tested (normal key) (normal pair.0)).0 is))))
      by_test false is more = more

  keys_apart : (pairs : List (Contents × Contents)) → HasKeysApart pairs → AreApart (firsts pairs)
  keys_apart [] apart = tt
  keys_apart (pair ∷ pairs) apart = (lacks_key pair.0 pairs apart.0, keys_apart pairs apart.1)

  module _ (store : RunStore) (keyed : IsKeyed store.at) where
    plain_writes : (made : Option SeenKind) (all : Writes) → WritesPlainly all → ArePlain (accesses_in (written store made all).touches)
    plain_writes made (write place content rest) plain = (set_plain place content plain.0, plain_writes made rest plain.1)
    plain_writes made (change place how rest) plain = (place_plain place plain.0, plain_writes made rest plain.1)
    plain_writes made (move o from to rest) plain = (tt, (tt, plain_writes made rest plain))
    plain_writes made (opens path rest) plain = plain_writes made rest plain
    plain_writes made (notes place name rest) plain = plain_writes made rest plain
    plain_writes made (done answer) plain = tt
    plain_writes made done_at_end plain = tt

    plain_good : (made : Option SeenKind) (all : Writes) → WritesPlainly all → AreGood store.at (accesses_in (written store made all).touches)
    plain_good made all plain =
        let are = plain_writes made all plain in
        record { suit = laws.plain_suits store.at (accesses_in (written store made all).touches) are; keyed = laws.plain_keyed store.at (accesses_in (written store made all).touches) keyed are }

    -- the entry that was read is as it was read
    abbrev Holds : LastRead → Type 0
    Holds other_read = Unit {0}
    Holds (entry_read o key entry) = entry_of store o key ≡ entry

    module _ (o : ℕ) (key : Contents) (pair : Contents × Contents) (at : store.at (entry_at o (normal key)) ≡ Some (entry_is (Some pair))) where
      form_is : normal pair.0 ≡ normal key
      form_is = keyed.forms o (normal key) pair at

      has_it : HasFirst pair.0 (store.at (entry_at o (normal pair.0)))
      has_it = subst (λ form. HasFirst pair.0 (store.at (entry_at o form))) (sym form_is) (subst (HasFirst pair.0) (sym at) refl)

      reset_good : (item : Contents) → AreGood store.at (sets (entry_at o (normal key)) (entry_is (Some (pair.0, item))) ∷ [])
      reset_good item = record {
        suit = (tt, tt);
        keyed = subst (λ form. IsKeyed (after_access (sets (entry_at o form) (entry_is (Some (pair.0, item)))) store.at)) form_is (laws.entry_set store.at o pair.0 item keyed has_it);
      }

      deleted_good : AreGood store.at (sets (entry_at o (normal key)) (entry_is None) ∷ updates (order_at o) (key_deleted pair.0) ∷ [])
      deleted_good = record {
        suit = (tt, (laws.only store.at o pair.0 keyed has_it, tt));
        keyed = subst (λ form. IsKeyed (after_accesses (sets (entry_at o form) (entry_is None) ∷ updates (order_at o) (key_deleted pair.0) ∷ []) store.at)) form_is (laws.deleted store.at o pair.0 keyed);
      }

    module _ (o : ℕ) (key item : Contents) (has : HasFirst key (store.at (entry_at o (normal key)))) where
      abbrev with_entry : SeenMap
      with_entry = after_access (sets (entry_at o (normal key)) (entry_is (Some (key, item)))) store.at

      with_entry_keyed : IsKeyed with_entry
      with_entry_keyed = laws.entry_set store.at o key item keyed has

      entry_there : with_entry (entry_at o (normal key)) ≡ Some (entry_is (Some (key, item)))
      entry_there = put_is (entry_at o (normal key)) (entry_is (Some (key, item))) store.at

      inserted_good : AreGood store.at (sets (entry_at o (normal key)) (entry_is (Some (key, item))) ∷ updates (order_at o) (key_inserted key) ∷ [])
      inserted_good = record {
        suit = (tt, (laws.only with_entry o key with_entry_keyed (subst (HasFirst key) (sym entry_there) refl), tt));
        keyed = laws.inserted with_entry o key with_entry_keyed (subst (IsUnder key) (sym entry_there) refl);
      }

    entry_good : (last : LastRead) (all : Writes) → WritesEntry last all → Holds last → AreGood store.at (accesses_in (written store None all).touches)
    entry_good _ _ (resets {o} {key} {item} {pair}) holds = reset_good o key pair (pair_there (store.at (entry_at o (normal key))) pair holds) item
    entry_good _ _ (inserts {o} {key} {item}) holds = inserted_good o key item (none_there key (store.at (entry_at o (normal key))) holds)
    entry_good _ _ (deletes {o} {key} {pair}) holds = deleted_good o key pair (pair_there (store.at (entry_at o (normal key))) pair holds)

    -- an object begins with its keys and their entries
    begun_good : (o : ℕ) (pairs : List (Contents × Contents)) → AreApart (firsts pairs) → AreGood store.at (sets (order_at o) (order_is (firsts pairs)) ∷ entries_set o pairs)
    begun_good o pairs apart = record {
      suit = (apart, laws.entries_suit (after_access (sets (order_at o) (order_is (firsts pairs))) store.at) o pairs);
      keyed = laws.begun store.at o pairs keyed apart;
    }

    entries_are : (made : Option SeenKind) (o : ℕ) (answer : Contents) (pairs : List (Contents × Contents)) → accesses_in (written store made (set_entries o pairs (done answer))).touches ≡ entries_set o pairs
    entries_are made o answer [] = refl
    entries_are made o answer (pair ∷ pairs) = ap (λ (more : List SeenAccess). sets (entry_at o (normal pair.0)) (entry_is (Some pair)) ∷ more) (entries_are made o answer pairs)

    begins_good : (made : Option SeenKind) (o : ℕ) (all : Writes) → BeginsWith o all → AreGood store.at (accesses_in (written store made all).touches)
    begins_good made o all begins =
        subst (λ (some : Writes). AreGood store.at (accesses_in (written store made some).touches)) (sym begins.writes_are)
        (subst (λ (keys : List Contents). AreGood store.at (sets (order_at o) (order_is keys) ∷ accesses_in (written store made (set_entries o begins.pairs (done begins.answer))).touches)) (sym (firsts_are begins.pairs))
        (subst (λ (more : List SeenAccess). AreGood store.at (sets (order_at o) (order_is (firsts begins.pairs)) ∷ more)) (sym (entries_are made o begins.answer begins.pairs))
        (begun_good o begins.pairs (keys_apart begins.pairs begins.apart))))

    written_good : (last : LastRead) (all : Writes) → Holds last → WritesPlainly all ⊎ WritesEntry last all → AreGood store.at (accesses_in (written store None all).touches)
    written_good last all holds (inl plain) = plain_good None all plain
    written_good last all holds (inr how) = entry_good last all how holds

    made_good : (kind : SeenKind) (o : ℕ) (all : Writes) → WritesPlainly all ⊎ BeginsWith o all → AreGood store.at (accesses_in (written store (Some kind) all).touches)
    made_good kind o all (inl plain) = plain_good (Some kind) all plain
    made_good kind o all (inr begins) = begins_good (Some kind) o all begins

    nothing_good : AreGood store.at []
    nothing_good = record { suit = tt; keyed = keyed }

    module _ (answers : Answers) where
      abbrev IsGood : Plan → Type 0
      IsGood p = AreGood store.at (accesses_in (effect store answers p).touches)

      given_good : (go : Given → Plan) → ((given : Given) → IsGood (go given)) → (found : Option Given)
          → AreGood store.at (accesses_in (elim found as (λ f. Effect) [ None ↦ lacking store | Some given ↦ effect store answers (go given) ]).touches)
      given_good go each None = nothing_good
      given_good go each (Some given) = each given

      found_good : (go : Found → Plan) → ((found : Found) → IsGood (go found)) → (at : Option Found)
          → AreGood store.at (accesses_in (elim at as (λ f. Effect) [ None ↦ lacking store | Some found ↦ effect store answers (go found) ]).touches)
      found_good go each None = nothing_good
      found_good go each (Some found) = each found

      pub plan_good : (p : Plan) (last : LastRead) → Holds last → IsOrderlyAfter last p → IsGood p
      plan_good (read_var scope name go) last holds orderly = after_read _ (plan_good (go (var_of store scope name)) other_read tt (orderly (var_of store scope name)))
      plan_good (read_len o go) last holds orderly = after_read _ (plan_good (go (len_of store o)) other_read tt (orderly (len_of store o)))
      plan_good (read_item o i go) last holds orderly = after_read _ (plan_good (go (item_of store o i)) other_read tt (orderly (item_of store o i)))
      plan_good (read_entry o key go) last holds orderly = after_read _ (plan_good (go (entry_of store o key)) (entry_read o key (entry_of store o key)) refl (orderly (entry_of store o key)))
      plan_good (read_order o go) last holds orderly = after_read _ (plan_good (go (order_of store o)) other_read tt (orderly (order_of store o)))
      plan_good (read_file path go) last holds orderly = after_read _ (plan_good (go (file_of store path)) other_read tt (orderly (file_of store path)))
      plan_good (read_offset o go) last holds orderly = after_read _ (plan_good (go (offset_of store o)) other_read tt (orderly (offset_of store o)))
      plan_good (read_closed o go) last holds orderly = after_read _ (plan_good (go (closed_of store o)) other_read tt (orderly (closed_of store o)))
      plan_good (read_method place name go) last holds orderly = after_read _ (plan_good (go (method_of store place name)) other_read tt (orderly (method_of store place name)))
      plan_good (read_base place go) last holds orderly = after_read _ (plan_good (go (base_of store place)) other_read tt (orderly (base_of store place)))
      plan_good (kind_of o go) last holds orderly = plan_good (go (slice_get store.kinds o)) other_read tt (orderly (slice_get store.kinds o))
      plan_good (name_of place go) last holds orderly = plan_good (go (store.names place)) other_read tt (orderly (store.names place))
      plan_good (was_opened path go) last holds orderly = plan_good (go (has_path path store.opened)) other_read tt (orderly (has_path path store.opened))
      plan_good (ask what go) last holds orderly = given_good go (λ given. plan_good (go given) other_read tt (orderly given)) (answers.given what)
      plan_good (fetch path go) last holds orderly = found_good go (λ found. plan_good (go found) other_read tt (orderly found)) (answers.found path)
      plan_good (looks n rest) last holds orderly = plan_good rest other_read tt orderly
      plan_good (counts n rest) last holds orderly = plan_good rest other_read tt orderly
      plan_good (prints bytes rest) last holds orderly = plan_good rest other_read tt orderly
      plan_good (writes all) last holds orderly = written_good last all holds orderly
      plan_good (makes kind all) last holds orderly = made_good kind (length store.kinds) (all (length store.kinds)) (orderly (length store.kinds))
      plan_good (raises of items) last holds orderly = begun_good (length store.kinds) ((text (codes "args"), tuple (parts_of items)) ∷ []) (refl, tt)
      plan_good (raises_again o) last holds orderly = nothing_good
      plan_good ends last holds orderly = nothing_good
      plan_good runs_away last holds orderly = nothing_good
