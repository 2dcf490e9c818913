-- Dictionaries that are made.
use Rattle.std.proofs.Common.{◌≡◌, ℕ, Bool, true, false, if◌then◌else◌, List, [], ◌∷◌, ◌++◌, length, slice_get, Option, Some, None, refl, sym, ap, subst, ◌∙◌}
use Rattle.py_value.specs.Contents.{Contents, object}
use Rattle.py_value.specs.KeyOf.{normal}
use Rattle.py_value.specs.Same.{same_value}
use Rattle.py_value.specs.Seen.{SeenLocation, SeenKind, a_dict, order_is}
use Rattle.py_model.specs.Dicts.{with_pair, with_pairs, new_dict, set_entries}
use Rattle.py_model.specs.Effect.{Answers, effect, written, after, after_touches, with_made}
use Rattle.py_model.specs.Orderly.{HasKeysApart}
use Rattle.py_model.specs.Plan.{Plan, Writes, done}
use Rattle.py_model.specs.Store.{RunStore, entry_of, order_of}
use Rattle.model_laws.specs.Reading.{pair_of, IsDict, is_of}
use Rattle.model_laws.specs.TableDicts.{Pairs, MakesDict, HasNoNext, HasUsableKeys, display_pairs}
use Rattle.model_laws.proofs.Dicts.{with_entry, with_order, entry_set, order_set, entry_apart, order_apart, key_goes}
use Rattle.model_laws.proofs.Effects.{Same}
use Rattle.model_laws.proofs.Keys.{ValuesTested, keys_in, absent, turned, put_behind, apart_set, apart_behind}
use Rattle.model_laws.proofs.Lists.{last_is}

-- these entries are set, one after the other
abbrev pub entries_block : ℕ → Pairs → RunStore → RunStore
entries_block o [] s = s
entries_block o (pair ∷ pairs) s = entries_block o pairs (with_entry o pair.0 (Some pair) s)

abbrev pub or_else : Option (Contents × Contents) → Option (Contents × Contents) → Option (Contents × Contents)
or_else (Some pair) other = Some pair
or_else None other = other

entries_set : (store : RunStore) (made : Option SeenKind) (o : ℕ) (pairs : Pairs) (rest : Writes) (s : RunStore)
    → Same (written store made (set_entries o pairs rest)) (written store made rest) s (entries_block o pairs s)
entries_set store made o [] rest s = record { answer_is = refl; made_is = refl; after_is = refl }
entries_set store made o (pair ∷ pairs) rest s =
    let more = entries_set store made o pairs rest (with_entry o pair.0 (Some pair) s) in
    record { answer_is = more.answer_is; made_is = more.made_is; after_is = more.after_is }

pub block_order : (o : ℕ) (pairs : Pairs) (s : RunStore) → order_of (entries_block o pairs s) o ≡ order_of s o
block_order o [] s = refl
block_order o (pair ∷ pairs) s = block_order o pairs (with_entry o pair.0 (Some pair) s)

pub block_apart : (o : ℕ) (pairs : Pairs) (s : RunStore) (l : SeenLocation) → is_of o l ≡ false → (entries_block o pairs s).at l ≡ s.at l
block_apart o [] s l apart = refl
block_apart o (pair ∷ pairs) s l apart = block_apart o pairs (with_entry o pair.0 (Some pair) s) l apart ∙ entry_apart s o pair.0 (Some pair) l apart

block_rest : (o : ℕ) (pairs : Pairs) (s : RunStore) → entries_block o pairs s ≡ record s { at = (entries_block o pairs s).at }
block_rest o [] s = refl
block_rest o (pair ∷ pairs) s = block_rest o pairs (with_entry o pair.0 (Some pair) s)

module _ (tested : ValuesTested) where
  pub block_entries : (o : ℕ) (pairs : Pairs) (s : RunStore) (key : Contents) → HasKeysApart pairs → entry_of (entries_block o pairs s) o key ≡ or_else (pair_of key pairs) (entry_of s o key)
  block_entries o [] s key apart = refl
  block_entries o (pair ∷ pairs) s key apart =
      block_entries o pairs (with_entry o pair.0 (Some pair) s) key apart.1 ∙ ap (or_else (pair_of key pairs)) (entry_set s o pair.0 key (Some pair) ∙ ap (λ b. if b then Some pair else entry_of s o key) (turned tested (normal pair.0) (normal key)))
      ∙ by_test (same_value (normal key) (normal pair.0)) refl
    where
      by_test : (b : Bool) → same_value (normal key) (normal pair.0) ≡ b
          → or_else (pair_of key pairs) (if b then Some pair else entry_of s o key) ≡ or_else (if b then Some pair else pair_of key pairs) (entry_of s o key)
      by_test true is = ap (λ (found : Option (Contents × Contents)). or_else found (Some pair)) (absent tested pair.0 key pairs apart.0 is)
      by_test false is = refl

  pub pair_alone : (found : Option (Contents × Contents)) → or_else found None ≡ found
  pair_alone (Some pair) = refl
  pair_alone None = refl

  module _ (store : RunStore) (answers : Answers) (fresh : HasNoNext store) where
    pub dict_made : (pairs : Pairs) → HasKeysApart pairs → MakesDict store (effect store answers (new_dict pairs)) pairs
    dict_made pairs apart =
        let o = length store.kinds in
        let begun = record store { kinds = store.kinds ++ a_dict ∷ [] } in
        let s = with_order o (order_is (keys_in pairs)) begun in
        let all = entries_set store (Some a_dict) o pairs (done (object o)) s in
        let t = entries_block o pairs s in
        let same : after (effect store answers (new_dict pairs)) store ≡ t =
        ap (λ made. after_touches (written store (Some a_dict) (set_entries o pairs (done (object o)))).touches (with_order o (order_is (keys_in pairs)) (with_made made store))) all.made_is ∙ all.after_is in
        record {
          answer_is = all.answer_is;
          made_is = all.made_is;
          is_dict = subst (λ (u : RunStore). IsDict u o pairs) (sym same) (record {
            kind_is = ap (λ (u : RunStore). slice_get u.kinds o) (block_rest o pairs s) ∙ last_is store.kinds a_dict;
            has_pairs = record {
              order_is = block_order o pairs s ∙ order_set begun o (order_is (keys_in pairs));
              entries_are = λ key. block_entries o pairs s key apart ∙ ap (or_else (pair_of key pairs)) (fresh key) ∙ pair_alone (pair_of key pairs);
              apart = apart;
            };
          });
          elsewhere = subst (λ (u : RunStore). (l : SeenLocation) → is_of o l ≡ false → u.at l ≡ store.at l) (sym same) (λ l apart. block_apart o pairs s l apart ∙ order_apart begun o (order_is (keys_in pairs)) l apart);
          rest_stays = subst (λ (u : RunStore). u ≡ record store { at = u.at; kinds = store.kinds ++ a_dict ∷ [] }) (sym same) (block_rest o pairs s);
        }

    with_apart : (k v : Contents) (pairs : Pairs) → HasKeysApart pairs → HasKeysApart (with_pair k v pairs)
    with_apart k v pairs apart = by_found (pair_of k pairs) refl
      where
        by_found : (found : Option (Contents × Contents)) → pair_of k pairs ≡ found → HasKeysApart (with_pair k v pairs)
        by_found (Some pair) is = apart_set tested k v pairs pair is apart
        by_found None is = subst HasKeysApart (sym (put_behind tested k v pairs is)) (apart_behind tested k v pairs is apart)

    pub display_made : (items : List Contents) (pairs : Pairs) → HasUsableKeys items → HasKeysApart pairs → MakesDict store (effect store answers (with_pairs items pairs)) (display_pairs items pairs)
    display_made [] pairs usable apart = dict_made pairs apart
    display_made (key ∷ []) pairs usable apart = absurd usable
    display_made (key ∷ (item ∷ rest)) pairs usable apart =
        subst (λ (p : Plan). MakesDict store (effect store answers p) (display_pairs rest (with_pair key item pairs))) (sym (key_goes key (λ k. with_pairs rest (with_pair k item pairs)) usable.0))
        (display_made rest (with_pair key item pairs) usable.1 (with_apart key item pairs apart))
