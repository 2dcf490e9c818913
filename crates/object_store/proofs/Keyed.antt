-- What accesses make of a map in which the keys of orders have their entries.
use Rattle.std.proofs.Common.{◌≡◌, ℕ, ◌==◌, ◌&&◌, ◌↔◌, Bool, true, false, List, [], ◌∷◌, ◌++◌, Option, Some, refl, sym, ap, subst, ◌∙◌, arith, eqb-true, if◌then◌else◌, rules}
use Rattle.std.specs.Prelude.{None}
use Rattle.std.proofs.lemmas.Bool.{false≢true}
use Rattle.py_value.specs.Changes.{has_key, with_key, without_key, changed, after_access, after_accesses}
use Rattle.py_value.specs.Contents.{Contents, nothing}
use Rattle.py_value.specs.KeyOf.{normal}
use Rattle.py_value.specs.Same.{same_value, put}
use Rattle.py_value.specs.Seen.{SeenLocation, SeenContent, SeenAccess, entry_at, order_at, file_at, entry_is, order_is, file_is, key_inserted, key_deleted, reads, sets, updates}
use Rattle.std.specs.Option.{option_map, option_and_then}
use Rattle.py_value.specs.Seen.{entry_of, value_at}
use Rattle.py_value.specs.Values.{ValuesView}
use Rattle.py_value.specs.declared.access.Location.{Location}
use Rattle.py_value.specs.declared.access.Location.TheVariants.{Order}
use Rattle.py_value.specs.declared.value.Value.{Value}
use Rattle.object_store.specs.Opening.{IsOpening}
use Rattle.object_store.specs.Seen.{held_seen, seen_at}
use Rattle.object_store.specs.Store.{StoreView, held_at}
use Rattle.object_store.specs.Keyed.{SeenMap, HasFirst, IsUnder, AreUnder, IsKeyed, IsPlainPlace, IsPlain, ArePlain, firsts, entries_set}
use Rattle.object_store.specs.Performing.{AreApart, IsOnly, Suits, SuitInTurn, keys_among}

one_first : (key first : Contents) (found : Option SeenContent) → HasFirst key found → IsUnder first found → first ≡ key
one_first key first (Some (entry_is (Some pair))) has under = sym under ∙ has
one_first key first found has under = absurd under

under_is : (key value : Contents) (found : Option SeenContent) → found ≡ Some (entry_is (Some (key, value))) → IsUnder key found
under_is key value found is = subst (IsUnder key) (sym is) refl

-- orders and entries stay
under_same : (old new : SeenMap) (o : ℕ) → ((form : Contents) → new (entry_at o form) ≡ old (entry_at o form)) → (keys : List Contents) → AreUnder old o keys → AreUnder new o keys
under_same old new o same [] under = tt
under_same old new o same (key ∷ keys) under = (subst (IsUnder key) (sym (same (normal key))) under.0, under_same old new o same keys under.1)

keyed_same : (old new : SeenMap) → ((o : ℕ) → new (order_at o) ≡ old (order_at o)) → ((o : ℕ) (form : Contents) → new (entry_at o form) ≡ old (entry_at o form)) → IsKeyed old → IsKeyed new
keyed_same old new orders entries keyed = record {
  apart = λ o. subst (λ found. AreApart (keys_among found)) (sym (orders o)) (keyed.apart o);
  entries = λ o. under_same old new o (entries o) (keys_among (new (order_at o))) (subst (λ found. AreUnder old o (keys_among found)) (sym (orders o)) (keyed.entries o));
  forms = λ o form pair at. keyed.forms o form pair (sym (entries o form) ∙ at);
}

order_plain : (place : SeenLocation) → IsPlainPlace place → (content : SeenContent) (map : SeenMap) (o : ℕ) → put place content map (order_at o) ≡ map (order_at o)
order_plain (entry_at p form) plain content map o = absurd plain
order_plain (order_at p) plain content map o = absurd plain
order_plain place plain content map o = refl

entry_plain : (place : SeenLocation) → IsPlainPlace place → (content : SeenContent) (map : SeenMap) (o : ℕ) (form : Contents) → put place content map (entry_at o form) ≡ map (entry_at o form)
entry_plain (entry_at p other) plain content map o form = absurd plain
entry_plain (order_at p) plain content map o form = absurd plain
entry_plain place plain content map o form = refl

put_plain : (place : SeenLocation) (content : SeenContent) (map : SeenMap) → IsPlainPlace place → IsKeyed map → IsKeyed (put place content map)
put_plain place content map plain keyed = keyed_same map (put place content map) (order_plain place plain content map) (entry_plain place plain content map) keyed

set_plain_place : (place : SeenLocation) (content : SeenContent) → IsPlain (sets place content) → IsPlainPlace place
set_plain_place (file_at path) (file_is bytes) plain = tt
set_plain_place (file_at path) content plain = tt
set_plain_place place content plain = plain

access_plain : (access : SeenAccess) (map : SeenMap) → IsPlain access → IsKeyed map → IsKeyed (after_access access map)
access_plain (reads place) map plain keyed = keyed
access_plain (sets place content) map plain keyed = put_plain place content map (set_plain_place place content plain) keyed
access_plain (updates place change) map plain keyed = put_plain place (changed change (map place)) map plain keyed

suits_set : (map : SeenMap) (place : SeenLocation) (content : SeenContent) → IsPlain (sets place content) → Suits map (sets place content)
suits_set map (order_at o) (order_is keys) plain = absurd plain
suits_set map (file_at path) (file_is bytes) plain = plain
suits_set map place content plain = tt

suits_plain : (map : SeenMap) (access : SeenAccess) → IsPlain access → Suits map access
suits_plain map (reads place) plain = tt
suits_plain map (sets place content) plain = suits_set map place content plain
suits_plain map (updates (order_at o) change) plain = absurd plain
suits_plain map (updates place change) plain = tt

pub plan_plain : (plan : List SeenAccess) (map : SeenMap) → ArePlain plan → IsKeyed map → IsKeyed (after_accesses plan map)
plan_plain [] map plain keyed = keyed
plan_plain (access ∷ plan) map plain keyed = plan_plain plan (after_access access map) plain.1 (access_plain access map plain.0 keyed)

pub plan_suits : (plan : List SeenAccess) (map : SeenMap) → ArePlain plan → SuitInTurn map plan
plan_suits [] map plain = tt
plan_suits (access ∷ plan) map plain = (suits_plain map access plain.0, plan_suits plan (after_access access map) plain.1)

pub suit_joined : (plan more : List SeenAccess) (map : SeenMap) → SuitInTurn map plan → SuitInTurn (after_accesses plan map) more → SuitInTurn map (plan ++ more)
suit_joined [] more map suits then_suits = then_suits
suit_joined (access ∷ plan) more map suits then_suits = (suits.0, suit_joined plan more (after_access access map) suits.1 then_suits)

pub after_joined : (plan more : List SeenAccess) (map : SeenMap) → after_accesses (plan ++ more) map ≡ after_accesses more (after_accesses plan map)
after_joined [] more map = refl
after_joined (access ∷ plan) more map = after_joined plan more (after_access access map)

both_true : (a b : Bool) → (a && b) ≡ true → (a ≡ true) × (b ≡ true)
both_true true b is = (refl, is)
both_true false b is = absurd (false≢true is)

abbrev first_of : Option SeenContent → Contents
first_of (Some (entry_is (Some pair))) = pair.0
first_of found = nothing

module _ (tested : (v w : Contents) → (same_value v w ≡ true) ↔ (v ≡ w)) where
  only_from : (map : SeenMap) (o : ℕ) (key : Contents) → HasFirst key (map (entry_at o (normal key))) → (keys : List Contents) → AreUnder map o keys → IsOnly key keys
  only_from map o key has [] under = tt
  only_from map o key has (first ∷ keys) under = (
    λ same. one_first key first (map (entry_at o (normal key))) has (subst (λ form. IsUnder first (map (entry_at o form))) (sym ((tested (normal key) (normal first)).0 same)) under.0),
    only_from map o key has keys under.1,
  )

  -- a key whose entry has it as its first is the only one that is equal to it
  pub only : (map : SeenMap) (o : ℕ) (key : Contents) → IsKeyed map → HasFirst key (map (entry_at o (normal key))) → IsOnly key (keys_among (map (order_at o)))
  only map o key keyed has = only_from map o key has (keys_among (map (order_at o))) (keyed.entries o)

  -- an entry is set under a key that was its first
  module _ (map : SeenMap) (o : ℕ) (key value : Contents) where
    abbrev set_entry : SeenMap
    set_entry = put (entry_at o (normal key)) (entry_is (Some (key, value))) map

    under_set : HasFirst key (map (entry_at o (normal key))) → (p : ℕ) (keys : List Contents) → AreUnder map p keys → AreUnder set_entry p keys
    under_set has p [] under = tt
    under_set has p (first ∷ keys) under = (by ((o == p) && same_value (normal key) (normal first)) refl, under_set has p keys under.1)
      where
        by : (b : Bool) → ((o == p) && same_value (normal key) (normal first)) ≡ b → IsUnder first (if b then Some (entry_is (Some (key, value))) else map (entry_at p (normal first)))
        by true is =
            let both = both_true (o == p) (same_value (normal key) (normal first)) is in
            let place : map (entry_at o (normal key)) ≡ map (entry_at p (normal first)) =
            ap (λ q. map (entry_at q (normal key))) (omega (arith, eqb-true o p both.0)) ∙ ap (λ form. map (entry_at p form)) ((tested (normal key) (normal first)).0 both.1) in
            sym (one_first key first (map (entry_at p (normal first))) (subst (HasFirst key) place has) under.0)
        by false is = under.0

    pub forms_set : ((p : ℕ) (form : Contents) (pair : Contents × Contents) → map (entry_at p form) ≡ Some (entry_is (Some pair)) → normal pair.0 ≡ form)
        → (p : ℕ) (form : Contents) (pair : Contents × Contents) → set_entry (entry_at p form) ≡ Some (entry_is (Some pair)) → normal pair.0 ≡ form
    forms_set forms p form pair at = by ((o == p) && same_value (normal key) form) refl at
      where
        by : (b : Bool) → ((o == p) && same_value (normal key) form) ≡ b → (if b then Some (entry_is (Some (key, value))) else map (entry_at p form)) ≡ Some (entry_is (Some pair)) → normal pair.0 ≡ form
        by true is found = ap normal (sym (ap first_of found)) ∙ (tested (normal key) form).0 (both_true (o == p) (same_value (normal key) form) is).1
        by false is found = forms p form pair found

    pub entry_set : IsKeyed map → HasFirst key (map (entry_at o (normal key))) → IsKeyed set_entry
    entry_set keyed has = record {
      apart = λ p. keyed.apart p;
      entries = λ p. under_set has p (keys_among (map (order_at p))) (keyed.entries p);
      forms = forms_set keyed.forms;
    }

  value_apart : (v w : Contents) → same_value (normal v) (normal w) ≡ false → same_value (normal w) (normal v) ≡ false
  value_apart v w apart = by (same_value (normal w) (normal v)) refl
    where
      by : (b : Bool) → same_value (normal w) (normal v) ≡ b → b ≡ false
      by true is = absurd (false≢true (sym apart ∙ (tested (normal v) (normal w)).1 (sym ((tested (normal w) (normal v)).0 is))))
      by false is = refl

  -- a key that a list lacks is not equal to its first, and the rest lacks it
  lacks : (key first : Contents) (keys : List Contents) → has_key key (first ∷ keys) ≡ false → (same_value (normal key) (normal first) ≡ false) × (has_key key keys ≡ false)
  lacks key first keys is = by (same_value (normal key) (normal first)) is
    where
      by : (b : Bool) → (if b then true else has_key key keys) ≡ false → (b ≡ false) × (has_key key keys ≡ false)
      by true found = absurd (false≢true (sym found))
      by false found = (refl, found)

  lacks_more : (key first : Contents) (keys : List Contents) → same_value (normal key) (normal first) ≡ false → has_key key keys ≡ false → has_key key (first ∷ keys) ≡ false
  lacks_more key first keys apart none = ap (λ b. if b then true else has_key key keys) apart ∙ none

  lacks_last : (key last : Contents) (keys : List Contents) → has_key key keys ≡ false → same_value (normal key) (normal last) ≡ false → has_key key (keys ++ last ∷ []) ≡ false
  lacks_last key last [] none apart = lacks_more key last [] apart refl
  lacks_last key last (first ∷ keys) none apart =
      let both = lacks key first keys none in
      lacks_more key first (keys ++ last ∷ []) both.0 (lacks_last key last keys both.1 apart)

  apart_last : (key : Contents) (keys : List Contents) → AreApart keys → has_key key keys ≡ false → AreApart (keys ++ key ∷ [])
  apart_last key [] apart none = (refl, tt)
  apart_last key (first ∷ keys) apart none =
      let both = lacks key first keys none in
      (lacks_last first key keys apart.0 (value_apart key first both.0), apart_last key keys apart.1 both.1)

  under_last : (map : SeenMap) (o : ℕ) (key : Contents) (keys : List Contents) → AreUnder map o keys → IsUnder key (map (entry_at o (normal key))) → AreUnder map o (keys ++ key ∷ [])
  under_last map o key [] under there = (there, tt)
  under_last map o key (first ∷ keys) under there = (under.0, under_last map o key keys under.1 there)

  -- a key with its entry is inserted
  module _ (map : SeenMap) (o : ℕ) (key : Contents) where
    abbrev with_inserted : SeenMap
    with_inserted = put (order_at o) (changed (key_inserted key) (map (order_at o))) map

    keys_inserted : (found : Option SeenContent) → keys_among (Some (changed (key_inserted key) found)) ≡ with_key key (keys_among found)
    keys_inserted (Some (order_is keys)) = refl
    keys_inserted found = refl

    -- what holds of the keys of the object and of the others
    each_order : (P : ℕ → List Contents → Type 0) → P o (with_key key (keys_among (map (order_at o)))) → ((p : ℕ) → P p (keys_among (map (order_at p)))) → (p : ℕ) → P p (keys_among (with_inserted (order_at p)))
    each_order P here others p = by (o == p) refl
      where
        by : (b : Bool) → (o == p) ≡ b → P p (keys_among (if b then Some (changed (key_inserted key) (map (order_at o))) else map (order_at p)))
        by true is = subst (λ q. P q (keys_among (Some (changed (key_inserted key) (map (order_at o)))))) (omega (arith, eqb-true o p is)) (subst (P o) (sym (keys_inserted (map (order_at o)))) here)
        by false is = others p

    apart_put : (keys : List Contents) → AreApart keys → AreApart (with_key key keys)
    apart_put keys apart = by (has_key key keys) refl
      where
        by : (b : Bool) → has_key key keys ≡ b → AreApart (if b then keys else keys ++ key ∷ [])
        by true is = apart
        by false is = apart_last key keys apart is

    under_put : IsUnder key (map (entry_at o (normal key))) → (keys : List Contents) → AreUnder map o keys → AreUnder map o (with_key key keys)
    under_put there keys under = by (has_key key keys)
      where
        by : (b : Bool) → AreUnder map o (if b then keys else keys ++ key ∷ [])
        by true = under
        by false = under_last map o key keys under there

    pub key_put_keyed : IsKeyed map → IsUnder key (map (entry_at o (normal key))) → IsKeyed with_inserted
    key_put_keyed keyed there = record {
      apart = each_order (λ p keys. AreApart keys) (apart_put (keys_among (map (order_at o))) (keyed.apart o)) keyed.apart;
      entries = λ p. under_same map with_inserted p (λ form. refl) (keys_among (with_inserted (order_at p)))
          (each_order (λ q keys. AreUnder map q keys) (under_put there (keys_among (map (order_at o))) (keyed.entries o)) keyed.entries p);
      forms = keyed.forms;
    }

  -- an entry is taken out, and its key
  module _ (map : SeenMap) (o : ℕ) (key : Contents) where
    abbrev without_entry : SeenMap
    without_entry = put (entry_at o (normal key)) (entry_is None) map

    abbrev with_deleted : SeenMap
    with_deleted = put (order_at o) (changed (key_deleted key) (without_entry (order_at o))) without_entry

    keys_deleted : (found : Option SeenContent) → keys_among (Some (changed (key_deleted key) found)) ≡ without_key key (keys_among found)
    keys_deleted (Some (order_is keys)) = refl
    keys_deleted found = refl

    elsewhere : (p : ℕ) (form : Contents) → ((o == p) && same_value (normal key) form) ≡ false → with_deleted (entry_at p form) ≡ map (entry_at p form)
    elsewhere p form apart = ap (λ b. if b then Some (entry_is None) else map (entry_at p form)) apart

    lacks_taken : (other : Contents) (keys : List Contents) → has_key other keys ≡ false → has_key other (without_key key keys) ≡ false
    lacks_taken other [] none = none
    lacks_taken other (first ∷ keys) none = by (same_value (normal key) (normal first)) (lacks other first keys none) (lacks_taken other keys)
      where
        by : (b : Bool) → (same_value (normal other) (normal first) ≡ false) × (has_key other keys ≡ false) → (has_key other keys ≡ false → has_key other (without_key key keys) ≡ false)
            → has_key other (if b then keys else first ∷ without_key key keys) ≡ false
        by true both more = both.1
        by false both more = lacks_more other first (without_key key keys) both.0 (more both.1)

    apart_taken : (keys : List Contents) → AreApart keys → AreApart (without_key key keys)
    apart_taken [] apart = apart
    apart_taken (first ∷ keys) apart = by (same_value (normal key) (normal first)) (apart_taken keys apart.1)
      where
        by : (b : Bool) → AreApart (without_key key keys) → AreApart (if b then keys else first ∷ without_key key keys)
        by true more = apart.1
        by false more = (lacks_taken first keys apart.0, more)

    and_false : (a b : Bool) → b ≡ false → (a && b) ≡ false
    and_false true b is = is
    and_false false b is = refl

    -- keys that are not equal to it keep their entries
    under_kept : (p : ℕ) (keys : List Contents) → has_key key keys ≡ false → AreUnder map p keys → AreUnder with_deleted p keys
    under_kept p [] none under = tt
    under_kept p (first ∷ keys) none under =
        let both = lacks key first keys none in (
          subst (IsUnder first) (sym (elsewhere p (normal first) (and_false (o == p) (same_value (normal key) (normal first)) both.0))) under.0,
          under_kept p keys both.1 under.1,
        )

    under_taken : (keys : List Contents) → AreApart keys → AreUnder map o keys → AreUnder with_deleted o (without_key key keys)
    under_taken [] apart under = tt
    under_taken (first ∷ keys) apart under = by (same_value (normal key) (normal first)) refl (under_taken keys apart.1 under.1)
      where
        by : (b : Bool) → same_value (normal key) (normal first) ≡ b → AreUnder with_deleted o (without_key key keys) → AreUnder with_deleted o (if b then keys else first ∷ without_key key keys)
        by true is more = under_kept o keys (same_lacks ((tested (normal key) (normal first)).0 is) keys apart.0) under.1
          where
            same_lacks : normal key ≡ normal first → (all : List Contents) → has_key first all ≡ false → has_key key all ≡ false
            same_lacks same [] none = refl
            same_lacks same (x ∷ all) none = let both = lacks first x all none in lacks_more key x all (ap (λ form. same_value form (normal x)) same ∙ both.0) (same_lacks same all both.1)
        by false is more = (subst (IsUnder first) (sym (elsewhere o (normal first) (and_false (o == o) (same_value (normal key) (normal first)) is))) under.0, more)

    -- those of another object too
    under_other : (p : ℕ) → (o == p) ≡ false → (keys : List Contents) → AreUnder map p keys → AreUnder with_deleted p keys
    under_other p other [] under = tt
    under_other p other (first ∷ keys) under = (
      subst (IsUnder first) (sym (elsewhere p (normal first) (ap (λ b. b && same_value (normal key) (normal first)) other))) under.0,
      under_other p other keys under.1,
    )

    each_left : (P : ℕ → List Contents → Type 0) → P o (without_key key (keys_among (map (order_at o)))) → ((p : ℕ) → (o == p) ≡ false → P p (keys_among (map (order_at p))))
        → (p : ℕ) → P p (keys_among (with_deleted (order_at p)))
    each_left P here others p = by (o == p) refl
      where
        by : (b : Bool) → (o == p) ≡ b → P p (keys_among (if b then Some (changed (key_deleted key) (map (order_at o))) else map (order_at p)))
        by true is = subst (λ q. P q (keys_among (Some (changed (key_deleted key) (map (order_at o)))))) (omega (arith, eqb-true o p is)) (subst (P o) (sym (keys_deleted (map (order_at o)))) here)
        by false is = others p is

    pub key_taken_keyed : IsKeyed map → IsKeyed with_deleted
    key_taken_keyed keyed = record {
      apart = each_left (λ p keys. AreApart keys) (apart_taken (keys_among (map (order_at o))) (keyed.apart o)) (λ p other. keyed.apart p);
      entries = each_left (λ p keys. AreUnder with_deleted p keys) (under_taken (keys_among (map (order_at o))) (keyed.apart o) (keyed.entries o))
          (λ p other. under_other p other (keys_among (map (order_at p))) (keyed.entries p));
      forms = λ p form pair at. by p form pair ((o == p) && same_value (normal key) form) at;
    }
      where
        by : (p : ℕ) (form : Contents) (pair : Contents × Contents) (b : Bool) → (if b then Some (entry_is None) else map (entry_at p form)) ≡ Some (entry_is (Some pair)) → normal pair.0 ≡ form
        by p form pair true found = absurd (not_none pair found)
          where
            not_none : (one : Contents × Contents) → Some (entry_is None) ≡ Some (entry_is (Some one)) → ⊥
            not_none one is = cc
        by p form pair false found = keyed.forms p form pair found

  -- an order begins with its entries
  orders_stay : (pairs : List (Contents × Contents)) (o p : ℕ) (map : SeenMap) → after_accesses (entries_set o pairs) map (order_at p) ≡ map (order_at p)
  orders_stay [] o p map = refl
  orders_stay (pair ∷ pairs) o p map = orders_stay pairs o p (put (entry_at o (normal pair.0)) (entry_is (Some pair)) map)

  others_stay : (pairs : List (Contents × Contents)) (o p : ℕ) (form : Contents) (map : SeenMap) → (o == p) ≡ false → after_accesses (entries_set o pairs) map (entry_at p form) ≡ map (entry_at p form)
  others_stay [] o p form map other = refl
  others_stay (pair ∷ pairs) o p form map other =
      others_stay pairs o p form (put (entry_at o (normal pair.0)) (entry_is (Some pair)) map) other
      ∙ ap (λ b. if b && same_value (normal pair.0) form then Some (entry_is (Some pair)) else map (entry_at p form)) other

  entry_stays : (pairs : List (Contents × Contents)) (o : ℕ) (key : Contents) (map : SeenMap) → has_key key (firsts pairs) ≡ false
      → after_accesses (entries_set o pairs) map (entry_at o (normal key)) ≡ map (entry_at o (normal key))
  entry_stays [] o key map none = refl
  entry_stays (pair ∷ pairs) o key map none =
      let both = lacks key pair.0 (firsts pairs) none in
      entry_stays pairs o key (put (entry_at o (normal pair.0)) (entry_is (Some pair)) map) both.1
      ∙ ap (λ b. if (o == o) && b then Some (entry_is (Some pair)) else map (entry_at o (normal key))) (value_apart key pair.0 both.0)
      ∙ none_set (o == o) (map (entry_at o (normal key))) pair
    where
      none_set : (a : Bool) (found : Option SeenContent) (one : Contents × Contents) → (if a && false then Some (entry_is (Some one)) else found) ≡ found
      none_set true found one = refl
      none_set false found one = refl

  forms_stay : (pairs : List (Contents × Contents)) (o : ℕ) (map : SeenMap) → ((p : ℕ) (form : Contents) (pair : Contents × Contents) → map (entry_at p form) ≡ Some (entry_is (Some pair)) → normal pair.0 ≡ form)
      → (p : ℕ) (form : Contents) (pair : Contents × Contents) → after_accesses (entries_set o pairs) map (entry_at p form) ≡ Some (entry_is (Some pair)) → normal pair.0 ≡ form
  forms_stay [] o map forms = forms
  forms_stay (pair ∷ pairs) o map forms = forms_stay pairs o (put (entry_at o (normal pair.0)) (entry_is (Some pair)) map) (forms_set map o pair.0 pair.1 forms)

  all_under : (pairs : List (Contents × Contents)) (o : ℕ) (map : SeenMap) → AreApart (firsts pairs) → AreUnder (after_accesses (entries_set o pairs) map) o (firsts pairs)
  all_under [] o map apart = tt
  all_under (pair ∷ pairs) o map apart = (
    under_is pair.0 pair.1 (after_accesses (entries_set o pairs) (put (entry_at o (normal pair.0)) (entry_is (Some pair)) map) (entry_at o (normal pair.0)))
        (entry_stays pairs o pair.0 (put (entry_at o (normal pair.0)) (entry_is (Some pair)) map) apart.0
        ∙ set_there (o == o) (same_value (normal pair.0) (normal pair.0)) (search rules) ((tested (normal pair.0) (normal pair.0)).1 refl)),
    all_under pairs o (put (entry_at o (normal pair.0)) (entry_is (Some pair)) map) apart.1,
  )
    where
      set_there : (a b : Bool) → a ≡ true → b ≡ true → (if a && b then Some (entry_is (Some pair)) else map (entry_at o (normal pair.0))) ≡ Some (entry_is (Some pair))
      set_there true true one other = refl
      set_there true false one other = absurd (false≢true other)
      set_there false b one other = absurd (false≢true one)

  module _ (map : SeenMap) (o : ℕ) (pairs : List (Contents × Contents)) where
    abbrev with_order : SeenMap
    with_order = put (order_at o) (order_is (firsts pairs)) map

    abbrev begun : SeenMap
    begun = after_accesses (entries_set o pairs) with_order

    each_begun : (P : ℕ → List Contents → Type 0) → P o (firsts pairs) → ((p : ℕ) → (o == p) ≡ false → P p (keys_among (map (order_at p)))) → (p : ℕ) → P p (keys_among (begun (order_at p)))
    each_begun P here others p = subst (λ found. P p (keys_among found)) (sym (orders_stay pairs o p with_order)) (by (o == p) refl)
      where
        by : (b : Bool) → (o == p) ≡ b → P p (keys_among (if b then Some (order_is (firsts pairs)) else map (order_at p)))
        by true is = subst (λ q. P q (firsts pairs)) (omega (arith, eqb-true o p is)) here
        by false is = others p is

    pub begun_keyed : IsKeyed map → AreApart (firsts pairs) → IsKeyed begun
    begun_keyed keyed apart = record {
      apart = each_begun (λ p keys. AreApart keys) apart (λ p other. keyed.apart p);
      entries = each_begun (λ p keys. AreUnder begun p keys) (all_under pairs o with_order apart)
          (λ p other. under_same map begun p (λ form. others_stay pairs o p form with_order other) (keys_among (map (order_at p))) (keyed.entries p));
      forms = forms_stay pairs o with_order keyed.forms;
    }

pub entries_suit : (pairs : List (Contents × Contents)) (o : ℕ) (map : SeenMap) → SuitInTurn map (entries_set o pairs)
entries_suit [] o map = tt
entries_suit (pair ∷ pairs) o map = (tt, entries_suit pairs o (put (entry_at o (normal pair.0)) (entry_is (Some pair)) map))

-- A store as a run begins has no keys and no entries.
module _ (values table : ValuesView) (words : List (List ℕ)) (store : StoreView) (opening : IsOpening values words store) where
  no_keys : (o : ℕ) → seen_at table store (order_at o) ≡ Some (order_is [])
  no_keys o = ap (option_map (held_seen table)) (opening.held (Order o))

  no_entry : (o : ℕ) (form : Contents) → seen_at table store (entry_at o form) ≡ None
  no_entry o form = by (value_at table form)
    where
      by : (found : Option Value) → option_and_then (λ (l : Location). option_map (held_seen table) (held_at store l)) (option_map (entry_of o) found) ≡ None
      by None = refl
      by (Some v) = ap (option_map (held_seen table)) (opening.held (entry_of o v))

  pub opening_keyed : IsKeyed (seen_at table store)
  opening_keyed = record {
    apart = λ o. subst (λ found. AreApart (keys_among found)) (sym (no_keys o)) tt;
    entries = λ o. subst (λ found. AreUnder (seen_at table store) o (keys_among found)) (sym (no_keys o)) tt;
    forms = λ o form pair at. absurd (no_pair pair (sym (no_entry o form) ∙ at));
  }
    where
      no_pair : (pair : Contents × Contents) → None ≡ Some (entry_is (Some pair)) → ⊥
      no_pair pair is = cc
