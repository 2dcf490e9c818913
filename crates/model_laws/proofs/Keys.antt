-- Pairs with their keys apart: what stands under a key once a value is set, a pair put behind, or one taken out.
use Rattle.std.proofs.Common.{◌≡◌, ◌↔◌, Bool, true, false, if◌then◌else◌, List, [], ◌∷◌, ◌++◌, map, Option, Some, None, unwrap_or, refl, sym, ap, ◌∙◌}
use Rattle.std.proofs.lemmas.Bool.{false≢true}
use Rattle.py_value.specs.Changes.{has_key, with_key, without_key}
use Rattle.py_value.specs.Contents.{Contents}
use Rattle.py_value.specs.KeyOf.{normal}
use Rattle.py_value.specs.Same.{same_value}
use Rattle.py_model.specs.Dicts.{with_pair}
use Rattle.py_model.specs.Orderly.{HasNoKey, HasKeysApart}
use Rattle.model_laws.specs.Reading.{pair_of}
use Rattle.model_laws.specs.TableDicts.{Pairs, without_pair}

abbrev pub ValuesTested : Type 0
ValuesTested = (v w : Contents) → (same_value v w ≡ true) ↔ (v ≡ w)

abbrev pub keys_in : Pairs → List Contents
keys_in pairs = map (λ (pair : Contents × Contents). pair.0) pairs

none_some : {A : Type 0} (x : A) → None ≡ Some x → ⊥
none_some x is = cc

some_none : {A : Type 0} (x : A) → Some x ≡ None → ⊥
some_none x is = cc

module _ (tested : ValuesTested) where
  abbrev one_key : Contents → Contents → Bool
  one_key k l = same_value (normal k) (normal l)

  one_itself : (k : Contents) → one_key k k ≡ true
  one_itself k = (tested (normal k) (normal k)).1 refl

  pub turned : (v w : Contents) → same_value v w ≡ same_value w v
  turned v w = by_tests (same_value v w) (same_value w v) refl refl
    where
      by_tests : (a b : Bool) → same_value v w ≡ a → same_value w v ≡ b → a ≡ b
      by_tests true true is other = refl
      by_tests false false is other = refl
      by_tests true false is other = absurd (false≢true (sym other ∙ (tested w v).1 (sym ((tested v w).0 is))))
      by_tests false true is other = absurd (false≢true (sym is ∙ (tested v w).1 (sym ((tested w v).0 other))))

  -- tests against equal normal forms are equal
  like : (k p l : Contents) → one_key k p ≡ true → one_key l p ≡ one_key k l
  like k p l is = ap (λ form. same_value (normal l) form) (sym ((tested (normal k) (normal p)).0 is)) ∙ turned (normal l) (normal k)

  first_form : Contents → Pairs → Contents
  first_form k [] = k
  first_form k (pair ∷ pairs) = if one_key k pair.0 then pair.0 else first_form k pairs

  -- a pair that is found is of the key
  pub found_form : (k : Contents) (pairs : Pairs) (pair : Contents × Contents) → pair_of k pairs ≡ Some pair → normal pair.0 ≡ normal k
  found_form k [] pair is = absurd (none_some pair is)
  found_form k (first ∷ pairs) pair is = by_test (one_key k first.0) refl is (λ found. found_form k pairs pair found)
    where
      by_test : (b : Bool) → one_key k first.0 ≡ b → (if b then Some first else pair_of k pairs) ≡ Some pair → (pair_of k pairs ≡ Some pair → normal pair.0 ≡ normal k) → normal pair.0 ≡ normal k
      by_test true same found more = ap (λ (some : Option (Contents × Contents)). normal (unwrap_or some first).0) (sym found) ∙ sym ((tested (normal k) (normal first.0)).0 same)
      by_test false same found more = more found

  -- a value is set: the key is there
  pub set_there : (k v : Contents) (pairs : Pairs) (pair : Contents × Contents) → pair_of k pairs ≡ Some pair → (l : Contents)
      → pair_of l (with_pair k v pairs) ≡ (if one_key k l then Some (pair.0, v) else pair_of l pairs)
  set_there k v [] pair is l = absurd (none_some pair is)
  set_there k v (first ∷ pairs) pair is l = by_test (one_key k first.0) refl is (λ found. set_there k v pairs pair found l)
    where
      by_test : (b : Bool) → one_key k first.0 ≡ b → (if b then Some first else pair_of k pairs) ≡ Some pair
          → (pair_of k pairs ≡ Some pair → pair_of l (with_pair k v pairs) ≡ (if one_key k l then Some (pair.0, v) else pair_of l pairs))
          → pair_of l (if b then (first.0, v) ∷ pairs else first ∷ with_pair k v pairs) ≡ (if one_key k l then Some (pair.0, v) else pair_of l (first ∷ pairs))
      by_test true same found all = by_other (one_key k l) refl
        where
          by_other : (c : Bool) → one_key k l ≡ c → (if one_key l first.0 then Some (first.0, v) else pair_of l pairs) ≡ (if c then Some (pair.0, v) else if one_key l first.0 then Some first else pair_of l pairs)
          by_other true other = ap (λ a. if a then Some (first.0, v) else pair_of l pairs) (like k first.0 l same ∙ other) ∙ ap (λ (some : Option (Contents × Contents)). Some ((unwrap_or some first).0, v)) found
          by_other false other = ap (λ a. if a then Some (first.0, v) else pair_of l pairs) (like k first.0 l same ∙ other) ∙ ap (λ a. if a then Some first else pair_of l pairs) (sym (like k first.0 l same ∙ other))
      by_test false same found all = by_other (one_key l first.0) refl (all found)
        where
          by_other : (c : Bool) → one_key l first.0 ≡ c → pair_of l (with_pair k v pairs) ≡ (if one_key k l then Some (pair.0, v) else pair_of l pairs)
              → (if c then Some first else pair_of l (with_pair k v pairs)) ≡ (if one_key k l then Some (pair.0, v) else if c then Some first else pair_of l pairs)
          by_other true other more = ap (λ a. if a then Some (pair.0, v) else Some first) (sym (differ other))
            where
              differ : one_key l first.0 ≡ true → one_key k l ≡ false
              differ is = ap (λ form. same_value (normal k) form) ((tested (normal l) (normal first.0)).0 is) ∙ same
          by_other false other more = more

  -- a pair is put behind: the key is not there
  pub lacks_each : (k : Contents) (pairs : Pairs) (first : Contents × Contents) → pair_of k (first ∷ pairs) ≡ None → (one_key k first.0 ≡ false) × (pair_of k pairs ≡ None)
  lacks_each k pairs first is = by_test (one_key k first.0) refl is
    where
      by_test : (b : Bool) → one_key k first.0 ≡ b → (if b then Some first else pair_of k pairs) ≡ None → (one_key k first.0 ≡ false) × (pair_of k pairs ≡ None)
      by_test true same found = absurd (some_none first found)
      by_test false same found = (same, found)

  pub put_behind : (k v : Contents) (pairs : Pairs) → pair_of k pairs ≡ None → with_pair k v pairs ≡ pairs ++ (k, v) ∷ []
  put_behind k v [] is = refl
  put_behind k v (first ∷ pairs) is =
      let each = lacks_each k pairs first is in
      ap (λ b. if b then (first.0, v) ∷ pairs else first ∷ with_pair k v pairs) each.0 ∙ ap (λ (more : Pairs). first ∷ more) (put_behind k v pairs each.1)

  pub set_behind : (k v : Contents) (pairs : Pairs) → pair_of k pairs ≡ None → (l : Contents)
      → pair_of l (pairs ++ (k, v) ∷ []) ≡ (if one_key k l then Some (k, v) else pair_of l pairs)
  set_behind k v [] is l = ap (λ b. if b then Some (k, v) else None) (turned (normal l) (normal k))
  set_behind k v (first ∷ pairs) is l = by_other (one_key l first.0) refl (set_behind k v pairs each.1 l)
    where
      each : (one_key k first.0 ≡ false) × (pair_of k pairs ≡ None)
      each = lacks_each k pairs first is

      by_other : (c : Bool) → one_key l first.0 ≡ c → pair_of l (pairs ++ (k, v) ∷ []) ≡ (if one_key k l then Some (k, v) else pair_of l pairs)
          → (if c then Some first else pair_of l (pairs ++ (k, v) ∷ [])) ≡ (if one_key k l then Some (k, v) else if c then Some first else pair_of l pairs)
      by_other true other more = ap (λ a. if a then Some (k, v) else Some first) (sym (ap (λ form. same_value (normal k) form) ((tested (normal l) (normal first.0)).0 other) ∙ each.0))
      by_other false other more = more

  -- the keys of the pairs
  pub keys_stay : (k v : Contents) (pairs : Pairs) (pair : Contents × Contents) → pair_of k pairs ≡ Some pair → keys_in (with_pair k v pairs) ≡ keys_in pairs
  keys_stay k v [] pair is = absurd (none_some pair is)
  keys_stay k v (first ∷ pairs) pair is = by_test (one_key k first.0) is (λ found. keys_stay k v pairs pair found)
    where
      by_test : (b : Bool) → (if b then Some first else pair_of k pairs) ≡ Some pair → (pair_of k pairs ≡ Some pair → keys_in (with_pair k v pairs) ≡ keys_in pairs) → keys_in (if b then (first.0, v) ∷ pairs else first ∷ with_pair k v pairs) ≡ first.0 ∷ keys_in pairs
      by_test true found more = refl
      by_test false found more = ap (λ (keys : List Contents). first.0 ∷ keys) (more found)

  pub keys_behind : (k v : Contents) (pairs : Pairs) → keys_in (pairs ++ (k, v) ∷ []) ≡ keys_in pairs ++ k ∷ []
  keys_behind k v [] = refl
  keys_behind k v (first ∷ pairs) = ap (λ (keys : List Contents). first.0 ∷ keys) (keys_behind k v pairs)

  lacks_key : (k : Contents) (pairs : Pairs) → pair_of k pairs ≡ None → has_key k (keys_in pairs) ≡ false
  lacks_key k [] is = refl
  lacks_key k (first ∷ pairs) is =
      let each = lacks_each k pairs first is in
      ap (λ b. if b then true else has_key k (keys_in pairs)) each.0 ∙ lacks_key k pairs each.1

  pub key_put : (k v : Contents) (pairs : Pairs) → pair_of k pairs ≡ None → with_key k (keys_in pairs) ≡ keys_in (pairs ++ (k, v) ∷ [])
  key_put k v pairs is = ap (λ b. if b then keys_in pairs else keys_in pairs ++ k ∷ []) (lacks_key k pairs is) ∙ sym (keys_behind k v pairs)

  -- keys stay apart
  no_key_set : (m k v : Contents) (pairs : Pairs) (pair : Contents × Contents) → pair_of k pairs ≡ Some pair → HasNoKey m pairs → HasNoKey m (with_pair k v pairs)
  no_key_set m k v [] pair is none = absurd (none_some pair is)
  no_key_set m k v (first ∷ pairs) pair is none = by_test (one_key k first.0) is (λ found. no_key_set m k v pairs pair found none.1)
    where
      by_test : (b : Bool) → (if b then Some first else pair_of k pairs) ≡ Some pair → (pair_of k pairs ≡ Some pair → HasNoKey m (with_pair k v pairs)) → HasNoKey m (if b then (first.0, v) ∷ pairs else first ∷ with_pair k v pairs)
      by_test true found more = none
      by_test false found more = (none.0, more found)

  pub apart_set : (k v : Contents) (pairs : Pairs) (pair : Contents × Contents) → pair_of k pairs ≡ Some pair → HasKeysApart pairs → HasKeysApart (with_pair k v pairs)
  apart_set k v [] pair is apart = absurd (none_some pair is)
  apart_set k v (first ∷ pairs) pair is apart = by_test (one_key k first.0) is (λ found. apart_set k v pairs pair found apart.1)
    where
      by_test : (b : Bool) → (if b then Some first else pair_of k pairs) ≡ Some pair → (pair_of k pairs ≡ Some pair → HasKeysApart (with_pair k v pairs)) → HasKeysApart (if b then (first.0, v) ∷ pairs else first ∷ with_pair k v pairs)
      by_test true found more = apart
      by_test false found more = (no_key_set first.0 k v pairs pair found apart.0, more found)

  no_key_behind : (m k v : Contents) (pairs : Pairs) → one_key k m ≡ false → HasNoKey m pairs → HasNoKey m (pairs ++ (k, v) ∷ [])
  no_key_behind m k v [] is none = (is, tt)
  no_key_behind m k v (first ∷ pairs) is none = (none.0, no_key_behind m k v pairs is none.1)

  pub apart_behind : (k v : Contents) (pairs : Pairs) → pair_of k pairs ≡ None → HasKeysApart pairs → HasKeysApart (pairs ++ (k, v) ∷ [])
  apart_behind k v [] is apart = (tt, tt)
  apart_behind k v (first ∷ pairs) is apart =
      let each = lacks_each k pairs first is in
      (no_key_behind first.0 k v pairs each.0 apart.0, apart_behind k v pairs each.1 apart.1)

  -- a pair is taken out
  pub absent : (k l : Contents) (pairs : Pairs) → HasNoKey k pairs → one_key l k ≡ true → pair_of l pairs ≡ None
  absent k l [] none is = refl
  absent k l (first ∷ pairs) none is =
      ap (λ b. if b then Some first else pair_of l pairs) (ap (λ form. same_value form (normal first.0)) ((tested (normal l) (normal k)).0 is) ∙ turned (normal k) (normal first.0) ∙ none.0)
      ∙ absent k l pairs none.1 is

  pub taken_out : (k : Contents) (pairs : Pairs) → HasKeysApart pairs → (l : Contents)
      → pair_of l (without_pair k pairs) ≡ (if one_key k l then None else pair_of l pairs)
  taken_out k [] apart l = by_test (one_key k l)
    where
      by_test : (b : Bool) → pair_of l [] ≡ (if b then None else pair_of l [])
      by_test true = refl
      by_test false = refl
  taken_out k (first ∷ pairs) apart l = by_test (one_key k first.0) refl (taken_out k pairs apart.1 l)
    where
      by_test : (b : Bool) → one_key k first.0 ≡ b → pair_of l (without_pair k pairs) ≡ (if one_key k l then None else pair_of l pairs) → pair_of l (if b then pairs else first ∷ without_pair k pairs) ≡ (if one_key k l then None else pair_of l (first ∷ pairs))
      by_test true same all = by_other (one_key k l) refl
        where
          by_other : (c : Bool) → one_key k l ≡ c → pair_of l pairs ≡ (if c then None else if one_key l first.0 then Some first else pair_of l pairs)
          by_other true other = absent first.0 l pairs apart.0 (like k first.0 l same ∙ other)
          by_other false other = ap (λ a. if a then Some first else pair_of l pairs) (sym (like k first.0 l same ∙ other))
      by_test false same all = by_other (one_key l first.0) refl all
        where
          by_other : (c : Bool) → one_key l first.0 ≡ c → pair_of l (without_pair k pairs) ≡ (if one_key k l then None else pair_of l pairs)
              → (if c then Some first else pair_of l (without_pair k pairs)) ≡ (if one_key k l then None else if c then Some first else pair_of l pairs)
          by_other true other more = ap (λ a. if a then None else Some first) (sym (ap (λ form. same_value (normal k) form) ((tested (normal l) (normal first.0)).0 other) ∙ same))
          by_other false other more = more

  pub key_taken : (k m : Contents) (pairs : Pairs) → normal m ≡ normal k → without_key m (keys_in pairs) ≡ keys_in (without_pair k pairs)
  key_taken k m [] same = refl
  key_taken k m (first ∷ pairs) same =
      ap (λ form. if same_value form (normal first.0) then keys_in pairs else first.0 ∷ without_key m (keys_in pairs)) same ∙ by_test (one_key k first.0) (key_taken k m pairs same)
    where
      by_test : (b : Bool) → without_key m (keys_in pairs) ≡ keys_in (without_pair k pairs)
          → (if b then keys_in pairs else first.0 ∷ without_key m (keys_in pairs)) ≡ keys_in (if b then pairs else first ∷ without_pair k pairs)
      by_test true more = refl
      by_test false more = ap (λ (keys : List Contents). first.0 ∷ keys) more

  no_key_taken : (m k : Contents) (pairs : Pairs) → HasNoKey m pairs → HasNoKey m (without_pair k pairs)
  no_key_taken m k [] none = tt
  no_key_taken m k (first ∷ pairs) none = by_test (one_key k first.0) (no_key_taken m k pairs none.1)
    where
      by_test : (b : Bool) → HasNoKey m (without_pair k pairs) → HasNoKey m (if b then pairs else first ∷ without_pair k pairs)
      by_test true more = none.1
      by_test false more = (none.0, more)

  pub apart_taken : (k : Contents) (pairs : Pairs) → HasKeysApart pairs → HasKeysApart (without_pair k pairs)
  apart_taken k [] apart = tt
  apart_taken k (first ∷ pairs) apart = by_test (one_key k first.0) (apart_taken k pairs apart.1)
    where
      by_test : (b : Bool) → HasKeysApart (without_pair k pairs) → HasKeysApart (if b then pairs else first ∷ without_pair k pairs)
      by_test true more = apart.1
      by_test false more = (no_key_taken first.0 k pairs apart.0, more)

-- each pair is found under its own key
abbrev pub AreFound : Pairs → Pairs → Type 0
AreFound pairs [] = Unit {0}
AreFound pairs (pair ∷ rest) = (pair_of pair.0 pairs ≡ Some pair) × AreFound pairs rest

module _ (tested : ValuesTested) where
  found_behind : (first : Contents × Contents) (pairs rest : Pairs) → HasNoKey first.0 rest → AreFound pairs rest → AreFound (first ∷ pairs) rest
  found_behind first pairs [] none found = tt
  found_behind first pairs (pair ∷ rest) none found =
      (ap (λ b. if b then Some first else pair_of pair.0 pairs) none.0 ∙ found.0, found_behind first pairs rest none.1 found.1)

  pub each_found : (pairs : Pairs) → HasKeysApart pairs → AreFound pairs pairs
  each_found [] apart = tt
  each_found (first ∷ pairs) apart =
      (ap (λ b. if b then Some first else pair_of first.0 pairs) ((tested (normal first.0) (normal first.0)).1 refl), found_behind first pairs pairs apart.0 (each_found pairs apart.1))
