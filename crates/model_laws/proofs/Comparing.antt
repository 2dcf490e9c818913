-- The walk of a comparison comes to how the values compare.
use Rattle.std.proofs.Common.{◌≡◌, ℕ, zero, suc, Bool, true, false, ◌&&◌, not, ◌==◌, nat_lt, if◌then◌else◌, List, [], ◌∷◌, length, slice_get, Option, Some, None, unwrap_or, refl, sym, ap, subst, ◌∙◌, arith}
use Rattle.std.proofs.lemmas.Bool.{ltb-true, ltb-false}
use Rattle.std.specs.Str.{bytes_eq}
use Rattle.py_value.specs.Contents.{Contents, Parts, nothing, truth, int, text, tuple, range, object, no_parts, part}
use Rattle.py_value.specs.Seen.{SeenKind, a_list, a_dict}
use Rattle.py_model.specs.Effect.{Answers, effect}
use Rattle.py_model.specs.Faults.{too_deep}
use Rattle.py_model.specs.Plan.{Plan, kind_of, counts}
use Rattle.py_model.specs.Store.{RunStore, item_of, len_of, entry_of, order_of}
use Rattle.py_model.specs.Texts.{is_before}
use Rattle.py_model.specs.Walks.{Comparison, alike, before, behind, apart, by_length, order_of_texts, when_same, items_of, decided, Pairs, compare_items, compare_parts, compare_lists, compare_entries, compare_dicts, compare_objects, compare_step, compare_within, compare_texts, shorter}
use Rattle.model_laws.specs.Comparing.{Compared, comes, lies_too_deep, Inside, else_by, items_compared, lists_compared, equal_or_apart, values_compared, pairs_compared, dicts_compared, objects_compared, value_compared, compared_to, HasDicts}
use Rattle.model_laws.specs.Reading.{IsDict, items_from, items_at, pairs_at, pair_of}
use Rattle.model_laws.specs.TableDicts.{Pairs as PairList}
use Rattle.model_laws.proofs.Effects.{Same, same_then}
use Rattle.model_laws.proofs.Keys.{ValuesTested, keys_in, AreFound, each_found}

-- a plan goes on with how values compare
abbrev pub goes_on : (Comparison → Plan) → Compared → Plan
goes_on go (comes how) = go how
goes_on go lies_too_deep = too_deep

abbrev both_there : (Comparison → Plan) → Option (Contents × Contents) → Option (Contents × Contents) → (Contents → Contents → Plan) → Plan
both_there go (Some left) (Some right) next = next left.1 right.1
both_there go left right next = go apart

abbrev equal_or : (Comparison → Plan) → Plan → Comparison → Plan
equal_or go next alike = next
equal_or go next how = go apart

module _ (store : RunStore) (answers : Answers) where
  abbrev pub Agrees : Plan → Plan → Type 0
  Agrees p q = (s : RunStore) → Same (effect store answers p) (effect store answers q) s s

  pub agree_then : (p q r : Plan) → Agrees p q → Agrees q r → Agrees p r
  agree_then p q r one other s = same_then (effect store answers p) (effect store answers q) (effect store answers r) s s s (one s) (other s)

  pub agree : (p q : Plan) → p ≡ q → Agrees p q
  agree p q is s = subst (λ (plan : Plan). Same (effect store answers p) (effect store answers plan) s s) is (record { answer_is = refl; made_is = refl; after_is = refl })

  after_pair : (go : Comparison → Plan) (next : Plan) (rest : Compared) (how : Compared) → Agrees next (goes_on go rest) → Agrees (goes_on (decided go next) how) (goes_on go (else_by how rest))
  after_pair go next rest (comes alike) agrees = agrees
  after_pair go next rest (comes before) agrees = λ s. record { answer_is = refl; made_is = refl; after_is = refl }
  after_pair go next rest (comes behind) agrees = λ s. record { answer_is = refl; made_is = refl; after_is = refl }
  after_pair go next rest (comes apart) agrees = λ s. record { answer_is = refl; made_is = refl; after_is = refl }
  after_pair go next rest lies_too_deep agrees = λ s. record { answer_is = refl; made_is = refl; after_is = refl }

  after_entry : (go : Comparison → Plan) (next : Plan) (rest : Compared) (how : Compared) → Agrees next (goes_on go rest) → Agrees (goes_on (equal_or go next) how) (goes_on go (equal_or_apart how rest))
  after_entry go next rest (comes alike) agrees = agrees
  after_entry go next rest (comes before) agrees = λ s. record { answer_is = refl; made_is = refl; after_is = refl }
  after_entry go next rest (comes behind) agrees = λ s. record { answer_is = refl; made_is = refl; after_is = refl }
  after_entry go next rest (comes apart) agrees = λ s. record { answer_is = refl; made_is = refl; after_is = refl }
  after_entry go next rest lies_too_deep agrees = λ s. record { answer_is = refl; made_is = refl; after_is = refl }

  abbrev IsInside : Pairs → Inside → Type 0
  IsInside pair inside = (ordered : Bool) (v w : Contents) (go : Comparison → Plan) → Agrees (pair ordered v w go) (goes_on go (inside ordered v w))

  module _ (pair : Pairs) (inside : Inside) (law : IsInside pair inside) where
    pair_does : (ordered : Bool) (v w : Contents) (go : Comparison → Plan) (next : Plan) (rest : Compared) → Agrees next (goes_on go rest)
        → Agrees (pair ordered v w (decided go next)) (goes_on go (else_by (inside ordered v w) rest))
    pair_does ordered v w go next rest agrees = agree_then (pair ordered v w (decided go next)) (goes_on (decided go next) (inside ordered v w)) (goes_on go (else_by (inside ordered v w) rest))
        (law ordered v w (decided go next)) (after_pair go next rest (inside ordered v w) agrees)

    parts_do : (ordered : Bool) (ps qs : Parts) (go : Comparison → Plan) → Agrees (compare_parts pair ordered ps qs go) (goes_on go (items_compared inside ordered (items_of ps) (items_of qs)))
    parts_do ordered no_parts no_parts go = λ s. record { answer_is = refl; made_is = refl; after_is = refl }
    parts_do ordered no_parts (part w qs) go = λ s. record { answer_is = refl; made_is = refl; after_is = refl }
    parts_do ordered (part v ps) no_parts go = λ s. record { answer_is = refl; made_is = refl; after_is = refl }
    parts_do ordered (part v ps) (part w qs) go = λ s.
        let same = pair_does ordered v w go (compare_parts pair ordered ps qs go) (items_compared inside ordered (items_of ps) (items_of qs)) (parts_do ordered ps qs go) s in
        record { answer_is = same.answer_is; made_is = same.made_is; after_is = same.after_is }

    less_each : (m n : ℕ) → nat_lt (suc m) (suc n) ≡ nat_lt m n
    less_each m n = by_tests (nat_lt (suc m) (suc n)) (nat_lt m n) refl refl
      where
        by_tests : (b c : Bool) → nat_lt (suc m) (suc n) ≡ b → nat_lt m n ≡ c → b ≡ c
        by_tests true true one other = refl
        by_tests false false one other = refl
        by_tests true false one other = let less = ltb-true (suc m) (suc n) one in let more = ltb-false m n other in absurd (omega (arith, less, more))
        by_tests false true one other = let more = ltb-false (suc m) (suc n) one in let less = ltb-true m n other in absurd (omega (arith, less, more))

    none_less : (n : ℕ) → nat_lt zero (suc n) ≡ true
    none_less n = by_test (nat_lt zero (suc n)) refl
      where
        by_test : (b : Bool) → nat_lt zero (suc n) ≡ b → b ≡ true
        by_test true is = refl
        by_test false is = let more = ltb-false zero (suc n) is in absurd (omega (arith, more))

    less_none : (n : ℕ) → nat_lt n zero ≡ false
    less_none n = by_test (nat_lt n zero) refl
      where
        by_test : (b : Bool) → nat_lt n zero ≡ b → b ≡ false
        by_test true is = let less = ltb-true n zero is in absurd (omega (arith, less))
        by_test false is = refl

    -- of two lists as many items are read as the shorter has
    fewer : (m n : ℕ) → (if nat_lt (suc m) (suc n) then suc m else suc n) ≡ suc (if nat_lt m n then m else n)
    fewer m n = ap (λ (b : Bool). if b then suc m else suc n) (less_each m n) ∙ by_test (nat_lt m n)
      where
        by_test : (b : Bool) → (if b then suc m else suc n) ≡ suc (if b then m else n)
        by_test true = refl
        by_test false = refl

    length_each : (m n : ℕ) → by_length (suc m) (suc n) ≡ by_length m n
    length_each m n = ap (λ (b : Bool). if b then before else if nat_lt (suc n) (suc m) then behind else alike) (less_each m n)
        ∙ ap (λ (b : Bool). if nat_lt m n then before else if b then behind else alike) (less_each n m)

    rows_do : (ordered : Bool) (o p : ℕ) (m n i : ℕ) (go : Comparison → Plan)
        → Agrees (compare_items pair ordered (if nat_lt m n then m else n) o p i (by_length m n) go) (goes_on go (items_compared inside ordered (items_from store m o i) (items_from store n p i)))
    rows_do ordered o p zero zero i go = λ s. record { answer_is = refl; made_is = refl; after_is = refl }
    rows_do ordered o p zero (suc n) i go = subst (λ (b : Bool). Agrees (compare_items pair ordered (if b then zero else suc n) o p i (if b then before else if nat_lt (suc n) zero then behind else alike) go) (go before))
        (sym (none_less n)) (λ s. record { answer_is = refl; made_is = refl; after_is = refl })
    rows_do ordered o p (suc m) zero i go = subst (λ (b : Bool). Agrees (compare_items pair ordered (if b then suc m else zero) o p i (if b then before else if nat_lt zero (suc m) then behind else alike) go) (go behind))
        (sym (less_none (suc m)))
        (subst (λ (b : Bool). Agrees (go (if b then behind else alike)) (go behind)) (sym (none_less m)) (λ s. record { answer_is = refl; made_is = refl; after_is = refl }))
    rows_do ordered o p (suc m) (suc n) i go =
        let one = λ (k : ℕ) (how : Comparison). compare_items pair ordered k o p i how go in
        let few = if nat_lt m n then m else n in
        let rest = items_compared inside ordered (items_from store m o (suc i)) (items_from store n p (suc i)) in
        agree_then (one (if nat_lt (suc m) (suc n) then suc m else suc n) (by_length (suc m) (suc n))) (one (suc few) (by_length m n)) (goes_on go (items_compared inside ordered (items_from store (suc m) o i) (items_from store (suc n) p i)))
        (agree (one (if nat_lt (suc m) (suc n) then suc m else suc n) (by_length (suc m) (suc n))) (one (suc few) (by_length m n))
        (ap (λ (k : ℕ). one k (by_length (suc m) (suc n))) (fewer m n) ∙ ap (λ (how : Comparison). one (suc few) how) (length_each m n)))
        (one_more few (by_length m n) rest (rows_do ordered o p m n (suc i) go))
      where
        one_more : (few : ℕ) (how : Comparison) (rest : Compared) → Agrees (compare_items pair ordered few o p (suc i) how go) (goes_on go rest)
            → Agrees (compare_items pair ordered (suc few) o p i how go) (goes_on go (else_by (inside ordered (unwrap_or (item_of store o i) nothing) (unwrap_or (item_of store p i) nothing)) rest))
        one_more few how rest agrees = λ s.
            let same = pair_does ordered (unwrap_or (item_of store o i) nothing) (unwrap_or (item_of store p i) nothing) go (compare_items pair ordered few o p (suc i) how go) rest agrees s in
            record { answer_is = same.answer_is; made_is = same.made_is; after_is = same.after_is }

    length_items : (n o i : ℕ) → length (items_from store n o i) ≡ n
    length_items zero o i = refl
    length_items (suc n) o i = ap suc (length_items n o (suc i))

    lists_do : (ordered : Bool) (o p : ℕ) (go : Comparison → Plan) → Agrees (compare_lists pair ordered o p go) (goes_on go (lists_compared inside ordered (items_at store o) (items_at store p)))
    lists_do ordered o p go = λ s. let same = by_lengths (len_of store o) (len_of store p) s in record { answer_is = same.answer_is; made_is = same.made_is; after_is = same.after_is }
      where
        by_lengths : (m n : ℕ) → Agrees (if not ordered && not (m == n) then go apart else compare_items pair ordered (if nat_lt m n then m else n) o p 0 (by_length m n) go)
            (goes_on go (lists_compared inside ordered (items_from store m o 0) (items_from store n p 0)))
        by_lengths m n = subst (λ (b : Bool). Agrees (if not ordered && not (m == n) then go apart else compare_items pair ordered (if nat_lt m n then m else n) o p 0 (by_length m n) go)
            (goes_on go (if not ordered && not b then comes apart else items_compared inside ordered (items_from store m o 0) (items_from store n p 0))))
            (sym (ap (λ (k : ℕ). k == length (items_from store n p 0)) (length_items m o 0) ∙ ap (λ (k : ℕ). m == k) (length_items n p 0)))
            (by_test (not ordered && not (m == n)))
          where
            by_test : (b : Bool) → Agrees (if b then go apart else compare_items pair ordered (if nat_lt m n then m else n) o p 0 (by_length m n) go)
                (goes_on go (if b then comes apart else items_compared inside ordered (items_from store m o 0) (items_from store n p 0)))
            by_test true = λ s. record { answer_is = refl; made_is = refl; after_is = refl }
            by_test false = rows_do ordered o p m n 0 go

    module _ (tested : ValuesTested) (o p : ℕ) (pairs others : PairList) (is : IsDict store o pairs) (other : IsDict store p others) (go : Comparison → Plan) where
      entries_do : (rest : PairList) → AreFound pairs rest → Agrees (compare_entries pair (keys_in rest) o p go) (goes_on go (pairs_compared inside rest others))
      entries_do [] found = λ s. record { answer_is = refl; made_is = refl; after_is = refl }
      entries_do (first ∷ rest) found = λ s.
          let next = λ (v w : Contents). pair false v w (equal_or go (compare_entries pair (keys_in rest) o p go)) in
          let same : Same (effect store answers (both_there go (entry_of store o first.0) (entry_of store p first.0) next)) (effect store answers (goes_on go (values_compared inside first.1 (pair_of first.0 others) (pairs_compared inside rest others)))) s s
          = subst (λ (left : Option (Contents × Contents)). Same (effect store answers (both_there go left (entry_of store p first.0) next)) (effect store answers (goes_on go (values_compared inside first.1 (pair_of first.0 others) (pairs_compared inside rest others)))) s s)
          (sym (is.has_pairs.entries_are first.0 ∙ found.0))
          (subst (λ (right : Option (Contents × Contents)). Same (effect store answers (both_there go (Some first) right next)) (effect store answers (goes_on go (values_compared inside first.1 (pair_of first.0 others) (pairs_compared inside rest others)))) s s)
          (sym (other.has_pairs.entries_are first.0)) (by_right (pair_of first.0 others) (entries_do rest found.1) s)) in
          record { answer_is = same.answer_is; made_is = same.made_is; after_is = same.after_is }
        where
          by_right : (right : Option (Contents × Contents)) → Agrees (compare_entries pair (keys_in rest) o p go) (goes_on go (pairs_compared inside rest others))
              → Agrees (both_there go (Some first) right (λ v w. pair false v w (equal_or go (compare_entries pair (keys_in rest) o p go)))) (goes_on go (values_compared inside first.1 right (pairs_compared inside rest others)))
          by_right None agrees = λ s. record { answer_is = refl; made_is = refl; after_is = refl }
          by_right (Some right) agrees = agree_then (pair false first.1 right.1 (equal_or go (compare_entries pair (keys_in rest) o p go))) (goes_on (equal_or go (compare_entries pair (keys_in rest) o p go)) (inside false first.1 right.1))
              (goes_on go (equal_or_apart (inside false first.1 right.1) (pairs_compared inside rest others))) (law false first.1 right.1 (equal_or go (compare_entries pair (keys_in rest) o p go)))
              (after_entry go (compare_entries pair (keys_in rest) o p go) (pairs_compared inside rest others) (inside false first.1 right.1) agrees)

      dicts_do : Agrees (compare_dicts pair o p go) (goes_on go (dicts_compared inside pairs others))
      dicts_do = λ s.
          let same : Same (effect store answers (by_orders (order_of store o) (order_of store p))) (effect store answers (goes_on go (dicts_compared inside pairs others))) s s
          = subst (λ (ks : List Contents). Same (effect store answers (by_orders ks (order_of store p))) (effect store answers (goes_on go (dicts_compared inside pairs others))) s s) (sym is.has_pairs.order_is)
          (subst (λ (ls : List Contents). Same (effect store answers (by_orders (keys_in pairs) ls)) (effect store answers (goes_on go (dicts_compared inside pairs others))) s s) (sym other.has_pairs.order_is)
          (subst (λ (b : Bool). Same (effect store answers (if b then compare_entries pair (keys_in pairs) o p go else go apart)) (effect store answers (goes_on go (dicts_compared inside pairs others))) s s) (sym sizes)
          (by_test (length pairs == length others) s))) in
          record { answer_is = same.answer_is; made_is = same.made_is; after_is = same.after_is }
        where
          by_orders : List Contents → List Contents → Plan
          by_orders ks ls = if length ks == length ls then compare_entries pair ks o p go else go apart

          many : (all : PairList) → length (keys_in all) ≡ length all
          many [] = refl
          many (one ∷ all) = ap suc (many all)

          sizes : (length (keys_in pairs) == length (keys_in others)) ≡ (length pairs == length others)
          sizes = ap (λ (k : ℕ). k == length (keys_in others)) (many pairs) ∙ ap (λ (k : ℕ). length pairs == k) (many others)

          by_test : (b : Bool) → Agrees (if b then compare_entries pair (keys_in pairs) o p go else go apart) (goes_on go (if b then pairs_compared inside pairs others else comes apart))
          by_test true = entries_do pairs (each_found tested pairs is.has_pairs.apart)
          by_test false = λ s. record { answer_is = refl; made_is = refl; after_is = refl }

    objects_do : ValuesTested → HasDicts store → (ordered : Bool) (o p : ℕ) (go : Comparison → Plan) (left right : Option SeenKind) → slice_get store.kinds o ≡ left → slice_get store.kinds p ≡ right
        → Agrees (compare_objects (Some pair) ordered o p go left right) (goes_on go (objects_compared store (Some inside) ordered o p left right))
    objects_do tested dicts ordered o p go (Some a_list) (Some a_list) one other = lists_do ordered o p go
    objects_do tested dicts ordered o p go (Some a_dict) (Some a_dict) one other = dicts_do tested o p (pairs_at store o) (pairs_at store p) (dicts o one) (dicts p other) go
    objects_do tested dicts ordered o p go left right one other = λ s. record { answer_is = refl; made_is = refl; after_is = refl }

  texts_do : (ordered : Bool) (one other : List ℕ) (go : Comparison → Plan) → Agrees (compare_texts ordered one other go) (go (if ordered then order_of_texts one other else when_same (bytes_eq one other)))
  texts_do true one other go = by_test (bytes_eq one other) (is_before one other)
    where
      by_test : (b c : Bool) → Agrees (if b then go alike else counts (shorter one other) (go (if b then alike else if c then before else behind))) (go (if b then alike else if c then before else behind))
      by_test true c = λ s. record { answer_is = refl; made_is = refl; after_is = refl }
      by_test false c = λ s. record { answer_is = refl; made_is = refl; after_is = refl }
  texts_do false one other go = by_test (bytes_eq one other)
    where
      by_test : (b : Bool) → Agrees (if b then go alike else go apart) (go (when_same b))
      by_test true = λ s. record { answer_is = refl; made_is = refl; after_is = refl }
      by_test false = λ s. record { answer_is = refl; made_is = refl; after_is = refl }

  deep_objects : (ordered : Bool) (o p : ℕ) (go : Comparison → Plan) (left right : Option SeenKind)
      → Agrees (compare_objects None ordered o p go left right) (goes_on go (objects_compared store None ordered o p left right))
  deep_objects ordered o p go (Some a_list) (Some a_list) = λ s. record { answer_is = refl; made_is = refl; after_is = refl }
  deep_objects ordered o p go (Some a_dict) (Some a_dict) = λ s. record { answer_is = refl; made_is = refl; after_is = refl }
  deep_objects ordered o p go left right = λ s. record { answer_is = refl; made_is = refl; after_is = refl }

  deep_step : IsInside (compare_step None) (value_compared store None)
  deep_step ordered (text one) (text other) go = texts_do ordered one other go
  deep_step ordered (tuple ps) (tuple qs) go = λ s. record { answer_is = refl; made_is = refl; after_is = refl }
  deep_step ordered (object o) (object p) go = by_same (o == p)
    where
      by_same : (b : Bool) → Agrees (if b then go alike else kind_of o (λ left. kind_of p (λ right. compare_objects None ordered o p go left right)))
          (goes_on go (if b then comes alike else objects_compared store None ordered o p (slice_get store.kinds o) (slice_get store.kinds p)))
      by_same true = λ s. record { answer_is = refl; made_is = refl; after_is = refl }
      by_same false = deep_objects ordered o p go (slice_get store.kinds o) (slice_get store.kinds p)
  deep_step ordered (int i) (int j) go = λ s. record { answer_is = refl; made_is = refl; after_is = refl }
  deep_step ordered (int i) (truth b) go = λ s. record { answer_is = refl; made_is = refl; after_is = refl }
  deep_step ordered (truth a) (int j) go = λ s. record { answer_is = refl; made_is = refl; after_is = refl }
  deep_step ordered (truth a) (truth b) go = λ s. record { answer_is = refl; made_is = refl; after_is = refl }
  deep_step ordered (range a b c) (range d e f) go = λ s. record { answer_is = refl; made_is = refl; after_is = refl }
  deep_step ordered v w go = λ s. record { answer_is = refl; made_is = refl; after_is = refl }

  module _ (tested : ValuesTested) (dicts : HasDicts store) where
    further_step : (pair : Pairs) (inside : Inside) → IsInside pair inside → IsInside (compare_step (Some pair)) (value_compared store (Some inside))
    further_step pair inside law ordered (text one) (text other) go = texts_do ordered one other go
    further_step pair inside law ordered (tuple ps) (tuple qs) go = parts_do pair inside law ordered ps qs go
    further_step pair inside law ordered (object o) (object p) go = λ s. let same = by_same (o == p) s in record { answer_is = same.answer_is; made_is = same.made_is; after_is = same.after_is }
      where
        by_same : (b : Bool) → Agrees (if b then go alike else kind_of o (λ left. kind_of p (λ right. compare_objects (Some pair) ordered o p go left right)))
            (goes_on go (if b then comes alike else objects_compared store (Some inside) ordered o p (slice_get store.kinds o) (slice_get store.kinds p)))
        by_same true = λ s. record { answer_is = refl; made_is = refl; after_is = refl }
        by_same false = objects_do pair inside law tested dicts ordered o p go (slice_get store.kinds o) (slice_get store.kinds p) refl refl
    further_step pair inside law ordered (int i) (int j) go = λ s. record { answer_is = refl; made_is = refl; after_is = refl }
    further_step pair inside law ordered (int i) (truth b) go = λ s. record { answer_is = refl; made_is = refl; after_is = refl }
    further_step pair inside law ordered (truth a) (int j) go = λ s. record { answer_is = refl; made_is = refl; after_is = refl }
    further_step pair inside law ordered (truth a) (truth b) go = λ s. record { answer_is = refl; made_is = refl; after_is = refl }
    further_step pair inside law ordered (range a b c) (range d e f) go = λ s. record { answer_is = refl; made_is = refl; after_is = refl }
    further_step pair inside law ordered v w go = λ s. record { answer_is = refl; made_is = refl; after_is = refl }

    pub within_does : (levels : ℕ) → IsInside (compare_within levels) (compared_to store levels)
    within_does zero = deep_step
    within_does (suc levels) = further_step (compare_within levels) (compared_to store levels) (within_does levels)
