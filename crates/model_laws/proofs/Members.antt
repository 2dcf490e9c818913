-- Values that are equal, and a value among the items of a list.
use Rattle.std.proofs.Common.{◌≡◌, ◌<◌, ◌≤◌, ℕ, zero, suc, ◌+◌, ℤ, pos, negsuc, Bool, true, false, not, ◌==◌, nat_lt, if◌then◌else◌, List, [], ◌∷◌, length, slice_get, Option, Some, None, is_some, unwrap_or, refl, sym, ap, subst, ◌∙◌, arith, leb-true, leb-false, eq-eqb, codes}
use Rattle.std.proofs.lemmas.Option.{slice_get_past}
use Rattle.std.specs.Str.{bytes_eq}
use Rattle.py_value.specs.Contents.{Contents, nothing, truth, int, text, object, tuple, Parts, no_parts, part}
use Rattle.py_value.specs.Seen.{SeenKind, a_list, item_at, reads}
use Rattle.py_model.specs.Files.{next_line}
use Rattle.py_model.specs.Arithmetic.{in_plan, among_items, truth_of, truth_plan, not_plan, not_in_plan, among_parts}
use Rattle.py_model.specs.Effect.{Answers, accessed, touching, effect, parts_of}
use Rattle.py_model.specs.Faults.{value_error}
use Rattle.py_model.specs.Lists.{when_list, seek, answer_place, index_method, unpack, tuple_display, wrong_count, iter, iter_of, next, next_of}
use Rattle.py_model.specs.Operands.{number_in, gives_truth}
use Rattle.py_model.specs.Plan.{Plan, done, kind_of, read_len, writes, ends, looks}
use Rattle.py_model.specs.Store.{RunStore, item_of}
use Rattle.py_model.specs.Walks.{equals, is_alike, by_number, number_of, alike, before, behind, read_items, read_value, items_of}
use Rattle.model_laws.specs.TableLists.{truth_is, not_is, unpack_is, iter_is, next_is, item_or_end, item_in}
use Rattle.model_laws.specs.Equality.{ComesTo, IsEqual, StandsAt, in_is, index_is, not_in_is}
use Rattle.model_laws.specs.Reading.{Stand, IsList, is_of}
use Rattle.model_laws.specs.Results.{Result, leaves, throws, Does, Gives, DoesAlone}
use Rattle.model_laws.proofs.Standing.{stand_at}
use Rattle.model_laws.proofs.Dicts.{contained_by}
use Rattle.model_laws.proofs.Effects.{does_as, stays, does_same, items_read}
use Rattle.model_laws.proofs.Lists.{by_length, truth_by}

abbrev unpack_by : ℕ → ℕ → ℕ → Plan
unpack_by targets o n = if n == targets then read_items n o 0 tuple_display else wrong_count

slice_get-unwrap : (xs : List Contents) (p : ℕ) → p < length xs → slice_get xs p ≡ Some (item_in xs p)
slice_get-unwrap [] p below = absurd (omega (arith, below))
slice_get-unwrap (x ∷ xs) zero below = refl
slice_get-unwrap (x ∷ xs) (suc p) below = slice_get-unwrap xs p (omega (arith, below))

-- what a walk does once a pair was compared
abbrev pub hit_or : Plan → Plan → Bool → Plan
hit_or hit next true = hit
hit_or hit next false = next

module _ (store : RunStore) (answers : Answers) (o : ℕ) (items : List Contents) (listed : IsList store o items) where
  abbrev DoesIt : Plan → Result (List Contents) → Type 0
  DoesIt p result = Does IsList store o (effect store answers p) result

  compared : (v item : Contents) (b : Bool) (go : Bool → Plan) (result : Result (List Contents)) → IsEqual store answers v item b → DoesIt (go b) result → DoesIt (equals v item go) result
  compared v item b go result equal does =
      let same = equal go in
      does_as (is_of o) IsList store o (effect store answers (equals v item go)) (effect store answers (go b)) result same.answer_is same.made_is same.after_is does

  read_one : (i : ℕ) (item : Contents) (go : Contents → Plan) (result : Result (List Contents)) → item_of store o i ≡ Some item → DoesIt (go item) result
      → Does IsList store o (touching (accessed (reads (item_at o i))) (effect store answers (go (unwrap_or (item_of store o i) nothing)))) result
  read_one i item go result is does =
      does_as (is_of o) IsList store o (touching (accessed (reads (item_at o i))) (effect store answers (go (unwrap_or (item_of store o i) nothing)))) (effect store answers (go (unwrap_or (item_of store o i) nothing))) result refl refl refl
      (subst (λ (found : Option Contents). DoesIt (go (unwrap_or found nothing)) result) (sym is) does)

  among_does : (v : Contents) (i : ℕ) (rest : List Contents) (place : Option ℕ) (go : Bool → Plan) (result : Result (List Contents)) → Stand store o i rest → StandsAt store answers v rest place
      → DoesIt (go (is_some place)) result → DoesIt (among_items (length rest) o i v go) result
  among_does v i [] place go result stand found does = subst (λ (some : Option ℕ). DoesIt (go (is_some some)) result) found does
  among_does v i (item ∷ rest) (Some zero) go result stand found does =
      read_one i item (λ w. equals v w (hit_or (go true) (among_items (length rest) o (suc i) v go))) result stand.0 (compared v item true (hit_or (go true) (among_items (length rest) o (suc i) v go)) result found does)
  among_does v i (item ∷ rest) (Some (suc p)) go result stand found does =
      read_one i item (λ w. equals v w (hit_or (go true) (among_items (length rest) o (suc i) v go))) result stand.0
      (compared v item false (hit_or (go true) (among_items (length rest) o (suc i) v go)) result found.0 (among_does v (suc i) rest (Some p) go result stand.1 found.1 does))
  among_does v i (item ∷ rest) None go result stand found does =
      read_one i item (λ w. equals v w (hit_or (go true) (among_items (length rest) o (suc i) v go))) result stand.0
      (compared v item false (hit_or (go true) (among_items (length rest) o (suc i) v go)) result found.0 (among_does v (suc i) rest None go result stand.1 found.1 does))

  -- a place from another on
  abbrev behind_by : ℕ → Option ℕ → Option ℕ
  behind_by i (Some p) = Some (i + p)
  behind_by i None = None

  seek_does : (v : Contents) (i : ℕ) (rest : List Contents) (place : Option ℕ) (go : Option ℕ → Plan) (result : Result (List Contents)) → Stand store o i rest → StandsAt store answers v rest place
      → DoesIt (go (behind_by i place)) result → DoesIt (seek (length rest) o i v go) result
  seek_does v i [] place go result stand found does = subst (λ (some : Option ℕ). DoesIt (go (behind_by i some)) result) found does
  seek_does v i (item ∷ rest) (Some zero) go result stand found does =
      read_one i item (λ w. equals v w (hit_or (go (Some i)) (seek (length rest) o (suc i) v go))) result stand.0
      (compared v item true (hit_or (go (Some i)) (seek (length rest) o (suc i) v go)) result found (subst (λ (k : ℕ). DoesIt (go (Some k)) result) (omega arith) does))
  seek_does v i (item ∷ rest) (Some (suc p)) go result stand found does =
      read_one i item (λ w. equals v w (hit_or (go (Some i)) (seek (length rest) o (suc i) v go))) result stand.0
      (compared v item false (hit_or (go (Some i)) (seek (length rest) o (suc i) v go)) result found.0
      (seek_does v (suc i) rest (Some p) go result stand.1 found.1 (subst (λ (k : ℕ). DoesIt (go (Some k)) result) (omega arith) does)))
  seek_does v i (item ∷ rest) None go result stand found does =
      read_one i item (λ w. equals v w (hit_or (go (Some i)) (seek (length rest) o (suc i) v go))) result stand.0
      (compared v item false (hit_or (go (Some i)) (seek (length rest) o (suc i) v go)) result found.0 (seek_does v (suc i) rest None go result stand.1 found.1 does))

  by_list : (f : Option SeenKind → Plan) (result : Result (List Contents)) → DoesIt (f (Some a_list)) result → DoesIt (kind_of o f) result
  by_list f result does = subst (λ (kind : Option SeenKind). DoesIt (f kind) result) (sym listed.kind_is) does

  same_here : (answer : Contents) → DoesIt (writes (done answer)) (leaves answer items)
  same_here answer = stays (is_of o) IsList store o (effect store answers (writes (done answer))) answer items refl refl refl listed

  pub in_does : (v : Contents) (place : Option ℕ) → StandsAt store answers v items place → DoesIt (in_plan (v ∷ (object o ∷ []))) (in_is items place)
  in_does v place found = by_list (contained_by o v gives_truth) (in_is items place) (by_length store answers o items listed (λ n. among_items n o 0 v gives_truth) (in_is items place)
      (among_does v 0 items place gives_truth (in_is items place) listed.items_stand found (same_here (truth (is_some place)))))

  pub not_in_does : (v : Contents) (place : Option ℕ) → StandsAt store answers v items place → DoesIt (not_in_plan (v ∷ (object o ∷ []))) (not_in_is items place)
  not_in_does v place found = by_list (contained_by o v (λ b. gives_truth (not b))) (not_in_is items place) (by_length store answers o items listed (λ n. among_items n o 0 v (λ b. gives_truth (not b))) (not_in_is items place)
      (among_does v 0 items place (λ b. gives_truth (not b)) (not_in_is items place) listed.items_stand found (same_here (truth (not (is_some place))))))

  pub index_does : (v : Contents) (place : Option ℕ) → StandsAt store answers v items place → DoesIt (index_method (object o ∷ (v ∷ []))) (index_is items place)
  index_does v place found = by_list (when_list (read_len o (λ n. seek n o 0 v answer_place))) (index_is items place) (by_length store answers o items listed (λ n. seek n o 0 v answer_place) (index_is items place)
      (seek_does v 0 items place answer_place (index_is items place) listed.items_stand found (answered_at place)))
    where
      answered_at : (some : Option ℕ) → DoesIt (answer_place (behind_by 0 some)) (index_is items some)
      answered_at (Some p) = subst (λ (k : ℕ). DoesIt (answer_place (Some k)) (leaves (int (pos p)) items)) (omega arith) (same_here (int (pos p)))
      answered_at None = record { outcome_is = refl; made_is = refl; after_is = refl }

  truth_does : (go : Bool → Plan) (result : Result (List Contents)) → DoesIt (go (not (length items == 0))) result → DoesIt (truth_of (object o) go) result
  truth_does go result does = by_list (truth_by o go) result (by_length store answers o items listed (λ n. go (not (n == 0))) result does)

  pub list_truth : DoesIt (truth_plan (object o ∷ [])) (truth_is items)
  list_truth = truth_does gives_truth (truth_is items) (same_here (truth (not (length items == 0))))

  pub list_not : DoesIt (not_plan (object o ∷ [])) (not_is items)
  list_not = truth_does (λ b. gives_truth (not b)) (not_is items) (by_test (length items == 0))
    where
      by_test : (b : Bool) → DoesIt (gives_truth (not (not b))) (leaves (truth b) items)
      by_test true = same_here (truth true)
      by_test false = same_here (truth false)

  pub list_unpacked : (targets : ℕ) → DoesIt (unpack targets (object o ∷ [])) (unpack_is targets items)
  list_unpacked targets = by_list (when_list (read_len o (unpack_by targets o))) (unpack_is targets items) (by_length store answers o items listed (unpack_by targets o) (unpack_is targets items) (by_test (length items == targets)))
    where
      by_test : (b : Bool) → DoesIt (if b then read_items (length items) o 0 tuple_display else wrong_count) (if b then leaves (tuple (parts_of items)) items else throws value_error (text (codes "wrong number of values") ∷ []))
      by_test true = does_same (is_of o) IsList store o (effect store answers (read_items (length items) o 0 tuple_display)) (effect store answers (tuple_display items)) (leaves (tuple (parts_of items)) items)
          (λ s. items_read store answers o 0 items tuple_display s listed.items_stand) (same_here (tuple (parts_of items)))
      by_test false = record { outcome_is = refl; made_is = refl; after_is = refl }

  pub list_iter : DoesIt (iter (object o ∷ [])) (iter_is items)
  list_iter = by_list (iter_of o) (iter_is items) (same_here nothing)

  past_none : (turn : ℕ) (xs : List Contents) → nat_lt turn (length xs) ≡ false → slice_get xs turn ≡ None
  past_none turn xs is = slice_get_past xs turn (omega (arith, leb-false (suc turn) (length xs) is))

  pub list_next : (turn : ℕ) (begun : Contents) → DoesIt (next next_line (object o ∷ (int (pos turn) ∷ (begun ∷ [])))) (next_is items turn)
  list_next turn begun = by_list (next_of next_line o turn begun) (next_is items turn) (by_length store answers o items listed (λ n. if nat_lt turn n then read_value o turn (λ item. writes (done item)) else ends) (next_is items turn) (by_test (nat_lt turn (length items)) refl))
    where
      by_test : (b : Bool) → nat_lt turn (length items) ≡ b → DoesIt (if b then read_value o turn (λ item. writes (done item)) else ends) (item_or_end (slice_get items turn) items)
      by_test true is =
          let below : turn < length items = leb-true (suc turn) (length items) is in
          let there : slice_get items turn ≡ Some (item_in items turn) = slice_get-unwrap items turn below in
          subst (λ (found : Option Contents). DoesIt (read_value o turn (λ item. writes (done item))) (item_or_end found items)) (sym there)
          (read_one turn (item_in items turn) (λ item. writes (done item)) (leaves (item_in items turn) items) (subst (λ (k : ℕ). item_of store o k ≡ Some (item_in items turn)) (omega arith) (stand_at store o 0 turn items listed.items_stand below)) (same_here (item_in items turn)))
      by_test false is = subst (λ (found : Option Contents). DoesIt ends (item_or_end found items)) (sym (past_none turn items is)) (record { answer_is = refl; made_is = refl; after_is = refl })

-- a value among the items of a tuple
module _ (store : RunStore) (answers : Answers) where
  abbrev AloneDoes : Plan → Contents → Type 0
  AloneDoes p answer = Gives store (effect store answers p) answer

  compared_alone : (v item : Contents) (b : Bool) (go : Bool → Plan) (answer : Contents) → IsEqual store answers v item b → AloneDoes (go b) answer → AloneDoes (looks 1 (equals v item go)) answer
  compared_alone v item b go answer equal does =
      let same = equal go in
      record { answer_is = same.answer_is ∙ does.answer_is; made_is = same.made_is ∙ does.made_is; after_is = same.after_is ∙ does.after_is }

  among_parts_does : (v : Contents) (parts : Parts) (place : Option ℕ) (go : Bool → Plan) (answer : Contents) → StandsAt store answers v (items_of parts) place → AloneDoes (go (is_some place)) answer
      → AloneDoes (among_parts parts v go) answer
  among_parts_does v no_parts place go answer found does = subst (λ (some : Option ℕ). AloneDoes (go (is_some some)) answer) found does
  among_parts_does v (part item rest) (Some zero) go answer found does = compared_alone v item true (hit_or (go true) (among_parts rest v go)) answer found does
  among_parts_does v (part item rest) (Some (suc p)) go answer found does =
      compared_alone v item false (hit_or (go true) (among_parts rest v go)) answer found.0 (among_parts_does v rest (Some p) go answer found.1 does)
  among_parts_does v (part item rest) None go answer found does =
      compared_alone v item false (hit_or (go true) (among_parts rest v go)) answer found.0 (among_parts_does v rest None go answer found.1 does)

  pub in_tuple : (v : Contents) (parts : Parts) (place : Option ℕ) → StandsAt store answers v (items_of parts) place → DoesAlone store (effect store answers (in_plan (v ∷ (tuple parts ∷ [])))) (in_is tt place)
  in_tuple v parts place found = among_parts_does v parts place gives_truth (truth (is_some place)) found (record { answer_is = refl; made_is = refl; after_is = refl })

  pub not_in_tuple : (v : Contents) (parts : Parts) (place : Option ℕ) → StandsAt store answers v (items_of parts) place → DoesAlone store (effect store answers (not_in_plan (v ∷ (tuple parts ∷ [])))) (not_in_is tt place)
  not_in_tuple v parts place found = among_parts_does v parts place (λ b. gives_truth (not b)) (truth (not (is_some place))) found (record { answer_is = refl; made_is = refl; after_is = refl })

-- atoms that are equal
not_less : (n : ℕ) → nat_lt n n ≡ false
not_less n = by_test (nat_lt n n) refl
  where
    by_test : (b : Bool) → nat_lt n n ≡ b → nat_lt n n ≡ false
    by_test true is = absurd (omega (arith, leb-true (suc n) n is))
    by_test false is = is

itself : (i : ℤ) → is_alike (by_number i i) ≡ true
itself (pos n) = ap (λ b. is_alike (if b then before else if b then behind else alike)) (not_less n)
itself (negsuc n) = ap (λ b. is_alike (if b then before else if b then behind else alike)) (not_less n)

nat_differ : (m n : ℕ) → (m ≡ n → ⊥) → is_alike (if nat_lt m n then before else if nat_lt n m then behind else alike) ≡ false
nat_differ m n differ = by_tests (nat_lt m n) (nat_lt n m) refl refl
  where
    not_below : (a b : ℕ) → nat_lt a b ≡ false → b ≤ a
    not_below a b is = omega (arith, leb-false (suc a) b is)

    by_tests : (b c : Bool) → nat_lt m n ≡ b → nat_lt n m ≡ c → is_alike (if b then before else if c then behind else alike) ≡ false
    by_tests true c is other = refl
    by_tests false true is other = refl
    by_tests false false is other = absurd (differ (omega (arith, not_below m n is, not_below n m other)))

differ_apart : (i j : ℤ) → (i ≡ j → ⊥) → is_alike (by_number i j) ≡ false
differ_apart (pos m) (pos n) differ = nat_differ m n (λ is. differ (ap pos is))
differ_apart (pos m) (negsuc n) differ = refl
differ_apart (negsuc m) (pos n) differ = refl
differ_apart (negsuc m) (negsuc n) differ = nat_turned (nat_differ m n (λ is. differ (ap negsuc is)))
  where
    nat_turned : is_alike (if nat_lt m n then before else if nat_lt n m then behind else alike) ≡ false → is_alike (if nat_lt n m then before else if nat_lt m n then behind else alike) ≡ false
    nat_turned is = by_tests (nat_lt m n) (nat_lt n m) is
      where
        by_tests : (b c : Bool) → is_alike (if b then before else if c then behind else alike) ≡ false → is_alike (if c then before else if b then behind else alike) ≡ false
        by_tests true true is = refl
        by_tests true false is = refl
        by_tests false true is = refl
        by_tests false false is = is

where_true : (b : Bool) (p q : Plan) → b ≡ true → (if b then p else q) ≡ p
where_true b p q is = ap (λ c. if c then p else q) is

module _ (store : RunStore) (answers : Answers) where
  comes : (p q : Plan) → p ≡ q → ComesTo store (effect store answers p) (effect store answers q)
  comes p q is = subst (λ (plan : Plan). ComesTo store (effect store answers p) (effect store answers plan)) is (record { answer_is = refl; made_is = refl; after_is = refl })

  numbers_go : (v w : Contents) (i j : ℤ) (go : Bool → Plan) → number_in v ≡ Some i → number_in w ≡ Some j → equals v w go ≡ go (is_alike (by_number i j))
  numbers_go (int a) (int b) i j go is other = both a b i j go is other
    where
      both : (a b i j : ℤ) (go : Bool → Plan) → Some a ≡ Some i → Some b ≡ Some j → go (is_alike (by_number a b)) ≡ go (is_alike (by_number i j))
      both a b i j go is other = ap (λ (x : Option ℤ). go (is_alike (by_number (unwrap_or x i) b))) is ∙ ap (λ (x : Option ℤ). go (is_alike (by_number i (unwrap_or x j)))) other
  numbers_go (int a) (truth b) i j go is other =
      ap (λ (x : Option ℤ). go (is_alike (by_number (unwrap_or x i) (number_of b)))) is ∙ ap (λ (x : Option ℤ). go (is_alike (by_number i (unwrap_or x j)))) other
  numbers_go (truth a) (int b) i j go is other =
      ap (λ (x : Option ℤ). go (is_alike (by_number (unwrap_or x i) b))) is ∙ ap (λ (x : Option ℤ). go (is_alike (by_number i (unwrap_or x j)))) other
  numbers_go (truth a) (truth b) i j go is other =
      ap (λ (x : Option ℤ). go (is_alike (by_number (unwrap_or x i) (number_of b)))) is ∙ ap (λ (x : Option ℤ). go (is_alike (by_number i (unwrap_or x j)))) other
  numbers_go (int a) w i j go is other = absurd cc
  numbers_go (truth a) w i j go is other = absurd cc
  numbers_go v w i j go is other = absurd cc

  pub same_number_equal : (v w : Contents) (i : ℤ) → number_in v ≡ Some i → number_in w ≡ Some i → IsEqual store answers v w true
  same_number_equal v w i is other go = comes (equals v w go) (go true) (numbers_go v w i i go is other ∙ ap go (itself i))

  pub other_number_differs : (v w : Contents) (i j : ℤ) → number_in v ≡ Some i → number_in w ≡ Some j → (i ≡ j → ⊥) → IsEqual store answers v w false
  other_number_differs v w i j is other differ go = comes (equals v w go) (go false) (numbers_go v w i j go is other ∙ ap go (differ_apart i j differ))

  pub texts_compared : (one other : List ℕ) → IsEqual store answers (text one) (text other) (bytes_eq one other)
  texts_compared one other go = comes (equals (text one) (text other) go) (go (bytes_eq one other)) (by_test (bytes_eq one other))
    where
      by_test : (b : Bool) → (if b then go true else if true then go false else equals (text one) (text other) go) ≡ go b
      by_test true = refl
      by_test false = refl

  pub object_itself : (o : ℕ) → IsEqual store answers (object o) (object o) true
  object_itself o go = comes (equals (object o) (object o) go) (go true) (where_true (o == o) (go true) _ (eq-eqb o o refl))
