-- A value among the items of a list or a tuple: it is sought as the table says.
use Rattle.std.proofs.Common.{◌≡◌, refl, sym, ap, subst, arith, ℕ, suc, ◌+◌, pos, Bool, true, false, not, List, [], ◌∷◌, length, Option, Some, None, is_some, unwrap_or}
use Rattle.std.specs.Option.{option_map}
use Rattle.py_value.specs.Contents.{Contents, Parts, nothing, truth, int, object, tuple, no_parts, part}
use Rattle.py_value.specs.Seen.{SeenKind, a_list}
use Rattle.py_model.specs.Arithmetic.{in_plan, not_in_plan, among_items, among_parts}
use Rattle.py_model.specs.Effect.{Answers, effect}
use Rattle.py_model.specs.Faults.{too_deep}
use Rattle.py_model.specs.Lists.{when_list, seek, answer_place, index_method}
use Rattle.py_model.specs.Operands.{gives_truth}
use Rattle.py_model.specs.Plan.{Plan, kind_of, read_len, writes, done}
use Rattle.py_model.specs.Store.{RunStore, item_of}
use Rattle.py_model.specs.Walks.{alike, before, behind, apart, compare_to, deepest, is_alike, items_of, read_value}
use Rattle.model_laws.specs.Comparing.{Compared, comes, lies_too_deep, compared, HasDicts}
use Rattle.model_laws.specs.Equality.{in_is, not_in_is, index_is, one_further, sought, further_sought, if_sought}
use Rattle.model_laws.specs.Reading.{Stand, IsList, is_of}
use Rattle.model_laws.specs.Results.{Result, leaves, Does, DoesAlone}
use Rattle.model_laws.proofs.Alone.{alone_same}
use Rattle.model_laws.proofs.Comparing.{Agrees, agree_then, agree, goes_on, within_does}
use Rattle.model_laws.proofs.Dicts.{contained_by}
use Rattle.model_laws.proofs.Effects.{Same, does_same, stays}
use Rattle.model_laws.proofs.Keys.{ValuesTested}
use Rattle.model_laws.proofs.Lists.{by_length}
use Rattle.model_laws.proofs.Members.{hit_or}

-- a plan goes on with where a value was found
abbrev found_goes : (Option ℕ → Plan) → Option (Option ℕ) → Plan
found_goes go (Some place) = go place
found_goes go None = too_deep

abbrev shifted : ℕ → Option ℕ → Option ℕ
shifted i (Some p) = Some (i + p)
shifted i None = None

module _ (tested : ValuesTested) (store : RunStore) (answers : Answers) (dicts : HasDicts store) where
  -- one item is compared, and the rest are sought where it is not equal
  one_sought : (v item : Contents) (hit next : Plan) (go : Option ℕ → Plan) (rest : Option (Option ℕ)) → hit ≡ go (Some 0) → Agrees store answers next (found_goes go (option_map one_further rest))
      → Agrees store answers (compare_to false deepest v item (λ how. hit_or hit next (is_alike how))) (found_goes go (further_sought (compared store false v item) rest))
  one_sought v item hit next go rest found agrees = agree_then store answers (compare_to false deepest v item (λ how. hit_or hit next (is_alike how))) (goes_on (λ how. hit_or hit next (is_alike how)) (compared store false v item))
      (found_goes go (further_sought (compared store false v item) rest)) (within_does store answers tested dicts deepest false v item (λ how. hit_or hit next (is_alike how))) (by_compared (compared store false v item))
    where
      by_compared : (how : Compared) → Agrees store answers (goes_on (λ c. hit_or hit next (is_alike c)) how) (found_goes go (further_sought how rest))
      by_compared (comes alike) = agree store answers hit (go (Some 0)) found
      by_compared (comes before) = agrees
      by_compared (comes behind) = agrees
      by_compared (comes apart) = agrees
      by_compared lies_too_deep = λ s. record { answer_is = refl; made_is = refl; after_is = refl }

  further : (go : Option ℕ → Plan) (i : ℕ) (rest : Option (Option ℕ)) → found_goes (λ place. go (shifted (suc i) place)) rest ≡ found_goes (λ place. go (shifted i place)) (option_map one_further rest)
  further go i (Some (Some p)) = ap (λ (k : ℕ). go (Some k)) (same i p)
    where
      same : (i p : ℕ) → suc i + p ≡ i + suc p
      same i p = omega arith
  further go i (Some None) = refl
  further go i None = refl

  first_place : (go : Option ℕ → Plan) (i : ℕ) → go (Some i) ≡ go (shifted i (Some 0))
  first_place go i = ap (λ (k : ℕ). go (Some k)) (same i)
    where
      same : (i : ℕ) → i ≡ i + 0
      same i = omega arith

  at_start : (go : Option ℕ → Plan) (rest : Option (Option ℕ)) → found_goes (λ place. go (shifted 0 place)) rest ≡ found_goes go rest
  at_start go (Some (Some p)) = ap (λ (k : ℕ). go (Some k)) (same p)
    where
      same : (p : ℕ) → 0 + p ≡ p
      same p = omega arith
  at_start go (Some None) = refl
  at_start go None = refl

  there_or_not : (go : Bool → Plan) (rest : Option (Option ℕ)) → found_goes (λ place. go (is_some place)) rest ≡ found_goes (λ place. go (is_some place)) (option_map one_further rest)
  there_or_not go (Some (Some p)) = refl
  there_or_not go (Some None) = refl
  there_or_not go None = refl

  module _ (o : ℕ) (v : Contents) where
    read_next : (i : ℕ) (item : Contents) (go : Contents → Plan) (p : Plan) → item_of store o i ≡ Some item → Agrees store answers (go item) p → Agrees store answers (read_value o i go) p
    read_next i item go p is agrees = λ s.
        let same : Same (effect store answers (go (unwrap_or (item_of store o i) nothing))) (effect store answers p) s s
        = subst (λ (found : Option Contents). Same (effect store answers (go (unwrap_or found nothing))) (effect store answers p) s s) (sym is) (agrees s) in
        record { answer_is = same.answer_is; made_is = same.made_is; after_is = same.after_is }

    among_agrees : (i : ℕ) (items : List Contents) (go : Bool → Plan) → Stand store o i items → Agrees store answers (among_items (length items) o i v go) (found_goes (λ place. go (is_some place)) (sought store v items))
    among_agrees i [] go stand = λ s. record { answer_is = refl; made_is = refl; after_is = refl }
    among_agrees i (item ∷ items) go stand = read_next i item (λ w. compare_to false deepest v w (λ how. hit_or (go true) (among_items (length items) o (suc i) v go) (is_alike how))) (found_goes (λ place. go (is_some place)) (sought store v (item ∷ items))) stand.0
        (one_sought v item (go true) (among_items (length items) o (suc i) v go) (λ place. go (is_some place)) (sought store v items) refl
        (agree_then store answers (among_items (length items) o (suc i) v go) (found_goes (λ place. go (is_some place)) (sought store v items)) (found_goes (λ place. go (is_some place)) (option_map one_further (sought store v items)))
        (among_agrees (suc i) items go stand.1)
        (agree store answers (found_goes (λ place. go (is_some place)) (sought store v items)) (found_goes (λ place. go (is_some place)) (option_map one_further (sought store v items))) (there_or_not go (sought store v items)))))

    seek_agrees : (i : ℕ) (items : List Contents) (go : Option ℕ → Plan) → Stand store o i items → Agrees store answers (seek (length items) o i v go) (found_goes (λ place. go (shifted i place)) (sought store v items))
    seek_agrees i [] go stand = λ s. record { answer_is = refl; made_is = refl; after_is = refl }
    seek_agrees i (item ∷ items) go stand = read_next i item (λ w. compare_to false deepest v w (λ how. hit_or (go (Some i)) (seek (length items) o (suc i) v go) (is_alike how))) (found_goes (λ place. go (shifted i place)) (sought store v (item ∷ items))) stand.0
        (one_sought v item (go (Some i)) (seek (length items) o (suc i) v go) (λ place. go (shifted i place)) (sought store v items) (first_place go i)
        (agree_then store answers (seek (length items) o (suc i) v go) (found_goes (λ place. go (shifted (suc i) place)) (sought store v items)) (found_goes (λ place. go (shifted i place)) (option_map one_further (sought store v items)))
        (seek_agrees (suc i) items go stand.1)
        (agree store answers (found_goes (λ place. go (shifted (suc i) place)) (sought store v items)) (found_goes (λ place. go (shifted i place)) (option_map one_further (sought store v items))) (further go i (sought store v items)))))

    module _ (items : List Contents) (listed : IsList store o items) where
      abbrev DoesIt : Plan → Result (List Contents) → Type 0
      DoesIt p result = Does IsList store o (effect store answers p) result

      by_list : (f : Option SeenKind → Plan) (result : Result (List Contents)) → DoesIt (f (Some a_list)) result → DoesIt (kind_of o f) result
      by_list f result does = subst (λ (kind : Option SeenKind). DoesIt (f kind) result) (sym listed.kind_is) does

      by_agreeing : (p q : Plan) (result : Result (List Contents)) → Agrees store answers p q → DoesIt q result → DoesIt p result
      by_agreeing p q result agrees does = does_same (is_of o) IsList store o (effect store answers p) (effect store answers q) result agrees does

      same_here : (answer : Contents) → DoesIt (writes (done answer)) (leaves answer items)
      same_here answer = stays (is_of o) IsList store o (effect store answers (writes (done answer))) answer items refl refl refl listed

      found_does : (go : Option ℕ → Plan) (does : Option ℕ → Result (List Contents)) → ((place : Option ℕ) → DoesIt (go place) (does place)) → (rest : Option (Option ℕ)) → DoesIt (found_goes go rest) (if_sought does rest)
      found_does go does each (Some place) = each place
      found_does go does each None = record { outcome_is = refl; made_is = refl; after_is = refl }

      pub list_contains : DoesIt (in_plan (v ∷ (object o ∷ []))) (if_sought (in_is items) (sought store v items))
      list_contains = by_list (contained_by o v gives_truth) (if_sought (in_is items) (sought store v items))
          (by_length store answers o items listed (λ n. among_items n o 0 v gives_truth) (if_sought (in_is items) (sought store v items))
          (by_agreeing (among_items (length items) o 0 v gives_truth) (found_goes (λ place. gives_truth (is_some place)) (sought store v items)) (if_sought (in_is items) (sought store v items)) (among_agrees 0 items gives_truth listed.items_stand)
          (found_does (λ place. gives_truth (is_some place)) (in_is items) (λ place. same_here (truth (is_some place))) (sought store v items))))

      pub list_lacks : DoesIt (not_in_plan (v ∷ (object o ∷ []))) (if_sought (not_in_is items) (sought store v items))
      list_lacks = by_list (contained_by o v (λ b. gives_truth (not b))) (if_sought (not_in_is items) (sought store v items))
          (by_length store answers o items listed (λ n. among_items n o 0 v (λ b. gives_truth (not b))) (if_sought (not_in_is items) (sought store v items))
          (by_agreeing (among_items (length items) o 0 v (λ b. gives_truth (not b))) (found_goes (λ place. gives_truth (not (is_some place))) (sought store v items)) (if_sought (not_in_is items) (sought store v items))
          (among_agrees 0 items (λ b. gives_truth (not b)) listed.items_stand)
          (found_does (λ place. gives_truth (not (is_some place))) (not_in_is items) (λ place. same_here (truth (not (is_some place)))) (sought store v items))))

      pub list_index : DoesIt (index_method (object o ∷ (v ∷ []))) (if_sought (index_is items) (sought store v items))
      list_index = by_list (when_list (read_len o (λ n. seek n o 0 v answer_place))) (if_sought (index_is items) (sought store v items))
          (by_length store answers o items listed (λ n. seek n o 0 v answer_place) (if_sought (index_is items) (sought store v items))
          (by_agreeing (seek (length items) o 0 v answer_place) (found_goes answer_place (sought store v items)) (if_sought (index_is items) (sought store v items))
          (agree_then store answers (seek (length items) o 0 v answer_place) (found_goes (λ place. answer_place (shifted 0 place)) (sought store v items)) (found_goes answer_place (sought store v items)) (seek_agrees 0 items answer_place listed.items_stand)
          (agree store answers (found_goes (λ place. answer_place (shifted 0 place)) (sought store v items)) (found_goes answer_place (sought store v items)) (at_start answer_place (sought store v items))))
          (found_does answer_place (index_is items) place_does (sought store v items))))
        where
          place_does : (place : Option ℕ) → DoesIt (answer_place place) (index_is items place)
          place_does (Some p) = same_here (int (pos p))
          place_does None = record { outcome_is = refl; made_is = refl; after_is = refl }

  -- a tuple
  parts_agree : (v : Contents) (parts : Parts) (go : Bool → Plan) → Agrees store answers (among_parts parts v go) (found_goes (λ place. go (is_some place)) (sought store v (items_of parts)))
  parts_agree v no_parts go = λ s. record { answer_is = refl; made_is = refl; after_is = refl }
  parts_agree v (part item parts) go = λ s.
      let same = one_sought v item (go true) (among_parts parts v go) (λ place. go (is_some place)) (sought store v (items_of parts)) refl
      (agree_then store answers (among_parts parts v go) (found_goes (λ place. go (is_some place)) (sought store v (items_of parts))) (found_goes (λ place. go (is_some place)) (option_map one_further (sought store v (items_of parts))))
      (parts_agree v parts go)
      (agree store answers (found_goes (λ place. go (is_some place)) (sought store v (items_of parts))) (found_goes (λ place. go (is_some place)) (option_map one_further (sought store v (items_of parts)))) (there_or_not go (sought store v (items_of parts))))) s in
      record { answer_is = same.answer_is; made_is = same.made_is; after_is = same.after_is }

  tuple_does : (v : Contents) (parts : Parts) (test : Bool → Bool) (does : Option ℕ → Result (Unit {0})) → ((place : Option ℕ) → DoesAlone store (effect store answers (gives_truth (test (is_some place)))) (does place))
      → DoesAlone store (effect store answers (among_parts parts v (λ b. gives_truth (test b)))) (if_sought does (sought store v (items_of parts)))
  tuple_does v parts test does each = alone_same store answers (effect store answers (among_parts parts v (λ b. gives_truth (test b)))) (effect store answers (found_goes (λ place. gives_truth (test (is_some place))) (sought store v (items_of parts))))
      (if_sought does (sought store v (items_of parts))) (parts_agree v parts (λ b. gives_truth (test b))) (by_found (sought store v (items_of parts)))
    where
      by_found : (rest : Option (Option ℕ)) → DoesAlone store (effect store answers (found_goes (λ place. gives_truth (test (is_some place))) rest)) (if_sought does rest)
      by_found (Some place) = each place
      by_found None = record { outcome_is = refl; made_is = refl; after_is = refl }

  pub tuple_contains : (v : Contents) (parts : Parts) → DoesAlone store (effect store answers (in_plan (v ∷ (tuple parts ∷ [])))) (if_sought (in_is tt) (sought store v (items_of parts)))
  tuple_contains v parts = tuple_does v parts (λ b. b) (in_is tt) (λ place. record { answer_is = refl; made_is = refl; after_is = refl })

  pub tuple_lacks : (v : Contents) (parts : Parts) → DoesAlone store (effect store answers (not_in_plan (v ∷ (tuple parts ∷ [])))) (if_sought (not_in_is tt) (sought store v (items_of parts)))
  tuple_lacks v parts = tuple_does v parts not (not_in_is tt) (λ place. record { answer_is = refl; made_is = refl; after_is = refl })
