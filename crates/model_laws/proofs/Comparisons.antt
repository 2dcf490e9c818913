-- Comparisons do what the table says.
use Rattle.std.proofs.Common.{◌≡◌, refl, subst, ℕ, Bool, true, false, not, if◌then◌else◌, List, [], ◌∷◌, slice_get, Option, Some}
use Rattle.std.specs.Str.{bytes_eq}
use Rattle.py_value.specs.Contents.{Contents, truth, int, text, tuple, object}
use Rattle.py_value.specs.Seen.{SeenKind, a_list}
use Rattle.py_model.specs.Arithmetic.{eq_plan, ne_plan, lt_plan, le_plan, gt_plan, ge_plan, in_order, unless_apart as unless_apart_goes, is_less, is_more, best_from, best_of, max_plan, min_plan}
use Rattle.py_model.specs.Effect.{Answers, effect}
use Rattle.py_model.specs.Operands.{gives_truth, when_lists}
use Rattle.py_model.specs.Plan.{Plan, counts}
use Rattle.py_model.specs.Store.{RunStore}
use Rattle.py_model.specs.Texts.{is_before}
use Rattle.py_model.specs.Walks.{Comparison, alike, before, behind, apart, compare_to, deepest, is_alike, shorter, order_of_texts, equals, walk}
use Rattle.model_laws.specs.Comparing.{Compared, comes, lies_too_deep, compared, HasDicts}
use Rattle.model_laws.specs.Equality.{IsEqual}
use Rattle.model_laws.specs.Reading.{HasItems}
use Rattle.model_laws.specs.Results.{Result, gives, DoesAlone}
use Rattle.model_laws.specs.TableComparisons.{answers_by, eq_is, ne_is, unless_apart, by_order, are_lists, ordered_is, wrong_kinds, best_from_is, best_is, max_is, min_is, lt_is, le_is, gt_is, ge_is}
use Rattle.model_laws.proofs.Alone.{alone_same}
use Rattle.model_laws.proofs.Comparing.{goes_on, within_does}
use Rattle.model_laws.proofs.Effects.{Same, after_same, walked}
use Rattle.model_laws.proofs.Keys.{ValuesTested}

module _ (tested : ValuesTested) (store : RunStore) (answers : Answers) (dicts : HasDicts store) where
  abbrev DoesIt : Plan → Result (Unit {0}) → Type 0
  DoesIt p result = DoesAlone store (effect store answers p) result

  by_walk : (ordered : Bool) (v w : Contents) (go : Comparison → Plan) (result : Result (Unit {0})) → DoesIt (goes_on go (compared store ordered v w)) result → DoesIt (compare_to ordered deepest v w go) result
  by_walk ordered v w go result does =
      alone_same store answers (effect store answers (compare_to ordered deepest v w go)) (effect store answers (goes_on go (compared store ordered v w))) result
      (within_does store answers tested dicts deepest ordered v w go) does

  answered : (test : Comparison → Bool) (how : Compared) → DoesIt (goes_on (λ c. gives_truth (test c)) how) (answers_by (λ c. gives (truth (test c))) how)
  answered test (comes how) = record { answer_is = refl; made_is = refl; after_is = refl }
  answered test lies_too_deep = record { outcome_is = refl; made_is = refl; after_is = refl }

  pub equal_does : (v w : Contents) → DoesIt (eq_plan (v ∷ (w ∷ []))) (eq_is store v w)
  equal_does v w = by_walk false v w (λ how. gives_truth (is_alike how)) (eq_is store v w) (answered is_alike (compared store false v w))

  pub unequal_does : (v w : Contents) → DoesIt (ne_plan (v ∷ (w ∷ []))) (ne_is store v w)
  unequal_does v w = by_walk false v w (λ how. gives_truth (not (is_alike how))) (ne_is store v w) (answered (λ how. not (is_alike how)) (compared store false v w))

  -- what a comparison comes to, `in` and `index` go on with
  pub equals_as : (v w : Contents) (how : Comparison) → compared store false v w ≡ comes how → IsEqual store answers v w (is_alike how)
  equals_as v w how is go =
      let same = within_does store answers tested dicts deepest false v w (λ c. go (is_alike c)) in
      let more : (s : RunStore) → Same (effect store answers (equals v w go)) (effect store answers (go (is_alike how))) s s
      = λ s. subst (λ (c : Compared). Same (effect store answers (equals v w go)) (effect store answers (goes_on (λ c. go (is_alike c)) c)) s s) is (same s) in
      record { answer_is = (more store).answer_is; made_is = (more store).made_is; after_is = after_same store (effect store answers (equals v w go)) (effect store answers (go (is_alike how))) more }

  -- an order goes on, with a plan and with what the table says
  module _ (tells : Comparison → Plan) (says : Comparison → Result (Unit {0})) (each : (how : Comparison) → DoesIt (tells how) (says how)) where
    ordered : (how : Compared) → DoesIt (goes_on (unless_apart_goes tells) how) (answers_by (unless_apart says) how)
    ordered (comes alike) = each alike
    ordered (comes before) = each before
    ordered (comes behind) = each behind
    ordered (comes apart) = record { outcome_is = refl; made_is = refl; after_is = refl }
    ordered lies_too_deep = record { outcome_is = refl; made_is = refl; after_is = refl }

    both : (v w : Contents) → DoesIt (compare_to true deepest v w (unless_apart_goes tells)) (answers_by (unless_apart says) (compared store true v w))
    both v w = by_walk true v w (unless_apart_goes tells) (answers_by (unless_apart says) (compared store true v w)) (ordered (compared store true v w))

    by_count : (n : ℕ) (p : Plan) (result : Result (Unit {0})) → DoesIt p result → DoesIt (counts n p) result
    by_count n p result does = alone_same store answers (effect store answers (counts n p)) (effect store answers p) result (λ s. record { answer_is = refl; made_is = refl; after_is = refl }) does

    by_texts : (one other : List ℕ) → DoesIt (tells (order_of_texts one other)) (unless_apart says (order_of_texts one other))
    by_texts one other = by_tests (bytes_eq one other) (is_before one other)
      where
        by_tests : (b c : Bool) → DoesIt (tells (if b then alike else if c then before else behind)) (unless_apart says (if b then alike else if c then before else behind))
        by_tests true c = each alike
        by_tests false true = each before
        by_tests false false = each behind

    by_kinds : (p : Plan) (result : Result (Unit {0})) → DoesIt p result → (left right : Option SeenKind) → DoesIt (when_lists p left right) (if are_lists left right then result else wrong_kinds)
    by_kinds p result does (Some a_list) (Some a_list) = does
    by_kinds p result does left right = record { outcome_is = refl; made_is = refl; after_is = refl }

    pub order_does : (v w : Contents) → DoesIt (in_order v w tells) (by_order store v w says)
    order_does (text one) (text other) = by_count (shorter one other) (tells (order_of_texts one other)) (unless_apart says (order_of_texts one other)) (by_texts one other)
    order_does (tuple ps) (tuple qs) = both (tuple ps) (tuple qs)
    order_does (object o) (object p) = by_kinds (compare_to true deepest (object o) (object p) (unless_apart_goes tells)) (answers_by (unless_apart says) (compared store true (object o) (object p)))
        (both (object o) (object p)) (slice_get store.kinds o) (slice_get store.kinds p)
    order_does (int i) (int j) = both (int i) (int j)
    order_does (int i) (truth b) = both (int i) (truth b)
    order_does (truth a) (int j) = both (truth a) (int j)
    order_does (truth a) (truth b) = both (truth a) (truth b)
    order_does v w = record { outcome_is = refl; made_is = refl; after_is = refl }

  test_does : (test : Comparison → Bool) (v w : Contents) → DoesIt (in_order v w (λ how. gives_truth (test how))) (ordered_is test store v w)
  test_does test v w = order_does (λ how. gives_truth (test how)) (λ how. gives (truth (test how))) (λ how. record { answer_is = refl; made_is = refl; after_is = refl }) v w

  pub lt_does : (v w : Contents) → DoesIt (lt_plan (v ∷ (w ∷ []))) (lt_is store v w)
  lt_does v w = test_does is_less v w

  pub le_does : (v w : Contents) → DoesIt (le_plan (v ∷ (w ∷ []))) (le_is store v w)
  le_does v w = test_does (λ how. not (is_more how)) v w

  pub gt_does : (v w : Contents) → DoesIt (gt_plan (v ∷ (w ∷ []))) (gt_is store v w)
  gt_does v w = test_does is_more v w

  pub ge_does : (v w : Contents) → DoesIt (ge_plan (v ∷ (w ∷ []))) (ge_is store v w)
  ge_does v w = test_does (λ how. not (is_less how)) v w

  -- the best of items
  best_from_does : (better : Comparison → Bool) (best : Contents) (items : List Contents) → DoesIt (best_from better best items) (best_from_is better store best items)
  best_from_does better best [] = record { answer_is = refl; made_is = refl; after_is = refl }
  best_from_does better best (item ∷ items) =
      order_does (λ how. elim (better how) as (λ b. Plan) [ true ↦ best_from better item items | false ↦ best_from better best items ])
      (λ how. elim (better how) as (λ b. Result (Unit {0})) [ true ↦ best_from_is better store item items | false ↦ best_from_is better store best items ])
      (λ how. by_test (best_from_does better item items) (best_from_does better best items) (better how)) item best
    where
      by_test : DoesIt (best_from better item items) (best_from_is better store item items) → DoesIt (best_from better best items) (best_from_is better store best items) → (t : Bool)
          → DoesIt (elim t as (λ b. Plan) [ true ↦ best_from better item items | false ↦ best_from better best items ])
          (elim t as (λ b. Result (Unit {0})) [ true ↦ best_from_is better store item items | false ↦ best_from_is better store best items ])
      by_test one other true = one
      by_test one other false = other

  best_does : (better : Comparison → Bool) (items : List Contents) → DoesIt (best_of better items) (best_is better store items)
  best_does better [] = record { outcome_is = refl; made_is = refl; after_is = refl }
  best_does better (item ∷ items) = best_from_does better item items

  in_sequence : (better : Comparison → Bool) (v : Contents) (items : List Contents) → HasItems store v items → DoesIt (walk v (best_of better)) (best_is better store items)
  in_sequence better v items has =
      alone_same store answers (effect store answers (walk v (best_of better))) (effect store answers (best_of better items)) (best_is better store items) (λ s. walked store answers v items (best_of better) s has)
      (best_does better items)

  pub max_does : (v : Contents) (items : List Contents) → HasItems store v items → DoesIt (max_plan (v ∷ [])) (max_is store items)
  max_does v items has = in_sequence is_more v items has

  pub max_of_does : (v w : Contents) (more : List Contents) → DoesIt (max_plan (v ∷ (w ∷ more))) (max_is store (v ∷ (w ∷ more)))
  max_of_does v w more = best_does is_more (v ∷ (w ∷ more))

  pub min_does : (v : Contents) (items : List Contents) → HasItems store v items → DoesIt (min_plan (v ∷ [])) (min_is store items)
  min_does v items has = in_sequence is_less v items has

  pub min_of_does : (v w : Contents) (more : List Contents) → DoesIt (min_plan (v ∷ (w ∷ more))) (min_is store (v ∷ (w ∷ more)))
  min_of_does v w more = best_does is_less (v ∷ (w ∷ more))
