-- `max` and `min` give the first of the best items.
use Rattle.std.proofs.Common.{◌≡◌, ◌∙◌, refl, sym, ap, subst, inl, inr, Bool, true, false, List, [], ◌∷◌, ◌++◌, if◌then◌else◌, None}
use Rattle.py_value.specs.Contents.{Contents, truth, int, text, tuple}
use Rattle.py_model.specs.Arithmetic.{is_less, is_more}
use Rattle.py_model.specs.Sorting.{ranked, refused_to}
use Rattle.py_model.specs.Store.{RunStore}
use Rattle.py_model.specs.Walks.{Comparison, alike, before, behind, apart, deepest}
use Rattle.model_laws.specs.Comparing.{comes, compared, comes_first, comes_last, precedes, exceeds}
use Rattle.model_laws.specs.InOrder.{IsFirstBest, BetterThanEach, NoneBetter}
use Rattle.model_laws.specs.Results.{Result, gives}
use Rattle.model_laws.specs.TableComparisons.{answers_by, unless_apart, by_order, have_order, wrong_kinds, best_from_is, best_is, max_is, min_is}
use Rattle.model_laws.proofs.Kin.{AreRanked, AreAllRanked, all_ranked, IsOrdered, rank_ordered}
use Rattle.py_model.specs.Kin.{In, AreKin}
use Rattle.py_model.proofs.Ranks.{Joins, values_join}

-- A test of ranks that says that one value is better: it passes on, and who is better than one that is no better than a third is better than this.
pub record IsBetter (better : Comparison → Bool) : Type 0 where
  pub passes : (r s t : Comparison) → Joins r s t → better r ≡ true → better s ≡ true → better t ≡ true
  pub outdoes : (r s t : Comparison) → Joins r s t → better t ≡ true → better s ≡ false → better r ≡ true

differ : true ≡ false → ⊥
differ is = cc

pub more_is_better : IsBetter is_more
more_is_better = record { passes = passes; outdoes = outdoes }
  where
    passes : (r s t : Comparison) → Joins r s t → is_more r ≡ true → is_more s ≡ true → is_more t ≡ true
    passes behind behind t joins one other = ap is_more joins
    passes behind alike t joins one other = absurd (differ (sym other))
    passes behind before t joins one other = absurd (differ (sym other))
    passes behind apart t joins one other = absurd joins
    passes alike s t joins one other = absurd (differ (sym one))
    passes before s t joins one other = absurd (differ (sym one))
    passes apart s t joins one other = absurd joins

    outdoes : (r s t : Comparison) → Joins r s t → is_more t ≡ true → is_more s ≡ false → is_more r ≡ true
    outdoes behind s t joins one other = refl
    outdoes alike alike t joins one other = absurd (differ (sym one ∙ ap is_more joins))
    outdoes alike before t joins one other = absurd (differ (sym one ∙ ap is_more joins))
    outdoes alike behind t joins one other = absurd (differ other)
    outdoes alike apart t joins one other = absurd joins
    outdoes before alike t joins one other = absurd (differ (sym one ∙ ap is_more joins))
    outdoes before before t joins one other = absurd (differ (sym one ∙ ap is_more joins))
    outdoes before behind t joins one other = absurd (differ other)
    outdoes before apart t joins one other = absurd joins
    outdoes apart s t joins one other = absurd joins

pub less_is_better : IsBetter is_less
less_is_better = record { passes = passes; outdoes = outdoes }
  where
    passes : (r s t : Comparison) → Joins r s t → is_less r ≡ true → is_less s ≡ true → is_less t ≡ true
    passes before before t joins one other = ap is_less joins
    passes before alike t joins one other = absurd (differ (sym other))
    passes before behind t joins one other = absurd (differ (sym other))
    passes before apart t joins one other = absurd joins
    passes alike s t joins one other = absurd (differ (sym one))
    passes behind s t joins one other = absurd (differ (sym one))
    passes apart s t joins one other = absurd joins

    outdoes : (r s t : Comparison) → Joins r s t → is_less t ≡ true → is_less s ≡ false → is_less r ≡ true
    outdoes before s t joins one other = refl
    outdoes alike alike t joins one other = absurd (differ (sym one ∙ ap is_less joins))
    outdoes alike behind t joins one other = absurd (differ (sym one ∙ ap is_less joins))
    outdoes alike before t joins one other = absurd (differ other)
    outdoes alike apart t joins one other = absurd joins
    outdoes behind alike t joins one other = absurd (differ (sym one ∙ ap is_less joins))
    outdoes behind behind t joins one other = absurd (differ (sym one ∙ ap is_less joins))
    outdoes behind before t joins one other = absurd (differ other)
    outdoes behind apart t joins one other = absurd joins
    outdoes apart s t joins one other = absurd joins

-- the best of items, from the best so far on
abbrev best_in : (Comparison → Bool) → Contents → List Contents → Contents
best_in better best [] = best
best_in better best (item ∷ items) = if better (ranked item best) then best_in better item items else best_in better best items

inside : (front back : List Contents) (v : Contents) → In v (front ++ v ∷ back)
inside [] back v = inl refl
inside (w ∷ front) back v = inr (inside front back v)

module _ (better : Comparison → Bool) (law : IsBetter better) (all : List Contents) (kin : (v w : Contents) → In v all → In w all → AreKin v w) where
  abbrev wins : Contents → Contents → Bool
  wins v w = better (ranked v w)

  joined : (a b c : Contents) → In a all → In b all → In c all → Joins (ranked a b) (ranked b c) (ranked a c)
  joined a b c ia ib ic = values_join a b c (kin a b ia ib) (kin b c ib ic)

  -- the best is among the items
  best_inside : (best : Contents) (items : List Contents) → IsFirstBest wins (best ∷ items) (best_in better best items) → In (best_in better best items) (best ∷ items)
  best_inside best items is = subst (λ (row : List Contents). In (best_in better best items) row) (sym is.items_are) (inside is.front is.back (best_in better best items))

  -- a new best comes behind one that it is better than
  one_more : (best item b : Contents) (items : List Contents) → In best all → In item all → In b all → wins item best ≡ true → IsFirstBest wins (item ∷ items) b → IsFirstBest wins (best ∷ (item ∷ items)) b
  one_more best item b items ibest iitem ib is record_is = by_front record_is.front record_is.items_are record_is.exceeds_front
    where
      head_is : (x y : Contents) (xs ys : List Contents) → x ∷ xs ≡ y ∷ ys → x ≡ y
      head_is x y xs ys same = cc

      exceeds_best : (front : List Contents) → item ∷ items ≡ front ++ b ∷ record_is.back → BetterThanEach wins b front → wins b best ≡ true
      exceeds_best [] same each = subst (λ (v : Contents). wins v best ≡ true) (head_is item b items record_is.back same) is
      exceeds_best (first ∷ front) same each =
          let here : wins b item ≡ true = subst (λ (v : Contents). wins b v ≡ true) (sym (head_is item first items (front ++ b ∷ record_is.back) same)) each.0 in
          law.passes (ranked b item) (ranked item best) (ranked b best) (joined b item best ib iitem ibest) here is

      by_front : (front : List Contents) → item ∷ items ≡ front ++ b ∷ record_is.back → BetterThanEach wins b front → IsFirstBest wins (best ∷ (item ∷ items)) b
      by_front front same each = record {
        front = best ∷ front;
        back = record_is.back;
        items_are = ap (λ (row : List Contents). best ∷ row) same;
        exceeds_front = (exceeds_best front same each, each);
        none_exceeds = record_is.none_exceeds;
      }

  -- an item that is no better than the best so far
  passed_over : (best item b : Contents) (items : List Contents) → In best all → In item all → In b all → wins item best ≡ false → IsFirstBest wins (best ∷ items) b → IsFirstBest wins (best ∷ (item ∷ items)) b
  passed_over best item b items ibest iitem ib is record_is = by_front record_is.front record_is.items_are record_is.exceeds_front
    where
      head_is : (x y : Contents) (xs ys : List Contents) → x ∷ xs ≡ y ∷ ys → x ≡ y
      head_is x y xs ys same = cc

      tail_is : (x y : Contents) (xs ys : List Contents) → x ∷ xs ≡ y ∷ ys → xs ≡ ys
      tail_is x y xs ys same = cc

      by_front : (front : List Contents) → best ∷ items ≡ front ++ b ∷ record_is.back → BetterThanEach wins b front → IsFirstBest wins (best ∷ (item ∷ items)) b
      by_front [] same each =
          let here : best ≡ b = head_is best b items record_is.back same in
          record {
            front = [];
            back = item ∷ record_is.back;
            items_are = ap (λ (v : Contents). v ∷ (item ∷ items)) here ∙ ap (λ (row : List Contents). b ∷ (item ∷ row)) (tail_is best b items record_is.back same);
            exceeds_front = tt;
            none_exceeds = (subst (λ (v : Contents). wins item v ≡ false) here is, record_is.none_exceeds);
          }
      by_front (first ∷ front) same each =
          let here : best ≡ first = head_is best first items (front ++ b ∷ record_is.back) same in
          let beats : wins b best ≡ true = subst (λ (v : Contents). wins b v ≡ true) (sym here) each.0 in
          record {
            front = best ∷ (item ∷ front);
            back = record_is.back;
            items_are = ap (λ (row : List Contents). best ∷ (item ∷ row)) (tail_is best first items (front ++ b ∷ record_is.back) same);
            exceeds_front = (beats, (law.outdoes (ranked b item) (ranked item best) (ranked b best) (joined b item best ib iitem ibest) beats is, each.1));
            none_exceeds = record_is.none_exceeds;
          }

  found_best : (best : Contents) (items : List Contents) → ((v : Contents) → In v (best ∷ items) → In v all) → IsFirstBest wins (best ∷ items) (best_in better best items)
  found_best best [] within = record { front = []; back = []; items_are = refl; exceeds_front = tt; none_exceeds = tt }
  found_best best (item ∷ items) within = by_test (wins item best) refl (found_best item items (λ v i. within v (inr i))) (found_best best items (λ v i. within v (around v i)))
    where
      around : (v : Contents) → In v (best ∷ items) → In v (best ∷ (item ∷ items))
      around v (inl is) = inl is
      around v (inr i) = inr (inr i)

      by_test : (t : Bool) → wins item best ≡ t → IsFirstBest wins (item ∷ items) (best_in better item items) → IsFirstBest wins (best ∷ items) (best_in better best items)
          → IsFirstBest wins (best ∷ (item ∷ items)) (if t then best_in better item items else best_in better best items)
      by_test true is one other = one_more best item (best_in better item items) items (within best (inl refl)) (within item (inr (inl refl))) (within (best_in better item items) (inr (best_inside item items one))) is one
      by_test false is one other = passed_over best item (best_in better best items) items (within best (inl refl)) (within item (inr (inl refl)))
          (within (best_in better best items) (around (best_in better best items) (best_inside best items other))) is other

-- the same by another test that agrees
module _ (one other : Contents → Contents → Bool) (all : List Contents) (same : (v w : Contents) → In v all → In w all → one v w ≡ other v w) where
  each_same : (b : Contents) (row : List Contents) → In b all → ((v : Contents) → In v row → In v all) → BetterThanEach one b row → BetterThanEach other b row
  each_same b [] ib within is = tt
  each_same b (v ∷ row) ib within is = (sym (same b v ib (within v (inl refl))) ∙ is.0, each_same b row ib (λ w i. within w (inr i)) is.1)

  none_same : (b : Contents) (row : List Contents) → In b all → ((v : Contents) → In v row → In v all) → NoneBetter one b row → NoneBetter other b row
  none_same b [] ib within is = tt
  none_same b (v ∷ row) ib within is = (sym (same v b (within v (inl refl)) ib) ∙ is.0, none_same b row ib (λ w i. within w (inr i)) is.1)

  in_front : (front back : List Contents) (v b : Contents) → In v front → In v (front ++ b ∷ back)
  in_front [] back v b i = absurd i
  in_front (w ∷ front) back v b (inl is) = inl is
  in_front (w ∷ front) back v b (inr i) = inr (in_front front back v b i)

  in_back : (front back : List Contents) (v b : Contents) → In v back → In v (front ++ b ∷ back)
  in_back [] back v b i = inr i
  in_back (w ∷ front) back v b i = inr (in_back front back v b i)

  best_same : (b : Contents) → IsFirstBest one all b → IsFirstBest other all b
  best_same b is = record {
    front = is.front;
    back = is.back;
    items_are = is.items_are;
    exceeds_front = each_same b is.front here (λ v i. subst (λ (row : List Contents). In v row) (sym is.items_are) (in_front is.front is.back v b i)) is.exceeds_front;
    none_exceeds = none_same b is.back here (λ v i. subst (λ (row : List Contents). In v row) (sym is.items_are) (in_back is.front is.back v b i)) is.none_exceeds;
  }
    where
      here : In b all
      here = subst (λ (row : List Contents). In b row) (sym is.items_are) (inside is.front is.back b)

module _ (store : RunStore) where
  never_apart : (answer : Comparison → Result (Unit {0})) (how : Comparison) → IsOrdered how → unless_apart answer how ≡ answer how
  never_apart answer alike is = refl
  never_apart answer before is = refl
  never_apart answer behind is = refl
  never_apart answer apart is = absurd is

  has_order : (v w : Contents) → AreKin v w → have_order store v w ≡ true
  has_order (int i) (int j) kin = refl
  has_order (int i) (truth b) kin = refl
  has_order (truth a) (int j) kin = refl
  has_order (truth a) (truth b) kin = refl
  has_order (text one) (text other) kin = refl
  has_order (tuple ps) (tuple qs) kin = refl
  has_order (int i) w kin = absurd cc
  has_order (truth a) w kin = absurd cc
  has_order (text one) w kin = absurd cc
  has_order (tuple ps) w kin = absurd kin
  has_order v w kin = absurd kin

  -- the order of two values of one kind goes on with their rank
  rank_is : (v w : Contents) (answer : Comparison → Result (Unit {0})) → AreRanked store deepest v w → by_order store v w answer ≡ answer (ranked v w)
  rank_is v w answer so = ap (λ (b : Bool). if b then answers_by (unless_apart answer) (compared store true v w) else wrong_kinds) (has_order v w so.0)
      ∙ (ap (answers_by (unless_apart answer)) so.1 ∙ never_apart answer (ranked v w) (rank_ordered v w))

  best_goes : (better : Comparison → Bool) (all : List Contents) → AreAllRanked store deepest all → (best : Contents) (items : List Contents) → In best all → ((v : Contents) → In v items → In v all)
      → best_from_is better store best items ≡ gives (best_in better best items)
  best_goes better all so best [] ibest within = refl
  best_goes better all so best (item ∷ items) ibest within =
      rank_is item best (λ how. elim (better how) as (λ b. Result (Unit {0})) [ true ↦ best_from_is better store item items | false ↦ best_from_is better store best items ]) (so item best (within item (inl refl)) ibest)
      ∙ by_test (better (ranked item best)) (best_goes better all so item items (within item (inl refl)) (λ v i. within v (inr i))) (best_goes better all so best items ibest (λ v i. within v (inr i)))
    where
      by_test : (t : Bool) → best_from_is better store item items ≡ gives (best_in better item items) → best_from_is better store best items ≡ gives (best_in better best items)
          → (elim t as (λ b. Result (Unit {0})) [ true ↦ best_from_is better store item items | false ↦ best_from_is better store best items ]) ≡ gives (if t then best_in better item items else best_in better best items)
      by_test true one other = one
      by_test false one other = other

  abbrev HasBest : (Comparison → Bool) → (Contents → Contents → Bool) → Contents → List Contents → Type 0
  HasBest better beats item items = (best : Contents) × (IsFirstBest beats (item ∷ items) best × (best_is better store (item ∷ items) ≡ gives best))

  first_best : (better : Comparison → Bool) (beats : Contents → Contents → Bool) → IsBetter better → ((v w : Contents) (how : Comparison) → compared store true v w ≡ comes how → better how ≡ beats v w)
      → (item : Contents) (items : List Contents) → refused_to deepest (item ∷ items) ≡ None → HasBest better beats item items
  first_best better beats law agrees item items none =
      let so = all_ranked store deepest (item ∷ items) none in
      let best = best_in better item items in (
        best,
        (
          best_same (λ v w. better (ranked v w)) beats (item ∷ items) (λ v w iv iw. agrees v w (ranked v w) (so v w iv iw).1) best
              (found_best better law (item ∷ items) (λ v w iv iw. (so v w iv iw).0) item items (λ v i. i)),
          best_goes better (item ∷ items) so item items (inl refl) (λ v i. inr i),
        ),
      )

  more_agrees : (v w : Contents) (how : Comparison) → compared store true v w ≡ comes how → is_more how ≡ exceeds store v w
  more_agrees v w how is = by_how how ∙ ap comes_last (sym is)
    where
      by_how : (c : Comparison) → is_more c ≡ comes_last (comes c)
      by_how alike = refl
      by_how before = refl
      by_how behind = refl
      by_how apart = refl

  less_agrees : (v w : Contents) (how : Comparison) → compared store true v w ≡ comes how → is_less how ≡ precedes store v w
  less_agrees v w how is = by_how how ∙ ap comes_first (sym is)
    where
      by_how : (c : Comparison) → is_less c ≡ comes_first (comes c)
      by_how alike = refl
      by_how before = refl
      by_how behind = refl
      by_how apart = refl

  pub greatest : (item : Contents) (items : List Contents) → refused_to deepest (item ∷ items) ≡ None
      → (best : Contents) × (IsFirstBest (exceeds store) (item ∷ items) best × (max_is store (item ∷ items) ≡ gives best))
  greatest item items none = first_best is_more (exceeds store) more_is_better more_agrees item items none

  pub least : (item : Contents) (items : List Contents) → refused_to deepest (item ∷ items) ≡ None
      → (best : Contents) × (IsFirstBest (precedes store) (item ∷ items) best × (min_is store (item ∷ items) ≡ gives best))
  least item items none = first_best is_less (precedes store) less_is_better less_agrees item items none
