-- When items are sorted, and which of them is the first greatest (The Python Standard Library, "Built-in Functions" and "Sorting Techniques"), by
-- the order in which `<` compares them.
use Rattle.std.specs.Prelude.{◌≡◌, ⊤, Bool, true, false, List, [], ◌∷◌, ◌++◌, filter, IsPermutation, Contains}
use Rattle.py_value.specs.Contents.{Contents}
use Rattle.py_model.specs.Store.{RunStore}
use Rattle.model_laws.specs.Comparing.{precedes, as_great}

-- none of these values is less than this one
abbrev pub NoneLess : RunStore → Contents → List Contents → Type 0
NoneLess store v [] = ⊤
NoneLess store v (other ∷ others) = (precedes store other v ≡ false) × NoneLess store v others

-- no item is less than one before it
abbrev pub InOrder : RunStore → List Contents → Type 0
InOrder store [] = ⊤
InOrder store (item ∷ items) = NoneLess store item items × InOrder store items

-- The items are sorted: they are the same ones, in order, and those that are as great as each other stand as they stood.
pub record IsSortedOf (store : RunStore) (items sorted : List Contents) : Type 0 where
  pub same_items : IsPermutation items sorted
  pub in_order : InOrder store sorted
  pub stable : (v : Contents) → Contains items v → filter (as_great store v) sorted ≡ filter (as_great store v) items

-- none of these is better than this one, and this one is better than each of those
abbrev pub NoneBetter : (Contents → Contents → Bool) → Contents → List Contents → Type 0
NoneBetter better v [] = ⊤
NoneBetter better v (other ∷ others) = (better other v ≡ false) × NoneBetter better v others

abbrev pub BetterThanEach : (Contents → Contents → Bool) → Contents → List Contents → Type 0
BetterThanEach better v [] = ⊤
BetterThanEach better v (other ∷ others) = (better v other ≡ true) × BetterThanEach better v others

-- The first of the best items, where a test says that one value is better than another: it is better than each before it, and none behind it is
-- better. For `max` the greater value is the better one, for `min` the less.
pub record IsFirstBest (better : Contents → Contents → Bool) (items : List Contents) (best : Contents) : Type 0 where
  pub front : List Contents
  pub back : List Contents
  pub items_are : items ≡ front ++ best ∷ back
  pub exceeds_front : BetterThanEach better best front
  pub none_exceeds : NoneBetter better best back
