-- How two values compare, as they are read in a store (The Python Language Reference 3, section 6.10, in this project's profile): numbers and
-- truth values by number, texts by code points, lists and tuples item by item, dictionaries by their pairs in whatever order, ranges by their
-- numbers. Other values are equal only where they are the same.
use Rattle.std.specs.Prelude.{⊤, ◌≡◌, ℕ, zero, suc, ◌==◌, nat_lt, Bool, true, false, ◌&&◌, not, List, [], ◌∷◌, length, slice_get, Option, Some, None, if◌then◌else◌}
use Rattle.std.specs.Str.{bytes_eq}
use Rattle.py_value.specs.Contents.{Contents, truth, int, text, tuple, range, object}
use Rattle.py_value.specs.Same.{same_value}
use Rattle.py_value.specs.Seen.{SeenKind, a_list, a_dict}
use Rattle.py_model.specs.Store.{RunStore}
use Rattle.py_model.specs.Walks.{Comparison, alike, before, behind, apart, by_number, number_of, order_of_texts, same_range, when_same, deepest, items_of}
use Rattle.model_laws.specs.Reading.{IsDict, items_at, pairs_at, pair_of}

-- what a comparison comes to: which value comes first, that they are alike, or apart with no order; or that containers lie too deep in one another
pub data Compared : Type 0 where
  comes : Comparison → Compared
  lies_too_deep : Compared

-- code points one after the other: the first two that differ decide, and where there are none, the shorter comes first
abbrev pub codes_compared : List ℕ → List ℕ → Comparison
codes_compared [] [] = alike
codes_compared [] (d ∷ ds) = before
codes_compared (c ∷ cs) [] = behind
codes_compared (c ∷ cs) (d ∷ ds) = if nat_lt c d then before else if nat_lt d c then behind else codes_compared cs ds

-- how the values inside a container compare: with an order, or for equality alone
abbrev pub Inside : Type 0
Inside = Bool → Contents → Contents → Compared

-- where a pair is alike, what is behind it decides
abbrev pub else_by : Compared → Compared → Compared
else_by (comes alike) rest = rest
else_by how rest = how

-- items pair by pair: the first pair that is not alike decides, and where there is none, the shorter comes first
abbrev pub items_compared : Inside → Bool → List Contents → List Contents → Compared
items_compared inside ordered [] [] = comes alike
items_compared inside ordered [] (w ∷ ws) = comes before
items_compared inside ordered (v ∷ vs) [] = comes behind
items_compared inside ordered (v ∷ vs) (w ∷ ws) = else_by (inside ordered v w) (items_compared inside ordered vs ws)

-- two lists: for equality alone, those of unequal length are apart
abbrev pub lists_compared : Inside → Bool → List Contents → List Contents → Compared
lists_compared inside ordered vs ws = if not ordered && not (length vs == length ws) then comes apart else items_compared inside ordered vs ws

-- two dictionaries: those of unequal size are apart; else each key of the left has to stand in the right, with an equal value
abbrev pub equal_or_apart : Compared → Compared → Compared
equal_or_apart (comes alike) rest = rest
equal_or_apart (comes how) rest = comes apart
equal_or_apart lies_too_deep rest = lies_too_deep

abbrev pub values_compared : Inside → Contents → Option (Contents × Contents) → Compared → Compared
values_compared inside v (Some other) rest = equal_or_apart (inside false v other.1) rest
values_compared inside v None rest = comes apart

abbrev pub pairs_compared : Inside → List (Contents × Contents) → List (Contents × Contents) → Compared
pairs_compared inside [] others = comes alike
pairs_compared inside (pair ∷ pairs) others = values_compared inside pair.1 (pair_of pair.0 others) (pairs_compared inside pairs others)

abbrev pub dicts_compared : Inside → List (Contents × Contents) → List (Contents × Contents) → Compared
dicts_compared inside pairs others = if length pairs == length others then pairs_compared inside pairs others else comes apart

-- two dictionaries as maps: they have the same keys, each with equal values
abbrev pub AreEqualEntries : Inside → Option (Contents × Contents) → Option (Contents × Contents) → Type 0
AreEqualEntries inside None None = ⊤
AreEqualEntries inside (Some pair) (Some other) = inside false pair.1 other.1 ≡ comes alike
AreEqualEntries inside left right = ⊥

abbrev pub AreEqualMaps : Inside → List (Contents × Contents) → List (Contents × Contents) → Type 0
AreEqualMaps inside pairs others = (key : Contents) → AreEqualEntries inside (pair_of key pairs) (pair_of key others)

-- Two objects by what they are: two lists, or two dictionaries. Others are apart.
abbrev pub objects_compared : RunStore → Option Inside → Bool → ℕ → ℕ → Option SeenKind → Option SeenKind → Compared
objects_compared store (Some inside) ordered o p (Some a_list) (Some a_list) = lists_compared inside ordered (items_at store o) (items_at store p)
objects_compared store (Some inside) ordered o p (Some a_dict) (Some a_dict) = dicts_compared inside (pairs_at store o) (pairs_at store p)
objects_compared store None ordered o p (Some a_list) (Some a_list) = lies_too_deep
objects_compared store None ordered o p (Some a_dict) (Some a_dict) = lies_too_deep
objects_compared store inside ordered o p left right = comes apart

-- two values; where nothing says how what is inside them compares, they lie too deep
abbrev pub value_compared : RunStore → Option Inside → Inside
value_compared store inside ordered (int i) (int j) = comes (by_number i j)
value_compared store inside ordered (int i) (truth b) = comes (by_number i (number_of b))
value_compared store inside ordered (truth a) (int j) = comes (by_number (number_of a) j)
value_compared store inside ordered (truth a) (truth b) = comes (by_number (number_of a) (number_of b))
value_compared store inside ordered (text one) (text other) = comes (if ordered then order_of_texts one other else when_same (bytes_eq one other))
value_compared store inside ordered (range a b c) (range d e f) = comes (when_same (same_range a b c d e f))
value_compared store (Some inside) ordered (tuple ps) (tuple qs) = items_compared inside ordered (items_of ps) (items_of qs)
value_compared store None ordered (tuple ps) (tuple qs) = lies_too_deep
value_compared store inside ordered (object o) (object p) =
    if o == p then comes alike else objects_compared store inside ordered o p (slice_get store.kinds o) (slice_get store.kinds p)
value_compared store inside ordered v w = comes (when_same (same_value v w))

-- two values that hold so many levels of lists, tuples and dictionaries in one another
abbrev pub compared_to : RunStore → ℕ → Inside
compared_to store zero = value_compared store None
compared_to store (suc levels) = value_compared store (Some (compared_to store levels))

-- how two values compare: 100 levels may lie in one another
abbrev pub compared : RunStore → Inside
compared store = compared_to store deepest

-- each dictionary of the store is one: its keys are apart, and each has its pair
abbrev pub HasDicts : RunStore → Type 0
HasDicts store = (o : ℕ) → slice_get store.kinds o ≡ Some a_dict → IsDict store o (pairs_at store o)

-- one value is less than another
abbrev pub comes_first : Compared → Bool
comes_first (comes before) = true
comes_first how = false

abbrev pub precedes : RunStore → Contents → Contents → Bool
precedes store v w = comes_first (compared store true v w)

-- one value is greater than another
abbrev pub comes_last : Compared → Bool
comes_last (comes behind) = true
comes_last how = false

abbrev pub exceeds : RunStore → Contents → Contents → Bool
exceeds store v w = comes_last (compared store true v w)

-- they are alike where an order is asked, so neither is less than the other
abbrev pub are_level : Compared → Bool
are_level (comes alike) = true
are_level how = false

abbrev pub as_great : RunStore → Contents → Contents → Bool
as_great store v w = are_level (compared store true v w)
