-- The table of comparisons, and of `max` and `min` (The Python Language Reference 3, section 6.10, and The Python Standard Library, "Built-in
-- Functions", in this project's profile): each by how the values compare, as they are read in the store.
use Rattle.std.specs.Prelude.{Bool, true, false, ◌&&◌, not, List, [], ◌∷◌, slice_get, Option, Some, if◌then◌else◌, codes}
use Rattle.py_value.specs.Contents.{Contents, truth, text, tuple, object}
use Rattle.py_value.specs.Seen.{SeenKind, a_list}
use Rattle.py_model.specs.Arithmetic.{is_less, is_more}
use Rattle.py_model.specs.Faults.{type_error, recursion, value_error}
use Rattle.py_model.specs.Sorting.{is_number}
use Rattle.py_model.specs.Store.{RunStore}
use Rattle.py_model.specs.Walks.{Comparison, apart, is_alike}
use Rattle.model_laws.specs.Comparing.{Compared, comes, lies_too_deep, compared}
use Rattle.model_laws.specs.Results.{Result, gives, throws}

-- it answers by how the values compare, and raises where they lie too deep in one another
abbrev pub answers_by : (Comparison → Result (Unit {0})) → Compared → Result (Unit {0})
answers_by answer (comes how) = answer how
answers_by answer lies_too_deep = throws recursion (text (codes "nested too deep") ∷ [])

-- 12 eq, 13 ne (compare walk): whether the values are equal, or not
abbrev pub eq_is : RunStore → Contents → Contents → Result (Unit {0})
eq_is store v w = answers_by (λ how. gives (truth (is_alike how))) (compared store false v w)

abbrev pub ne_is : RunStore → Contents → Contents → Result (Unit {0})
ne_is store v w = answers_by (λ how. gives (truth (not (is_alike how)))) (compared store false v w)

abbrev pub wrong_kinds : Result (Unit {0})
wrong_kinds = throws type_error (text (codes "wrong kind of value") ∷ [])

-- both values have an order: two numbers, texts, tuples or lists
abbrev pub are_lists : Option SeenKind → Option SeenKind → Bool
are_lists (Some a_list) (Some a_list) = true
are_lists left right = false

abbrev pub have_order : RunStore → Contents → Contents → Bool
have_order store (text one) (text other) = true
have_order store (tuple ps) (tuple qs) = true
have_order store (object o) (object p) = are_lists (slice_get store.kinds o) (slice_get store.kinds p)
have_order store v w = is_number v && is_number w

-- It goes on with which value comes first. It raises where the values have no order, where the items that decide have none, and where the values lie too
-- deep in one another.
abbrev pub unless_apart : (Comparison → Result (Unit {0})) → Comparison → Result (Unit {0})
unless_apart answer apart = wrong_kinds
unless_apart answer how = answer how

abbrev pub by_order : RunStore → Contents → Contents → (Comparison → Result (Unit {0})) → Result (Unit {0})
by_order store v w answer = if have_order store v w then answers_by (unless_apart answer) (compared store true v w) else wrong_kinds

abbrev pub ordered_is : (Comparison → Bool) → RunStore → Contents → Contents → Result (Unit {0})
ordered_is test store v w = by_order store v w (λ how. gives (truth (test how)))

-- 14 lt, 15 le, 16 gt, 17 ge (compare walk)
abbrev pub lt_is : RunStore → Contents → Contents → Result (Unit {0})
lt_is store v w = ordered_is is_less store v w

abbrev pub le_is : RunStore → Contents → Contents → Result (Unit {0})
le_is store v w = ordered_is (λ how. not (is_more how)) store v w

abbrev pub gt_is : RunStore → Contents → Contents → Result (Unit {0})
gt_is store v w = ordered_is is_more store v w

abbrev pub ge_is : RunStore → Contents → Contents → Result (Unit {0})
ge_is store v w = ordered_is (λ how. not (is_less how)) store v w

-- 60 max, 61 min (one sequence: walk; compare walk of each with the best so far): an item takes the place of the best so far where it is greater, or
-- less. Of an empty sequence there is none.
abbrev pub best_from_is : (Comparison → Bool) → RunStore → Contents → List Contents → Result (Unit {0})
best_from_is better store best [] = gives best
best_from_is better store best (item ∷ items) =
    by_order store item best (λ how. elim (better how) as (λ b. Result (Unit {0})) [ true ↦ best_from_is better store item items | false ↦ best_from_is better store best items ])

abbrev pub best_is : (Comparison → Bool) → RunStore → List Contents → Result (Unit {0})
best_is better store [] = throws value_error (text (codes "empty or zero") ∷ [])
best_is better store (item ∷ items) = best_from_is better store item items

abbrev pub max_is : RunStore → List Contents → Result (Unit {0})
max_is store items = best_is is_more store items

abbrev pub min_is : RunStore → List Contents → Result (Unit {0})
min_is store items = best_is is_less store items
