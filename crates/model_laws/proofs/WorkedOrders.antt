-- Rows of comparisons, sorts, `max` and `min`, each found by computation.
use Rattle.std.proofs.Common.{◌≡◌, refl, true, false, [], ◌∷◌, Some, None, codes}
use Rattle.py_value.specs.Contents.{Contents, truth, text, tuple, object, no_parts, part}
use Rattle.py_model.specs.Arithmetic.{max_plan, min_plan}
use Rattle.py_model.specs.Dicts.{dict_display}
use Rattle.py_model.specs.Effect.{effect, answered}
use Rattle.py_model.specs.Faults.{type_error, value_error, recursion, wrong_kind}
use Rattle.py_model.specs.Lists.{list_display, append, sort_method, sorted_builtin}
use Rattle.py_model.specs.Plan.{value}
use Rattle.py_model.specs.Sorting.{refused_to}
use Rattle.py_model.specs.Store.{RunStore, empty}
use Rattle.py_model.specs.Walks.{deepest}
use Rattle.model_laws.specs.Equality.{if_sought, index_is, sought}
use Rattle.model_laws.specs.Reading.{items_at}
use Rattle.model_laws.specs.Results.{gives, throws}
use Rattle.model_laws.specs.TableComparisons.{eq_is, ne_is, lt_is, ge_is, max_is, min_is}
use Rattle.model_laws.proofs.WorkedLists.{n, then_store, devices}

abbrev pair : Contents → Contents → Contents
pair v w = tuple (part v (part w no_parts))

-- the lists `[1, [2]]`, `[True, [2]]` and `[1, [3]]`: objects 1, 3 and 5
abbrev pub lists : RunStore
lists = then_store (then_store (then_store (then_store (then_store (then_store empty (list_display (n 2 ∷ []))) (list_display (n 1 ∷ object 0 ∷ []))) (list_display (n 2 ∷ []))) (list_display (truth true ∷ object 2 ∷ [])))
    (list_display (n 3 ∷ []))) (list_display (n 1 ∷ object 4 ∷ []))

equal_lists : eq_is lists (object 1) (object 3) ≡ gives (truth true)
equal_lists = refl

unequal_lists : ne_is lists (object 1) (object 5) ≡ gives (truth true)
unequal_lists = refl

less_list : lt_is lists (object 1) (object 5) ≡ gives (truth true)
less_list = refl

shorter_first : lt_is lists (tuple (part (n 1) no_parts)) (pair (n 1) (n 0)) ≡ gives (truth true)
shorter_first = refl

-- `'a' < 1`, and a text against a number where the order of two tuples is decided
no_order : lt_is lists (text (codes "a")) (n 1) ≡ throws type_error (text (codes "wrong kind of value") ∷ [])
no_order = refl

no_order_inside : ge_is lists (pair (n 1) (text (codes "a"))) (pair (n 1) (n 1)) ≡ throws type_error (text (codes "wrong kind of value") ∷ [])
no_order_inside = refl

equal_before_that : lt_is lists (pair (n 1) (text (codes "a"))) (pair (n 2) (n 1)) ≡ gives (truth true)
equal_before_that = refl

-- the dictionaries `{1: 'a', 2: 'b'}`, `{2: 'b', True: 'a'}` and `{1: 'a'}`
abbrev pub dicts : RunStore
dicts = then_store (then_store (then_store empty (dict_display (n 1 ∷ text (codes "a") ∷ n 2 ∷ text (codes "b") ∷ []))) (dict_display (n 2 ∷ text (codes "b") ∷ truth true ∷ text (codes "a") ∷ []))) (dict_display (n 1 ∷ text (codes "a") ∷ []))

equal_dicts : eq_is dicts (object 0) (object 1) ≡ gives (truth true)
equal_dicts = refl

smaller_dict : eq_is dicts (object 0) (object 2) ≡ gives (truth false)
smaller_dict = refl

dicts_have_no_order : lt_is dicts (object 0) (object 1) ≡ throws type_error (text (codes "wrong kind of value") ∷ [])
dicts_have_no_order = refl

-- two lists, each of which holds itself, and the one compared with itself
abbrev pub loops : RunStore
loops = then_store (then_store (then_store (then_store empty (list_display [])) (append (object 0 ∷ (object 0 ∷ [])))) (list_display [])) (append (object 1 ∷ (object 1 ∷ [])))

too_deep : eq_is loops (object 0) (object 1) ≡ throws recursion (text (codes "nested too deep") ∷ [])
too_deep = refl

itself : eq_is loops (object 0) (object 0) ≡ gives (truth true)
itself = refl

-- `[2, True, 1]` sorted in place: 1 and True stay as they stood
abbrev unsorted : RunStore
unsorted = then_store empty (list_display (n 2 ∷ truth true ∷ n 1 ∷ []))

sort_read : items_at (then_store unsorted (sort_method (object 0 ∷ []))) 0 ≡ truth true ∷ n 1 ∷ n 2 ∷ []
sort_read = refl

sorted_read : items_at (then_store unsorted (sorted_builtin (object 0 ∷ []))) 1 ≡ truth true ∷ n 1 ∷ n 2 ∷ []
sorted_read = refl

sorts_no_mixture : refused_to deepest (n 1 ∷ text (codes "a") ∷ []) ≡ Some wrong_kind
sorts_no_mixture = refl

-- the first of the greatest, and of the least
greatest : (effect unsorted devices (max_plan (n 1 ∷ (truth true ∷ (n 0 ∷ []))))).outcome ≡ answered (value (n 1))
greatest = refl

least : (effect unsorted devices (min_plan (object 0 ∷ []))).outcome ≡ answered (value (truth true))
least = refl

greatest_is : max_is unsorted (n 1 ∷ truth true ∷ n 0 ∷ []) ≡ gives (n 1)
greatest_is = refl

-- lists have a greatest too, and of an empty sequence there is none
greatest_list : max_is lists (object 1 ∷ object 5 ∷ []) ≡ gives (object 5)
greatest_list = refl

no_greatest : max_is unsorted [] ≡ throws value_error (text (codes "empty or zero") ∷ [])
no_greatest = refl

no_least : min_is unsorted (n 1 ∷ text (codes "a") ∷ []) ≡ throws type_error (text (codes "wrong kind of value") ∷ [])
no_least = refl

-- `[1, [2]]` is the second item of a list, `[1, [3]]` is none
second : sought lists (object 1) (n 4 ∷ object 3 ∷ []) ≡ Some (Some 1)
second = refl

nowhere : sought lists (object 5) (n 4 ∷ object 3 ∷ []) ≡ Some None
nowhere = refl

too_deep_to_seek : if_sought (index_is (object 1 ∷ [])) (sought loops (object 0) (object 1 ∷ [])) ≡ throws recursion (text (codes "nested too deep") ∷ [])
too_deep_to_seek = refl
