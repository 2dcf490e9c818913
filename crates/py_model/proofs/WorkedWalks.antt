-- Worked rows of the store, of what is counted, and of the walk of a comparison, each found by computation.
use Rattle.std.proofs.Common.{◌≡◌, ℕ, List, [], ◌∷◌, Some, None, codes, refl}
use Rattle.std.specs.Prelude.{zero, suc, pos, true, false, replicate}
use Rattle.py_value.specs.Contents.{Contents, nothing, truth, int, text, tuple, range, exception_class, object, no_parts, part}
use Rattle.py_value.specs.Same.{put}
use Rattle.py_value.specs.Seen.{a_list, a_dict, an_instance, len_at, item_at, entry_at, order_at, file_at, len_is, item_is, entry_is, order_is, key_inserted, key_deleted, bytes_appended, sets, updates}
use Rattle.py_model.specs.Arithmetic.{eq_plan, lt_plan, ge_plan}
use Rattle.py_model.specs.Effect.{Effect, Touch, accessed, looked, opened, noted, weight, cost, after_touches}
use Rattle.py_model.specs.Plan.{looks, counts, read_len}
use Rattle.py_model.specs.Store.{RunStore, empty, opening, var_of, item_of, order_of, file_of}
use Rattle.py_model.proofs.WorkedStores.{run, answers_with, raises_in, list_in, r}
use Rattle.py_model.specs.Operands.{gives}

-- the store with which a run of `p.py` with one argument begins
abbrev pub begun : RunStore
begun = opening (codes "p.py") (codes "x" ∷ []) ((codes "in", 97 ∷ []) ∷ (codes "on", 98 ∷ []) ∷ [])

begun_list : list_in begun 0 ≡ Some (text (codes "p.py")) ∷ Some (text (codes "x")) ∷ []
begun_list = refl

begun_kinds : begun.kinds ≡ a_list ∷ []
begun_kinds = refl

begun_name : var_of begun 0 (codes "__name__") ≡ Some (text (codes "__main__"))
begun_name = refl

begun_names : var_of begun 0 (codes "sys") ≡ None
begun_names = refl

begun_file : file_of begun (codes "on") ≡ Some (98 ∷ [])
begun_file = refl

begun_no_file : file_of begun (codes "an") ≡ None
begun_no_file = refl

begun_opened : begun.opened ≡ []
begun_opened = refl

-- what touches leave
abbrev pub left : List Touch → RunStore
left touches = after_touches touches begun

-- a key equal to one that is there changes nothing; a deleted one goes last when it comes again
same_key : order_of (left (accessed (updates (order_at 1) (key_inserted (truth true))) ∷ accessed (updates (order_at 1) (key_inserted (int (pos 1)))) ∷ [])) 1 ≡ truth true ∷ []
same_key = refl

again_last : order_of (left (accessed (sets (order_at 1) (order_is (text [] ∷ nothing ∷ []))) ∷ accessed (updates (order_at 1) (key_deleted (text []))) ∷ accessed (updates (order_at 1) (key_inserted (text []))) ∷ [])) 1
    ≡ nothing ∷ text [] ∷ []
again_last = refl

-- a key is deleted by an equal one
deleted_by_equal : order_of (left (accessed (sets (order_at 1) (order_is (nothing ∷ truth true ∷ []))) ∷ accessed (updates (order_at 1) (key_deleted (int (pos 1)))) ∷ [])) 1 ≡ nothing ∷ []
deleted_by_equal = refl

-- bytes go behind a file's, and begin one that is absent
appended : file_of (left (accessed (updates (file_at (codes "on")) (bytes_appended (99 ∷ []))) ∷ [])) (codes "on") ≡ Some (98 ∷ 99 ∷ [])
appended = refl

appended_first : file_of (left (accessed (updates (file_at (codes "an")) (bytes_appended (99 ∷ []))) ∷ [])) (codes "an") ≡ Some (99 ∷ [])
appended_first = refl

-- a length leaves the items as they are
shortened : item_of (left (accessed (sets (len_at 0) (len_is 1)) ∷ [])) 0 1 ≡ Some (text (codes "x"))
shortened = refl

-- paths in order of first opening, each once; the last name noted at a place
opened_twice : (left (opened (codes "b") ∷ opened (codes "a") ∷ opened (codes "b") ∷ [])).opened ≡ codes "b" ∷ codes "a" ∷ []
opened_twice = refl

noted_twice : (left (noted (record { line = 1; col = 1 }) (codes "f") ∷ noted (record { line = 1; col = 1 }) (codes "g") ∷ [])).names (record { line = 1; col = 1 }) ≡ Some (codes "g")
noted_twice = refl

-- all counted characters of an operation are one sum, rounded up
weight_of_sum : weight (run begun (looks 2 (counts 32 (looks 1 (counts 32 (gives nothing)))))) ≡ 4
weight_of_sum = refl

weight_rounded : weight (run begun (counts 64 (counts 1 (gives nothing)))) ≡ 2
weight_rounded = refl

cost_of_reads : cost (run begun (read_len 0 (λ n. counts 1 (gives nothing)))) ≡ 3
cost_of_reads = refl

-- The lists 0 and 1 are `[5]` and `[5, 6]`, 2 and 3 are the dictionaries `{'a': 5, True: [5]}` and `{1: [5], 'a': 7}`, 4 is `{'b': 5, 1: 5}`, 5 is
-- empty; 6 and 7 are exceptions, 8 is `[{}]` with 5 inside and 9 is `[{..}]` with 4 inside.
abbrev pub a : Contents
a = text (codes "a")

abbrev pub one : Contents
one = int (pos 1)

abbrev pub five : Contents
five = int (pos 5)

abbrev pub store : RunStore
store = record empty {
  at = put (len_at 0) (len_is 1) (put (item_at 0 0) (item_is five)
      (put (len_at 1) (len_is 2) (put (item_at 1 0) (item_is five) (put (item_at 1 1) (item_is (int (pos 6)))
      (put (order_at 2) (order_is (a ∷ truth true ∷ [])) (put (entry_at 2 a) (entry_is (Some (a, five))) (put (entry_at 2 one) (entry_is (Some (truth true, object 0)))
      (put (order_at 3) (order_is (one ∷ a ∷ [])) (put (entry_at 3 a) (entry_is (Some (a, int (pos 7)))) (put (entry_at 3 one) (entry_is (Some (one, object 0)))
      (put (order_at 4) (order_is (text (codes "b") ∷ one ∷ [])) (put (entry_at 4 one) (entry_is (Some (one, five)))
      (put (len_at 8) (len_is 1) (put (item_at 8 0) (item_is (object 5)) (put (len_at 9) (len_is 1) (put (item_at 9 0) (item_is (object 4))
      (λ l. None)))))))))))))))));
  kinds = a_list ∷ a_list ∷ a_dict ∷ a_dict ∷ a_dict ∷ a_dict ∷ an_instance (exception_class 0) ∷ an_instance (exception_class 0) ∷ a_list ∷ a_list ∷ [];
}

abbrev pub eq : Contents → Contents → Effect
eq v w = run store (eq_plan (v ∷ w ∷ []))

abbrev pub lt : Contents → Contents → Effect
lt v w = run store (lt_plan (v ∷ w ∷ []))

-- lists of unequal length are unequal at once, but have an order
lists_unequal : eq (object 0) (object 1) ≡ answers_with (truth false) (r (len_at 0) ∷ r (len_at 1) ∷ [])
lists_unequal = refl

shorter_list : lt (object 0) (object 1) ≡ answers_with (truth true) (r (len_at 0) ∷ r (len_at 1) ∷ r (item_at 0 0) ∷ r (item_at 1 0) ∷ [])
shorter_list = refl

longer_list : lt (object 1) (object 0) ≡ answers_with (truth false) (r (len_at 1) ∷ r (len_at 0) ∷ r (item_at 1 0) ∷ r (item_at 0 0) ∷ [])
longer_list = refl

-- dictionaries go by the keys of the left, up to the first difference
dicts_differ : eq (object 2) (object 3) ≡ answers_with (truth false) (r (order_at 2) ∷ r (order_at 3) ∷ r (entry_at 2 a) ∷ r (entry_at 3 a) ∷ [])
dicts_differ = refl

dicts_with_the_same : eq (object 3) (object 2) ≡ answers_with (truth false)
    (r (order_at 3) ∷ r (order_at 2) ∷ r (entry_at 3 one) ∷ r (entry_at 2 one) ∷ r (entry_at 3 a) ∷ r (entry_at 2 a) ∷ [])
dicts_with_the_same = refl

key_lacks : eq (object 2) (object 4) ≡ answers_with (truth false) (r (order_at 2) ∷ r (order_at 4) ∷ r (entry_at 2 a) ∷ r (entry_at 4 a) ∷ [])
key_lacks = refl

sizes_differ : eq (object 2) (object 5) ≡ answers_with (truth false) (r (order_at 2) ∷ r (order_at 5) ∷ [])
sizes_differ = refl

-- a list is no dictionary, two exceptions are not one, and no text is a number; nothing is read
other_kinds : eq (object 0) (object 2) ≡ answers_with (truth false) []
other_kinds = refl

two_exceptions : eq (object 6) (object 7) ≡ answers_with (truth false) []
two_exceptions = refl

same_exception : eq (object 6) (object 6) ≡ answers_with (truth true) []
same_exception = refl

no_number : eq (text (codes "1")) one ≡ answers_with (truth false) []
no_number = refl

equal_texts : eq (text (replicate 65 97)) (text (replicate 65 97)) ≡ answers_with (truth true) []
equal_texts = refl

-- ranges with the same numbers
ranges_alike : eq (range (pos 0) (pos 3) (pos 2)) (range (pos 0) (pos 4) (pos 2)) ≡ answers_with (truth true) []
ranges_alike = refl

empty_ranges : eq (range (pos 5) (pos 0) (pos 1)) (range (pos 1) (pos 0) (pos 3)) ≡ answers_with (truth true) []
empty_ranges = refl

ranges_of_one : eq (range (pos 2) (pos 3) (pos 1)) (range (pos 2) (pos 9) (pos 8)) ≡ answers_with (truth true) []
ranges_of_one = refl

ranges_differ : eq (range (pos 0) (pos 3) (pos 1)) (range (pos 0) (pos 5) (pos 2)) ≡ answers_with (truth false) []
ranges_differ = refl

-- tuples go pair by pair to the first unequal pair or the end of the shorter
tuples_unequal : eq (tuple (part one (part five no_parts))) (tuple (part (truth true) no_parts)) ≡ answers_with (truth false) (looked 2 ∷ [])
tuples_unequal = refl

tuples_without_order : lt (tuple (part one (part nothing (part a no_parts)))) (tuple (part one (part five (part a no_parts)))) ≡
    raises_in store (looked 2 ∷ looked 2 ∷ []) 9 (text (codes "wrong kind of value"))
tuples_without_order = refl

none_passed_over : lt (tuple (part nothing (part one no_parts))) (tuple (part nothing (part five no_parts))) ≡ answers_with (truth true) (looked 2 ∷ looked 2 ∷ [])
none_passed_over = refl

-- unequal dictionaries in lists have no order
dicts_in_lists : lt (object 8) (object 9) ≡
    raises_in store (r (len_at 8) ∷ r (len_at 9) ∷ r (item_at 8 0) ∷ r (item_at 9 0) ∷ r (order_at 5) ∷ r (order_at 4) ∷ []) 9 (text (codes "wrong kind of value"))
dicts_in_lists = refl

-- inside dictionaries nothing is ordered, so texts there count nothing
abbrev pub texts_in_dicts : RunStore
texts_in_dicts = record empty {
  at = put (len_at 0) (len_is 1) (put (item_at 0 0) (item_is (object 2)) (put (len_at 1) (len_is 1) (put (item_at 1 0) (item_is (object 3))
      (put (order_at 2) (order_is (one ∷ [])) (put (entry_at 2 one) (entry_is (Some (one, a)))
      (put (order_at 3) (order_is (one ∷ [])) (put (entry_at 3 one) (entry_is (Some (one, text (codes "b")))) (λ l. None))))))));
  kinds = a_list ∷ a_list ∷ a_dict ∷ a_dict ∷ [];
}

dicts_in_order : run texts_in_dicts (lt_plan (object 0 ∷ object 1 ∷ [])) ≡ raises_in texts_in_dicts
    (r (len_at 0) ∷ r (len_at 1) ∷ r (item_at 0 0) ∷ r (item_at 1 0) ∷ r (order_at 2) ∷ r (order_at 3) ∷ r (entry_at 2 one) ∷ r (entry_at 3 one) ∷ [])
    9 (text (codes "wrong kind of value"))
dicts_in_order = refl

-- kinds without an order read nothing
list_and_tuple : lt (object 0) (tuple no_parts) ≡ raises_in store [] 9 (text (codes "wrong kind of value"))
list_and_tuple = refl

list_and_dict : lt (object 0) (object 2) ≡ raises_in store [] 9 (text (codes "wrong kind of value"))
list_and_dict = refl

ranges_in_order : run store (ge_plan (range (pos 0) (pos 1) (pos 1) ∷ range (pos 0) (pos 1) (pos 1) ∷ [])) ≡ raises_in store [] 9 (text (codes "wrong kind of value"))
ranges_in_order = refl

-- a hundred tuples inside one another are compared, one more is refused; a list there is refused before its length is read, and the
-- same list is the same at any depth
abbrev pub around : ℕ → Contents → Contents
around zero v = v
around (suc n) v = tuple (part (around n v) no_parts)

hundred : eq (around 100 one) (around 100 (truth true)) ≡ answers_with (truth true) (replicate 100 (looked 2))
hundred = refl

hundred_and_one : eq (around 101 one) (around 101 one) ≡ raises_in store (replicate 100 (looked 2)) 14 (text (codes "nested too deep"))
hundred_and_one = refl

list_too_deep : eq (around 100 (object 0)) (around 100 (object 1)) ≡ raises_in store (replicate 100 (looked 2)) 14 (text (codes "nested too deep"))
list_too_deep = refl

same_list_deep : eq (around 100 (object 0)) (around 100 (object 0)) ≡ answers_with (truth true) (replicate 100 (looked 2))
same_list_deep = refl
