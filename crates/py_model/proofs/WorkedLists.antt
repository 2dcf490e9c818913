-- Worked rows of sequences, each found by computation.
use Rattle.std.proofs.Common.{◌≡◌, refl}
use Rattle.std.specs.Prelude.{ℕ, zero, suc, true, false, List, [], ◌∷◌, ◌++◌, Some, codes, pos, negsuc}
use Rattle.py_value.specs.declared.access.Mode.TheVariants.{Read}
use Rattle.py_value.specs.Contents.{Contents, nothing, truth, int, text, tuple, range, object, no_parts, part}
use Rattle.py_value.specs.Seen.{a_list, a_file, len_at, item_at, order_at, len_is, item_is}
use Rattle.py_model.specs.Effect.{looked, counted, weight, cost, parts_of}
use Rattle.py_model.specs.Faults.{type_error, value_error, index_error, runtime_error, not_implemented, recursion}
use Rattle.py_model.specs.Plan.{Plan, looks, ends}
use Rattle.py_model.specs.Store.{RunStore, empty}
use Rattle.py_model.specs.Dicts.{dict_display}
use Rattle.py_model.specs.Lists.{list_display, tuple_display, getitem, slice, setitem, delitem, unpack, iter, next, append, extend, insert, pop, index_method, reverse_method, sort_method, enumerate, list_builtin, sorted_builtin, tuple_builtin, zip_builtin}
use Rattle.py_model.proofs.WorkedStores.{run, then_store, list_in, answers_with, makes_with, ends_with, raises_in, r, s}

abbrev n : ℕ → Contents
n k = int (pos k)

-- the integer that is so far below 0
abbrev minus : ℕ → Contents
minus zero = int (pos 0)
minus (suc k) = int (negsuc k)

abbrev word : List ℕ → Contents
word letters = text letters

abbrev pair : Contents → Contents → Contents
pair v w = tuple (part v (part w no_parts))

abbrev numbers : Contents
numbers = tuple (part (n 7) (part (n 8) (part (n 9) no_parts)))

-- object 0 is `[1, 2]`, object 1 is `{'a': 5, 'b': 6}`, object 2 is `[]`
abbrev first : RunStore
first = then_store (list_display (n 1 ∷ n 2 ∷ [])) empty

abbrev second : RunStore
second = then_store (dict_display (word (codes "a") ∷ n 5 ∷ word (codes "b") ∷ n 6 ∷ [])) first

abbrev store : RunStore
store = then_store (list_display []) second

abbrev kind_words : Contents
kind_words = word (codes "wrong kind of value")

abbrev index_words : Contents
index_words = word (codes "index out of range")

abbrev no_line : ℕ → Plan
no_line o = ends

-- the displays `[1, 2]` and `(1, 2)`
list_row : run empty (list_display (n 1 ∷ n 2 ∷ [])) ≡ makes_with a_list (object 0) (s (len_at 0) (len_is 2) ∷ s (item_at 0 0) (item_is (n 1)) ∷ s (item_at 0 1) (item_is (n 2)) ∷ [])
list_row = refl

tuple_row : run empty (tuple_display (n 1 ∷ n 2 ∷ [])) ≡ answers_with (pair (n 1) (n 2)) []
tuple_row = refl

-- `v[i]`
get_item : run store (getitem (object 0 ∷ n 1 ∷ [])) ≡ answers_with (n 2) (r (len_at 0) ∷ r (item_at 0 1) ∷ [])
get_item = refl

get_true : run store (getitem (object 0 ∷ truth true ∷ [])) ≡ answers_with (n 2) (r (len_at 0) ∷ r (item_at 0 1) ∷ [])
get_true = refl

get_last : run store (getitem (object 0 ∷ minus 2 ∷ [])) ≡ answers_with (n 1) (r (len_at 0) ∷ r (item_at 0 0) ∷ [])
get_last = refl

get_past : run store (getitem (object 0 ∷ n 2 ∷ [])) ≡ raises_in store (r (len_at 0) ∷ []) index_error index_words
get_past = refl

get_below : run store (getitem (object 0 ∷ minus 3 ∷ [])) ≡ raises_in store (r (len_at 0) ∷ []) index_error index_words
get_below = refl

get_by_text : run store (getitem (object 0 ∷ word (codes "a") ∷ [])) ≡ raises_in store [] type_error kind_words
get_by_text = refl

get_tuple : run store (getitem (numbers ∷ minus 1 ∷ [])) ≡ answers_with (n 9) (looked 1 ∷ [])
get_tuple = refl

get_range : run store (getitem (range (pos 5) (negsuc 0) (negsuc 1) ∷ n 2 ∷ [])) ≡ answers_with (n 1) (looked 1 ∷ [])
get_range = refl

get_range_past : run store (getitem (range (pos 5) (negsuc 0) (negsuc 1) ∷ n 3 ∷ [])) ≡ raises_in store [] index_error index_words
get_range_past = refl

get_text : run store (getitem (word (97 ∷ 195 ∷ 164 ∷ 98 ∷ []) ∷ n 1 ∷ [])) ≡ answers_with (word (195 ∷ 164 ∷ [])) (counted 1 ∷ [])
get_text = refl

get_none : run store (getitem (nothing ∷ n 1 ∷ [])) ≡ raises_in store [] type_error kind_words
get_none = refl

-- `v[low:high]`
slice_list : run store (slice (object 0 ∷ n 1 ∷ n 9 ∷ [])) ≡ makes_with a_list (object 3) (r (len_at 0) ∷ r (item_at 0 1) ∷ s (len_at 3) (len_is 1) ∷ s (item_at 3 0) (item_is (n 2)) ∷ [])
slice_list = refl

slice_turned : run store (slice (object 0 ∷ n 2 ∷ minus 5 ∷ [])) ≡ makes_with a_list (object 3) (r (len_at 0) ∷ s (len_at 3) (len_is 0) ∷ [])
slice_turned = refl

slice_tuple : run store (slice (numbers ∷ nothing ∷ minus 1 ∷ [])) ≡ answers_with (pair (n 7) (n 8)) (looked 2 ∷ [])
slice_tuple = refl

slice_text : run store (slice (word (codes "abcd") ∷ minus 3 ∷ nothing ∷ [])) ≡ answers_with (word (codes "bcd")) (counted 3 ∷ [])
slice_text = refl

slice_text_cost : cost (run store (slice (word (codes "abcd") ∷ minus 3 ∷ nothing ∷ []))) ≡ 2
slice_text_cost = refl

slice_range : run store (slice (range (pos 0) (pos 9) (pos 1) ∷ n 1 ∷ n 2 ∷ [])) ≡ raises_in store [] type_error kind_words
slice_range = refl

slice_bound : run store (slice (object 0 ∷ word (codes "a") ∷ nothing ∷ [])) ≡ raises_in store [] type_error kind_words
slice_bound = refl

-- `v[i] = w`
set_item : run store (setitem (object 0 ∷ minus 1 ∷ n 9 ∷ [])) ≡ answers_with nothing (r (len_at 0) ∷ s (item_at 0 1) (item_is (n 9)) ∷ [])
set_item = refl

set_past : run store (setitem (object 0 ∷ n 2 ∷ n 9 ∷ [])) ≡ raises_in store (r (len_at 0) ∷ []) index_error index_words
set_past = refl

set_tuple : run store (setitem (numbers ∷ n 0 ∷ n 9 ∷ [])) ≡ raises_in store [] type_error kind_words
set_tuple = refl

-- `del v[0]` moves the later item down
del_item : run store (delitem (object 0 ∷ n 0 ∷ [])) ≡ answers_with nothing (r (len_at 0) ∷ r (item_at 0 1) ∷ s (item_at 0 0) (item_is (n 2)) ∷ s (len_at 0) (len_is 1) ∷ [])
del_item = refl

del_item_in : list_in (then_store (delitem (object 0 ∷ n 0 ∷ [])) store) 0 ≡ Some (n 2) ∷ []
del_item_in = refl

-- `del v[0]` of `[1, 2, 3]` moves items upwards, the first first
del_three : run (then_store (list_display (n 1 ∷ n 2 ∷ n 3 ∷ [])) empty) (delitem (object 0 ∷ n 0 ∷ [])) ≡ answers_with nothing (r (len_at 0) ∷ r (item_at 0 1) ∷ s (item_at 0 0) (item_is (n 2)) ∷ r (item_at 0 2) ∷ s (item_at 0 1) (item_is (n 3)) ∷ s (len_at 0) (len_is 2) ∷ [])
del_three = refl

del_past : run store (delitem (object 2 ∷ n 0 ∷ [])) ≡ raises_in store (r (len_at 2) ∷ []) index_error index_words
del_past = refl

-- a value is taken apart for two targets, and for three
unpack_list : run store (unpack 2 (object 0 ∷ [])) ≡ answers_with (pair (n 1) (n 2)) (r (len_at 0) ∷ r (item_at 0 0) ∷ r (item_at 0 1) ∷ [])
unpack_list = refl

unpack_more : run store (unpack 3 (object 0 ∷ [])) ≡ raises_in store (r (len_at 0) ∷ []) value_error (word (codes "wrong number of values"))
unpack_more = refl

unpack_tuple : run store (unpack 3 (numbers ∷ [])) ≡ answers_with numbers (looked 3 ∷ [])
unpack_tuple = refl

unpack_fewer : run store (unpack 2 (numbers ∷ [])) ≡ raises_in store [] value_error (word (codes "wrong number of values"))
unpack_fewer = refl

unpack_text : run store (unpack 2 (word (codes "ab") ∷ [])) ≡ raises_in store [] type_error kind_words
unpack_text = refl

unpack_dict : run store (unpack 2 (object 1 ∷ [])) ≡ raises_in store [] type_error kind_words
unpack_dict = refl

-- the start of a `for`
iter_list : run store (iter (object 0 ∷ [])) ≡ answers_with nothing []
iter_list = refl

iter_dict : run store (iter (object 1 ∷ [])) ≡ answers_with (n 2) (r (order_at 1) ∷ [])
iter_dict = refl

iter_number : run store (iter (n 5 ∷ [])) ≡ raises_in store [] type_error kind_words
iter_number = refl

-- the turns of a `for`
next_list : run store (next no_line (object 0 ∷ n 1 ∷ nothing ∷ [])) ≡ answers_with (n 2) (r (len_at 0) ∷ r (item_at 0 1) ∷ [])
next_list = refl

next_list_end : run store (next no_line (object 0 ∷ n 2 ∷ nothing ∷ [])) ≡ ends_with (r (len_at 0) ∷ [])
next_list_end = refl

next_dict : run store (next no_line (object 1 ∷ n 1 ∷ n 2 ∷ [])) ≡ answers_with (word (codes "b")) (r (order_at 1) ∷ [])
next_dict = refl

next_dict_end : run store (next no_line (object 1 ∷ n 2 ∷ n 2 ∷ [])) ≡ ends_with (r (order_at 1) ∷ [])
next_dict_end = refl

next_dict_changed : run store (next no_line (object 1 ∷ n 1 ∷ n 1 ∷ [])) ≡ raises_in store (r (order_at 1) ∷ []) runtime_error (word (codes "dictionary changed size"))
next_dict_changed = refl

next_dict_changed_end : run store (next no_line (object 1 ∷ n 3 ∷ n 3 ∷ [])) ≡ raises_in store (r (order_at 1) ∷ []) runtime_error (word (codes "dictionary changed size"))
next_dict_changed_end = refl

next_tuple : run store (next no_line (numbers ∷ n 0 ∷ nothing ∷ [])) ≡ answers_with (n 7) (looked 1 ∷ [])
next_tuple = refl

next_range : run store (next no_line (range (pos 0) (pos 6) (pos 2) ∷ n 2 ∷ nothing ∷ [])) ≡ answers_with (n 4) (looked 1 ∷ [])
next_range = refl

next_range_end : run store (next no_line (range (pos 0) (pos 6) (pos 2) ∷ n 3 ∷ nothing ∷ [])) ≡ ends_with []
next_range_end = refl

next_text : run store (next no_line (word (codes "ab") ∷ n 1 ∷ nothing ∷ [])) ≡ answers_with (word (codes "b")) (counted 1 ∷ [])
next_text = refl

-- `v.append(3)`: None, three accesses, weight 0, cost 4, and `[1, 2, 3]` after it
append_row : run store (append (object 0 ∷ n 3 ∷ [])) ≡ answers_with nothing (r (len_at 0) ∷ s (item_at 0 2) (item_is (n 3)) ∷ s (len_at 0) (len_is 3) ∷ [])
append_row = refl

append_weight : weight (run store (append (object 0 ∷ n 3 ∷ []))) ≡ 0
append_weight = refl

append_cost : cost (run store (append (object 0 ∷ n 3 ∷ []))) ≡ 4
append_cost = refl

append_in : list_in (then_store (append (object 0 ∷ n 3 ∷ [])) store) 0 ≡ Some (n 1) ∷ Some (n 2) ∷ Some (n 3) ∷ []
append_in = refl

append_kind : run store (append (object 1 ∷ n 3 ∷ [])) ≡ raises_in store [] type_error kind_words
append_kind = refl

append_number : run store (append (object 0 ∷ [])) ≡ raises_in store [] type_error (word (codes "wrong number of arguments"))
append_number = refl

-- `v.extend(v)`: the list itself, no new one
extend_row : run store (extend (object 0 ∷ object 0 ∷ [])) ≡ answers_with nothing (r (len_at 0) ∷ r (len_at 0) ∷ r (item_at 0 0) ∷ r (item_at 0 1) ∷ s (item_at 0 2) (item_is (n 1)) ∷ s (item_at 0 3) (item_is (n 2)) ∷ s (len_at 0) (len_is 4) ∷ [])
extend_row = refl

extend_in : list_in (then_store (extend (object 0 ∷ object 0 ∷ [])) store) 0 ≡ Some (n 1) ∷ Some (n 2) ∷ Some (n 1) ∷ Some (n 2) ∷ []
extend_in = refl

-- a dictionary gives its keys, and no entry is read
extend_dict : run store (extend (object 2 ∷ object 1 ∷ [])) ≡ answers_with nothing (r (len_at 2) ∷ r (order_at 1) ∷ s (item_at 2 0) (item_is (word (codes "a"))) ∷ s (item_at 2 1) (item_is (word (codes "b"))) ∷ s (len_at 2) (len_is 2) ∷ [])
extend_dict = refl

extend_number : run store (extend (object 0 ∷ n 5 ∷ [])) ≡ raises_in store [] type_error kind_words
extend_number = refl

-- `v.insert(0, 9)` moves items upwards, the first first; an index past an end is that end
insert_row : run store (insert (object 0 ∷ n 0 ∷ n 9 ∷ [])) ≡ answers_with nothing (r (len_at 0) ∷ r (item_at 0 0) ∷ s (item_at 0 1) (item_is (n 1)) ∷ r (item_at 0 1) ∷ s (item_at 0 2) (item_is (n 2)) ∷ s (item_at 0 0) (item_is (n 9)) ∷ s (len_at 0) (len_is 3) ∷ [])
insert_row = refl

insert_in : list_in (then_store (insert (object 0 ∷ n 0 ∷ n 9 ∷ [])) store) 0 ≡ Some (n 9) ∷ Some (n 1) ∷ Some (n 2) ∷ []
insert_in = refl

insert_past : run store (insert (object 0 ∷ n 7 ∷ n 9 ∷ [])) ≡ answers_with nothing (r (len_at 0) ∷ s (item_at 0 2) (item_is (n 9)) ∷ s (len_at 0) (len_is 3) ∷ [])
insert_past = refl

insert_below : list_in (then_store (insert (object 0 ∷ minus 1 ∷ n 9 ∷ [])) store) 0 ≡ Some (n 1) ∷ Some (n 9) ∷ Some (n 2) ∷ []
insert_below = refl

insert_by_text : run store (insert (object 0 ∷ word [] ∷ n 9 ∷ [])) ≡ raises_in store [] type_error kind_words
insert_by_text = refl

-- `v.pop()`, `v.pop(0)`, and both of an empty list
pop_row : run store (pop (object 0 ∷ [])) ≡ answers_with (n 2) (r (len_at 0) ∷ r (item_at 0 1) ∷ s (len_at 0) (len_is 1) ∷ [])
pop_row = refl

pop_first : run store (pop (object 0 ∷ n 0 ∷ [])) ≡ answers_with (n 1) (r (len_at 0) ∷ r (item_at 0 0) ∷ r (item_at 0 1) ∷ s (item_at 0 0) (item_is (n 2)) ∷ s (len_at 0) (len_is 1) ∷ [])
pop_first = refl

pop_first_in : list_in (then_store (pop (object 0 ∷ n 0 ∷ [])) store) 0 ≡ Some (n 2) ∷ []
pop_first_in = refl

pop_empty : run store (pop (object 2 ∷ [])) ≡ raises_in store (r (len_at 2) ∷ []) index_error index_words
pop_empty = refl

pop_cost : cost (run store (pop (object 2 ∷ n 0 ∷ []))) ≡ 4
pop_cost = refl

-- `v.index(True)` is 0; 2 is behind it; 3 is not found
index_true : run store (index_method (object 0 ∷ truth true ∷ [])) ≡ answers_with (n 0) (r (len_at 0) ∷ r (item_at 0 0) ∷ [])
index_true = refl

index_two : run store (index_method (object 0 ∷ n 2 ∷ [])) ≡ answers_with (n 1) (r (len_at 0) ∷ r (item_at 0 0) ∷ r (item_at 0 1) ∷ [])
index_two = refl

-- `[[1]].index([1])` makes the compare walk, the sought list left
index_list : run (then_store (list_display (object 0 ∷ [])) (then_store (list_display (n 1 ∷ [])) (then_store (list_display (n 1 ∷ [])) empty))) (index_method (object 2 ∷ object 1 ∷ [])) ≡ answers_with (n 0) (r (len_at 2) ∷ r (item_at 2 0) ∷ r (len_at 1) ∷ r (len_at 0) ∷ r (item_at 1 0) ∷ r (item_at 0 0) ∷ [])
index_list = refl

index_missing : run store (index_method (object 0 ∷ n 3 ∷ [])) ≡ raises_in store (r (len_at 0) ∷ r (item_at 0 0) ∷ r (item_at 0 1) ∷ []) value_error (word (codes "not found"))
index_missing = refl

-- `v.reverse()` sets every item
reverse_row : run store (reverse_method (object 0 ∷ [])) ≡ answers_with nothing (r (len_at 0) ∷ r (item_at 0 0) ∷ r (item_at 0 1) ∷ s (item_at 0 0) (item_is (n 2)) ∷ s (item_at 0 1) (item_is (n 1)) ∷ [])
reverse_row = refl

reverse_kind : run store (reverse_method (numbers ∷ [])) ≡ raises_in store [] type_error kind_words
reverse_kind = refl

-- `[1, 0, True].sort()` keeps equal items in their order
abbrev unsorted : List Contents → RunStore
unsorted items = then_store (list_display items) empty

sort_row : run (unsorted (n 1 ∷ n 0 ∷ truth true ∷ [])) (sort_method (object 0 ∷ [])) ≡ answers_with nothing (r (len_at 0) ∷ r (item_at 0 0) ∷ r (item_at 0 1) ∷ r (item_at 0 2) ∷ s (item_at 0 0) (item_is (n 0)) ∷ s (item_at 0 1) (item_is (n 1)) ∷ s (item_at 0 2) (item_is (truth true)) ∷ [])
sort_row = refl

sort_mixed : run (unsorted (n 1 ∷ word [] ∷ [])) (sort_method (object 0 ∷ [])) ≡ raises_in (unsorted (n 1 ∷ word [] ∷ [])) (r (len_at 0) ∷ r (item_at 0 0) ∷ r (item_at 0 1) ∷ []) type_error kind_words
sort_mixed = refl

-- `sorted` of tuples goes place by place; one item of no order, and tuples of two lengths, raise
sorted_row : run empty (sorted_builtin (tuple (parts_of (pair (n 2) (word (codes "a")) ∷ pair (n 1) (word (codes "b")) ∷ pair (n 1) (word (codes "a")) ∷ [])) ∷ [])) ≡ makes_with a_list (object 0) (looked 3 ∷ s (len_at 0) (len_is 3) ∷ s (item_at 0 0) (item_is (pair (n 1) (word (codes "a")))) ∷ s (item_at 0 1) (item_is (pair (n 1) (word (codes "b")))) ∷ s (item_at 0 2) (item_is (pair (n 2) (word (codes "a")))) ∷ [])
sorted_row = refl

sorted_none : run empty (sorted_builtin (tuple (part nothing no_parts) ∷ [])) ≡ raises_in empty (looked 1 ∷ []) type_error kind_words
sorted_none = refl

sorted_lengths : run empty (sorted_builtin (tuple (parts_of (pair (n 2) (n 1) ∷ tuple (part (n 1) no_parts) ∷ [])) ∷ [])) ≡ raises_in empty (looked 2 ∷ []) type_error kind_words
sorted_lengths = refl

sorted_places : run empty (sorted_builtin (tuple (parts_of (pair (n 2) (n 1) ∷ pair (n 1) (word []) ∷ [])) ∷ [])) ≡ raises_in empty (looked 2 ∷ []) type_error kind_words
sorted_places = refl

-- 101 tuples inside one another are too many, 100 are not
abbrev nested : ℕ → Contents
nested zero = n 0
nested (suc k) = tuple (part (nested k) no_parts)

sorted_deep : run empty (sorted_builtin (tuple (part (nested 101) no_parts) ∷ [])) ≡ raises_in empty (looked 1 ∷ []) recursion (word (codes "nested too deep"))
sorted_deep = refl

sorted_high : run empty (sorted_builtin (tuple (part (nested 100) no_parts) ∷ [])) ≡ makes_with a_list (object 0) (looked 1 ∷ s (len_at 0) (len_is 1) ∷ s (item_at 0 0) (item_is (nested 100)) ∷ [])
sorted_high = refl

-- the built-ins that make lists and tuples
enumerate_row : run store (enumerate (word (codes "xy") ∷ [])) ≡ makes_with a_list (object 3) (counted 2 ∷ s (len_at 3) (len_is 2) ∷ s (item_at 3 0) (item_is (pair (n 0) (word (codes "x")))) ∷ s (item_at 3 1) (item_is (pair (n 1) (word (codes "y")))) ∷ [])
enumerate_row = refl

enumerate_cost : cost (run store (enumerate (word (codes "xy") ∷ []))) ≡ 5
enumerate_cost = refl

enumerate_number : run store (enumerate (n 5 ∷ [])) ≡ raises_in store [] type_error kind_words
enumerate_number = refl

-- the items of a tuple are looked at once
list_tuple : run store (list_builtin (numbers ∷ [])) ≡ makes_with a_list (object 3) (looked 3 ∷ s (len_at 3) (len_is 3) ∷ s (item_at 3 0) (item_is (n 7)) ∷ s (item_at 3 1) (item_is (n 8)) ∷ s (item_at 3 2) (item_is (n 9)) ∷ [])
list_tuple = refl

list_cost : cost (run store (list_builtin (numbers ∷ []))) ≡ 8
list_cost = refl

-- a dictionary gives its keys, and no entry is read
list_dict : run store (list_builtin (object 1 ∷ [])) ≡ makes_with a_list (object 3) (r (order_at 1) ∷ s (len_at 3) (len_is 2) ∷ s (item_at 3 0) (item_is (word (codes "a"))) ∷ s (item_at 3 1) (item_is (word (codes "b"))) ∷ [])
list_dict = refl

list_two : run store (list_builtin (numbers ∷ numbers ∷ [])) ≡ raises_in store [] type_error (word (codes "wrong number of arguments"))
list_two = refl

tuple_of_list : run store (tuple_builtin (object 0 ∷ [])) ≡ answers_with (pair (n 1) (n 2)) (r (len_at 0) ∷ r (item_at 0 0) ∷ r (item_at 0 1) ∷ [])
tuple_of_list = refl

tuple_of_none : run store (tuple_builtin (nothing ∷ [])) ≡ raises_in store [] type_error kind_words
tuple_of_none = refl

zip_row : run store (zip_builtin (object 0 ∷ numbers ∷ [])) ≡ makes_with a_list (object 3) (r (len_at 0) ∷ r (item_at 0 0) ∷ r (item_at 0 1) ∷ looked 3 ∷ s (len_at 3) (len_is 2) ∷ s (item_at 3 0) (item_is (pair (n 1) (n 7))) ∷ s (item_at 3 1) (item_is (pair (n 2) (n 8))) ∷ [])
zip_row = refl

zip_none : run store (zip_builtin (object 0 ∷ nothing ∷ [])) ≡ raises_in store [] type_error kind_words
zip_none = refl

-- a file in a walk is not in this profile
abbrev with_a_file : RunStore
with_a_file = record store { kinds = store.kinds ++ a_file (codes "f") Read ∷ [] }

list_file : run with_a_file (list_builtin (object 3 ∷ [])) ≡ raises_in with_a_file [] not_implemented (word (codes "not in this profile"))
list_file = refl

extend_file : run with_a_file (extend (object 0 ∷ object 3 ∷ [])) ≡ raises_in with_a_file [] not_implemented (word (codes "not in this profile"))
extend_file = refl

iter_file : run with_a_file (iter (object 3 ∷ [])) ≡ answers_with nothing []
iter_file = refl

next_file : run with_a_file (next (λ o. looks o ends) (object 3 ∷ n 0 ∷ nothing ∷ [])) ≡ ends_with (looked 3 ∷ [])
next_file = refl

-- ---- more of places: truth values, both ends, and characters of two bytes (`ä` is 195 and 164)
get_tuple_past : run store (getitem (numbers ∷ n 3 ∷ [])) ≡ raises_in store [] index_error index_words
get_tuple_past = refl

get_tuple_by_none : run store (getitem (numbers ∷ nothing ∷ [])) ≡ raises_in store [] type_error kind_words
get_tuple_by_none = refl

get_range_last : run store (getitem (range (pos 5) (negsuc 0) (negsuc 1) ∷ minus 1 ∷ [])) ≡ answers_with (n 1) (looked 1 ∷ [])
get_range_last = refl

get_text_last : run store (getitem (word (195 ∷ 164 ∷ 98 ∷ []) ∷ minus 2 ∷ [])) ≡ answers_with (word (195 ∷ 164 ∷ [])) (counted 1 ∷ [])
get_text_last = refl

get_text_past : run store (getitem (word (195 ∷ 164 ∷ 98 ∷ []) ∷ n 2 ∷ [])) ≡ raises_in store [] index_error index_words
get_text_past = refl

slice_true : run store (slice (object 0 ∷ truth true ∷ nothing ∷ [])) ≡ makes_with a_list (object 3) (r (len_at 0) ∷ r (item_at 0 1) ∷ s (len_at 3) (len_is 1) ∷ s (item_at 3 0) (item_is (n 2)) ∷ [])
slice_true = refl

slice_to_true : run store (slice (numbers ∷ nothing ∷ truth true ∷ [])) ≡ answers_with (tuple (part (n 7) no_parts)) (looked 1 ∷ [])
slice_to_true = refl

slice_characters : run store (slice (word (97 ∷ 195 ∷ 164 ∷ 98 ∷ []) ∷ minus 2 ∷ nothing ∷ [])) ≡ answers_with (word (195 ∷ 164 ∷ 98 ∷ [])) (counted 2 ∷ [])
slice_characters = refl

slice_dict : run store (slice (object 1 ∷ nothing ∷ nothing ∷ [])) ≡ raises_in store [] type_error kind_words
slice_dict = refl

-- the kind of an index is tested before the length is read
set_by_text : run store (setitem (object 0 ∷ word [] ∷ n 9 ∷ [])) ≡ raises_in store [] type_error kind_words
set_by_text = refl

set_true : run store (setitem (object 0 ∷ truth true ∷ n 9 ∷ [])) ≡ answers_with nothing (r (len_at 0) ∷ s (item_at 0 1) (item_is (n 9)) ∷ [])
set_true = refl

del_by_none : run store (delitem (object 0 ∷ nothing ∷ [])) ≡ raises_in store [] type_error kind_words
del_by_none = refl

del_last : run store (delitem (object 0 ∷ minus 1 ∷ [])) ≡ answers_with nothing (r (len_at 0) ∷ s (len_at 0) (len_is 1) ∷ [])
del_last = refl

pop_by_text : run store (pop (object 0 ∷ word [] ∷ [])) ≡ raises_in store [] type_error kind_words
pop_by_text = refl

pop_below : run store (pop (object 0 ∷ minus 3 ∷ [])) ≡ raises_in store (r (len_at 0) ∷ []) index_error index_words
pop_below = refl

pop_true : run store (pop (object 0 ∷ truth true ∷ [])) ≡ answers_with (n 2) (r (len_at 0) ∷ r (item_at 0 1) ∷ s (len_at 0) (len_is 1) ∷ [])
pop_true = refl

insert_far_below : list_in (then_store (insert (object 0 ∷ minus 9 ∷ n 9 ∷ [])) store) 0 ≡ Some (n 9) ∷ Some (n 1) ∷ Some (n 2) ∷ []
insert_far_below = refl

-- the turns of a `for` over a text, and behind the last of each
next_character : run store (next no_line (word (195 ∷ 164 ∷ 98 ∷ []) ∷ n 1 ∷ nothing ∷ [])) ≡ answers_with (word (codes "b")) (counted 1 ∷ [])
next_character = refl

next_text_end : run store (next no_line (word (195 ∷ 164 ∷ 98 ∷ []) ∷ n 2 ∷ nothing ∷ [])) ≡ ends_with []
next_text_end = refl

next_tuple_end : run store (next no_line (numbers ∷ n 3 ∷ nothing ∷ [])) ≡ ends_with []
next_tuple_end = refl

iter_text : run store (iter (word (codes "ab") ∷ [])) ≡ answers_with nothing []
iter_text = refl

unpack_more_of_tuple : run store (unpack 4 (numbers ∷ [])) ≡ raises_in store [] value_error (word (codes "wrong number of values"))
unpack_more_of_tuple = refl

-- a text gives its characters, counted once
extend_text : run store (extend (object 2 ∷ word (195 ∷ 164 ∷ 98 ∷ []) ∷ [])) ≡ answers_with nothing (r (len_at 2) ∷ counted 2 ∷ s (item_at 2 0) (item_is (word (195 ∷ 164 ∷ []))) ∷ s (item_at 2 1) (item_is (word (codes "b"))) ∷ s (len_at 2) (len_is 2) ∷ [])
extend_text = refl

-- what is walked second is tested before the first is read
zip_shorter : run store (zip_builtin (numbers ∷ object 0 ∷ [])) ≡ makes_with a_list (object 3) (looked 3 ∷ r (len_at 0) ∷ r (item_at 0 0) ∷ r (item_at 0 1) ∷ s (len_at 3) (len_is 2) ∷ s (item_at 3 0) (item_is (pair (n 7) (n 1))) ∷ s (item_at 3 1) (item_is (pair (n 8) (n 2))) ∷ [])
zip_shorter = refl

-- the items of the first place are refused before those of the second: 101 tuples and a value of no order
sorted_first_place : run empty (sorted_builtin (tuple (part (pair (nested 100) nothing) no_parts) ∷ [])) ≡ raises_in empty (looked 1 ∷ []) recursion (word (codes "nested too deep"))
sorted_first_place = refl

-- tuples in tuples are ordered by their items; texts of two bytes stand behind ASCII
sorted_inner : run empty (sorted_builtin (tuple (parts_of (pair (pair (n 1) (word (195 ∷ 164 ∷ []))) (n 1) ∷ pair (pair (n 1) (word (codes "z"))) (n 2) ∷ [])) ∷ [])) ≡ makes_with a_list (object 0) (looked 2 ∷ s (len_at 0) (len_is 2) ∷ s (item_at 0 0) (item_is (pair (pair (n 1) (word (codes "z"))) (n 2))) ∷ s (item_at 0 1) (item_is (pair (pair (n 1) (word (195 ∷ 164 ∷ []))) (n 1))) ∷ [])
sorted_inner = refl

sorted_beginning : run empty (sorted_builtin (tuple (parts_of (word (codes "ab") ∷ word (codes "a") ∷ [])) ∷ [])) ≡ makes_with a_list (object 0) (looked 2 ∷ s (len_at 0) (len_is 2) ∷ s (item_at 0 0) (item_is (word (codes "a"))) ∷ s (item_at 0 1) (item_is (word (codes "ab"))) ∷ [])
sorted_beginning = refl

-- tuples inside 100 others are too many before their lengths are compared; inside 99 others the lengths are
abbrev wrapped : ℕ → Contents → Contents
wrapped zero v = v
wrapped (suc k) v = tuple (part (wrapped k v) no_parts)

sorted_deep_lengths : run empty (sorted_builtin (pair (wrapped 100 (pair (n 1) (n 2))) (wrapped 100 (tuple no_parts)) ∷ [])) ≡ raises_in empty (looked 2 ∷ []) recursion (word (codes "nested too deep"))
sorted_deep_lengths = refl

sorted_high_lengths : run empty (sorted_builtin (pair (wrapped 99 (pair (n 1) (n 2))) (wrapped 99 (tuple no_parts)) ∷ [])) ≡ raises_in empty (looked 2 ∷ []) type_error kind_words
sorted_high_lengths = refl

sort_truths : list_in (then_store (sort_method (object 0 ∷ [])) (unsorted (truth true ∷ truth false ∷ minus 1 ∷ []))) 0 ≡ Some (minus 1) ∷ Some (truth false) ∷ Some (truth true) ∷ []
sort_truths = refl
