-- Worked rows of dictionaries, each found by computation.
use Rattle.std.proofs.Common.{◌≡◌, refl}
use Rattle.std.specs.Prelude.{ℕ, zero, suc, true, [], ◌∷◌, Some, None, codes, pos}
use Rattle.py_value.specs.Contents.{Contents, nothing, truth, int, text, tuple, range, object, no_parts, part}
use Rattle.py_value.specs.Seen.{a_list, a_dict, len_at, item_at, entry_at, order_at, len_is, item_is, entry_is, order_is, key_inserted, key_deleted}
use Rattle.py_model.specs.Effect.{cost}
use Rattle.py_model.specs.Faults.{type_error, key_error, not_implemented, recursion}
use Rattle.py_model.specs.Store.{RunStore, empty}
use Rattle.py_model.specs.Dicts.{dict_display, dict_builtin, get_method, items_method, keys_method, values_method}
use Rattle.py_model.specs.Lists.{getitem, setitem, delitem, slice}
use Rattle.py_model.proofs.WorkedStores.{run, then_store, dict_in, answers_with, makes_with, raises_in, r, s, u}

abbrev a : Contents
a = text (codes "a")

abbrev b : Contents
b = text (codes "b")

abbrev c : Contents
c = text (codes "c")

abbrev n : ℕ → Contents
n k = int (pos k)

-- object 0 is `{'a': 1, 'b': 2}`
abbrev two : RunStore
two = then_store (dict_display (a ∷ n 1 ∷ b ∷ n 2 ∷ [])) empty

-- `{'a': 1, 'b': 2}`
display : run empty (dict_display (a ∷ n 1 ∷ b ∷ n 2 ∷ [])) ≡ makes_with a_dict (object 0) (s (order_at 0) (order_is (a ∷ b ∷ [])) ∷ s (entry_at 0 a) (entry_is (Some (a, n 1))) ∷ s (entry_at 0 b) (entry_is (Some (b, n 2))) ∷ [])
display = refl

display_cost : cost (run empty (dict_display (a ∷ n 1 ∷ b ∷ n 2 ∷ []))) ≡ 4
display_cost = refl

-- `{True: 1, 'a': 2, 1: 3}`: the first key stays, the last value stands
display_twice : run empty (dict_display (truth true ∷ n 1 ∷ a ∷ n 2 ∷ n 1 ∷ n 3 ∷ [])) ≡ makes_with a_dict (object 0) (s (order_at 0) (order_is (truth true ∷ a ∷ [])) ∷ s (entry_at 0 (n 1)) (entry_is (Some (truth true, n 3))) ∷ s (entry_at 0 a) (entry_is (Some (a, n 2))) ∷ [])
display_twice = refl

-- `{'a': 1, {..}: 2}` and `{range(0): 1}`
display_no_key : run two (dict_display (a ∷ n 1 ∷ object 0 ∷ n 2 ∷ [])) ≡ raises_in two [] type_error (text (codes "not usable as a key"))
display_no_key = refl

display_not_here : run two (dict_display (range (pos 0) (pos 0) (pos 1) ∷ n 1 ∷ [])) ≡ raises_in two [] not_implemented (text (codes "not in this profile"))
display_not_here = refl

-- `{(1, [..]): 1}` names the part that is no key
display_part : run two (dict_display (tuple (part (n 1) (part (object 0) no_parts)) ∷ n 1 ∷ [])) ≡ raises_in two [] type_error (text (codes "not usable as a key"))
display_part = refl

-- `dict()`
empty_dict : run empty (dict_builtin []) ≡ makes_with a_dict (object 0) (s (order_at 0) (order_is []) ∷ [])
empty_dict = refl

one_dict : run two (dict_builtin (n 1 ∷ [])) ≡ raises_in two [] type_error (text (codes "wrong number of arguments"))
one_dict = refl

-- `d['a']`, `d['c']`
get : run two (getitem (object 0 ∷ a ∷ [])) ≡ answers_with (n 1) (r (entry_at 0 a) ∷ [])
get = refl

get_missing : run two (getitem (object 0 ∷ c ∷ [])) ≡ raises_in two (r (entry_at 0 c) ∷ []) key_error c
get_missing = refl

-- `d[:1]` has no accesses
get_slice : run two (slice (object 0 ∷ nothing ∷ n 1 ∷ [])) ≡ raises_in two [] type_error (text (codes "wrong kind of value"))
get_slice = refl

-- `d['a'] = 3` keeps the place; `d['c'] = 3` goes behind
set_again : run two (setitem (object 0 ∷ a ∷ n 3 ∷ [])) ≡ answers_with nothing (r (entry_at 0 a) ∷ s (entry_at 0 a) (entry_is (Some (a, n 3))) ∷ [])
set_again = refl

set_again_in : dict_in (then_store (setitem (object 0 ∷ a ∷ n 3 ∷ [])) two) 0 ≡ Some (a, n 3) ∷ Some (b, n 2) ∷ []
set_again_in = refl

set_new : run two (setitem (object 0 ∷ c ∷ n 3 ∷ [])) ≡ answers_with nothing (r (entry_at 0 c) ∷ s (entry_at 0 c) (entry_is (Some (c, n 3))) ∷ u (order_at 0) (key_inserted c) ∷ [])
set_new = refl

set_new_in : dict_in (then_store (setitem (object 0 ∷ c ∷ n 3 ∷ [])) two) 0 ≡ Some (a, n 1) ∷ Some (b, n 2) ∷ Some (c, n 3) ∷ []
set_new_in = refl

set_no_key : run two (setitem (object 0 ∷ object 0 ∷ n 3 ∷ [])) ≡ raises_in two [] type_error (text (codes "not usable as a key"))
set_no_key = refl

-- `d[1] = 5` where True is the key: the first key stays
set_true : dict_in (then_store (setitem (object 0 ∷ n 1 ∷ n 5 ∷ [])) (then_store (dict_display (truth true ∷ n 4 ∷ [])) empty)) 0 ≡ Some (truth true, n 5) ∷ []
set_true = refl

-- `del d['a']`, and then `d['a'] = 7` goes last
delete : run two (delitem (object 0 ∷ a ∷ [])) ≡ answers_with nothing (r (entry_at 0 a) ∷ s (entry_at 0 a) (entry_is None) ∷ u (order_at 0) (key_deleted a) ∷ [])
delete = refl

delete_set : dict_in (then_store (setitem (object 0 ∷ a ∷ n 7 ∷ [])) (then_store (delitem (object 0 ∷ a ∷ [])) two)) 0 ≡ Some (b, n 2) ∷ Some (a, n 7) ∷ []
delete_set = refl

-- `del d[1]` where True is the key names True
delete_true : run (then_store (dict_display (truth true ∷ n 4 ∷ [])) empty) (delitem (object 0 ∷ n 1 ∷ [])) ≡ answers_with nothing (r (entry_at 0 (n 1)) ∷ s (entry_at 0 (n 1)) (entry_is None) ∷ u (order_at 0) (key_deleted (truth true)) ∷ [])
delete_true = refl

delete_missing : run two (delitem (object 0 ∷ c ∷ [])) ≡ raises_in two (r (entry_at 0 c) ∷ []) key_error c
delete_missing = refl

-- `d.get('a')`, `d.get('c')`, `d.get('c', 9)`, `d.get(d)`
get_there : run two (get_method (object 0 ∷ a ∷ [])) ≡ answers_with (n 1) (r (entry_at 0 a) ∷ [])
get_there = refl

get_none : run two (get_method (object 0 ∷ c ∷ [])) ≡ answers_with nothing (r (entry_at 0 c) ∷ [])
get_none = refl

get_instead : run two (get_method (object 0 ∷ c ∷ n 9 ∷ [])) ≡ answers_with (n 9) (r (entry_at 0 c) ∷ [])
get_instead = refl

get_no_key : run two (get_method (object 0 ∷ object 0 ∷ [])) ≡ raises_in two [] type_error (text (codes "not usable as a key"))
get_no_key = refl

-- `d.items()`, `d.keys()`, `d.values()`
items : run two (items_method (object 0 ∷ [])) ≡ makes_with a_list (object 1) (r (order_at 0) ∷ r (entry_at 0 a) ∷ r (entry_at 0 b) ∷ s (len_at 1) (len_is 2) ∷ s (item_at 1 0) (item_is (tuple (part a (part (n 1) no_parts)))) ∷ s (item_at 1 1) (item_is (tuple (part b (part (n 2) no_parts)))) ∷ [])
items = refl

keys : run two (keys_method (object 0 ∷ [])) ≡ makes_with a_list (object 1) (r (order_at 0) ∷ s (len_at 1) (len_is 2) ∷ s (item_at 1 0) (item_is a) ∷ s (item_at 1 1) (item_is b) ∷ [])
keys = refl

values : run two (values_method (object 0 ∷ [])) ≡ makes_with a_list (object 1) (r (order_at 0) ∷ r (entry_at 0 a) ∷ r (entry_at 0 b) ∷ s (len_at 1) (len_is 2) ∷ s (item_at 1 0) (item_is (n 1)) ∷ s (item_at 1 1) (item_is (n 2)) ∷ [])
values = refl

keys_kind : run two (keys_method (a ∷ [])) ≡ raises_in two [] type_error (text (codes "wrong kind of value"))
keys_kind = refl

-- 101 tuples inside one another are no key, 100 are
abbrev nested : ℕ → Contents
nested zero = n 0
nested (suc k) = tuple (part (nested k) no_parts)

deep_key : run two (getitem (object 0 ∷ nested 101 ∷ [])) ≡ raises_in two [] recursion (text (codes "nested too deep"))
deep_key = refl

high_key : run two (get_method (object 0 ∷ nested 100 ∷ [])) ≡ answers_with nothing (r (entry_at 0 (nested 100)) ∷ [])
high_key = refl

-- `d[True]` where True is lacking names it as it was given; its read is of the integer 1
get_true_missing : run two (getitem (object 0 ∷ truth true ∷ [])) ≡ raises_in two (r (entry_at 0 (n 1)) ∷ []) key_error (truth true)
get_true_missing = refl

-- `d[True] = 3` on `{'a': 1, 'b': 2}` keeps True as the key
set_new_true : run two (setitem (object 0 ∷ truth true ∷ n 3 ∷ [])) ≡ answers_with nothing (r (entry_at 0 (n 1)) ∷ s (entry_at 0 (n 1)) (entry_is (Some (truth true, n 3))) ∷ u (order_at 0) (key_inserted (truth true)) ∷ [])
set_new_true = refl

-- `(True, 1)` and `(1, True)` are one key
same_tuples : run empty (dict_display (tuple (part (truth true) (part (n 1) no_parts)) ∷ n 5 ∷ tuple (part (n 1) (part (truth true) no_parts)) ∷ n 6 ∷ [])) ≡ makes_with a_dict (object 0) (s (order_at 0) (order_is (tuple (part (truth true) (part (n 1) no_parts)) ∷ [])) ∷ s (entry_at 0 (tuple (part (n 1) (part (n 1) no_parts)))) (entry_is (Some (tuple (part (truth true) (part (n 1) no_parts)), n 6))) ∷ [])
same_tuples = refl

-- `d.get('a', 9)` where the key is there
get_not_instead : run two (get_method (object 0 ∷ a ∷ n 9 ∷ [])) ≡ answers_with (n 1) (r (entry_at 0 a) ∷ [])
get_not_instead = refl

delete_no_key : run two (delitem (object 0 ∷ object 0 ∷ [])) ≡ raises_in two [] type_error (text (codes "not usable as a key"))
delete_no_key = refl
