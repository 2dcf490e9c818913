-- Worked rows of operators and of the built-in functions of numbers, each found by computation.
use Rattle.std.proofs.Common.{◌≡◌, refl}
use Rattle.std.specs.Prelude.{ℕ, zero, suc, pos, negsuc, true, false, [], ◌∷◌, ◌++◌, Some, codes, replicate}
use Rattle.std.specs.Char.{encode_utf8}
use Rattle.std.specs.Str.{chars}
use Rattle.py_value.specs.Contents.{Contents, nothing, truth, int, text, tuple, range, object, no_parts, part}
use Rattle.py_value.specs.Seen.{a_list, len_at, item_at, entry_at, order_at, len_is, item_is, reads, sets}
use Rattle.py_model.specs.Arithmetic.{truth_plan, not_plan, neg_plan, pos_plan, add_plan, sub_plan, mul_plan, floor_div_plan, mod_plan, eq_plan, ne_plan, lt_plan, le_plan, gt_plan, ge_plan, in_plan, not_in_plan, is_plan, is_not_plan, iadd_plan, abs_plan, bool_plan, chr_plan, int_plan, len_plan, max_plan, min_plan, ord_plan, range_plan, sum_plan}
use Rattle.py_model.specs.Effect.{accessed, looked, counted, answered, weight, cost, parts_of}
use Rattle.py_model.specs.Plan.{value}
use Rattle.py_model.specs.Dicts.{dict_display}
use Rattle.py_model.specs.Lists.{list_display}
use Rattle.py_model.specs.Store.{RunStore}
use Rattle.py_model.proofs.WorkedNumbers.{small, does, answers, faults, all_accessed}
use Rattle.py_model.proofs.WorkedStores.{run, then_store, raises_in}

-- an integer of 0 and more, one below 0 (`m 0` is -1), the least and the greatest of 64 bits
abbrev i : ℕ → Contents
i n = int (pos n)

abbrev m : ℕ → Contents
m n = int (negsuc n)

abbrev least : Contents
least = int (negsuc 9223372036854775807)

abbrev most : Contents
most = int (pos 9223372036854775807)

-- ---- division rounds to minus infinity, and the remainder has the sign of the divisor
seven_by_minus_two : does (floor_div_plan (i 7 ∷ m 1 ∷ [])) ≡ answers [] (m 3)
seven_by_minus_two = refl

seven_mod_minus_two : does (mod_plan (i 7 ∷ m 1 ∷ [])) ≡ answers [] (m 0)
seven_mod_minus_two = refl

minus_seven_by_two : does (floor_div_plan (m 6 ∷ i 2 ∷ [])) ≡ answers [] (m 3)
minus_seven_by_two = refl

minus_seven_mod_two : does (mod_plan (m 6 ∷ i 2 ∷ [])) ≡ answers [] (i 1)
minus_seven_mod_two = refl

minus_seven_by_minus_two : does (floor_div_plan (m 6 ∷ m 1 ∷ [])) ≡ answers [] (i 3)
minus_seven_by_minus_two = refl

minus_six_by_two : does (floor_div_plan (m 5 ∷ i 2 ∷ [])) ≡ answers [] (m 2)
minus_six_by_two = refl

six_by_minus_two : does (floor_div_plan (i 6 ∷ m 1 ∷ [])) ≡ answers [] (m 2)
six_by_minus_two = refl

six_mod_minus_two : does (mod_plan (i 6 ∷ m 1 ∷ [])) ≡ answers [] (i 0)
six_mod_minus_two = refl

least_by_minus_one : does (floor_div_plan (least ∷ m 0 ∷ [])) ≡ faults 3 (codes "integer out of range")
least_by_minus_one = refl

least_mod_minus_one : does (mod_plan (least ∷ m 0 ∷ [])) ≡ answers [] (i 0)
least_mod_minus_one = refl

one_by_zero : does (floor_div_plan (i 1 ∷ i 0 ∷ [])) ≡ faults 2 (codes "division by zero")
one_by_zero = refl

one_mod_false : does (mod_plan (i 1 ∷ truth false ∷ [])) ≡ faults 2 (codes "division by zero")
one_mod_false = refl

-- the kinds are tested first
text_by_zero : does (floor_div_plan (text (codes "a") ∷ i 0 ∷ [])) ≡ faults 9 (codes "wrong kind of value")
text_by_zero = refl

-- ---- truth
truth_of_list : does (truth_plan (object 0 ∷ [])) ≡ answers (accessed (reads (len_at 0)) ∷ []) (truth true)
truth_of_list = refl

truth_of_dict : does (bool_plan (object 2 ∷ [])) ≡ answers (accessed (reads (order_at 2)) ∷ []) (truth true)
truth_of_dict = refl

not_empty_range : does (not_plan (range (pos 3) (pos 0) (pos 1) ∷ [])) ≡ answers [] (truth true)
not_empty_range = refl

two_for_bool : does (bool_plan (i 1 ∷ i 2 ∷ [])) ≡ faults 9 (codes "wrong number of arguments")
two_for_bool = refl

-- ---- signs
minus_true : does (neg_plan (truth true ∷ [])) ≡ answers [] (m 0)
minus_true = refl

minus_least : does (neg_plan (least ∷ [])) ≡ faults 3 (codes "integer out of range")
minus_least = refl

plus_text : does (pos_plan (text (codes "a") ∷ [])) ≡ faults 9 (codes "wrong kind of value")
plus_text = refl

-- ---- sums, differences, products
one_more : does (add_plan (most ∷ i 1 ∷ [])) ≡ faults 3 (codes "integer out of range")
one_more = refl

one_less : does (sub_plan (least ∷ i 1 ∷ [])) ≡ faults 3 (codes "integer out of range")
one_less = refl

two_less_five : does (sub_plan (i 2 ∷ i 5 ∷ [])) ≡ answers [] (m 2)
two_less_five = refl

-- the bytes 195 and 169 are one character
text_sum : does (add_plan (text (195 ∷ 169 ∷ []) ∷ text (codes "b") ∷ [])) ≡ answers (counted 2 ∷ []) (text (195 ∷ 169 ∷ 98 ∷ []))
text_sum = refl

tuple_sum : does (add_plan (tuple (part (i 1) no_parts) ∷ tuple (part (i 2) (part (i 3) no_parts)) ∷ []))
    ≡ answers (looked 3 ∷ []) (tuple (part (i 1) (part (i 2) (part (i 3) no_parts))))
tuple_sum = refl

list_sum : does (add_plan (object 0 ∷ object 1 ∷ [])) ≡ record {
  outcome = answered (value (object 3));
  made = Some a_list;
  touches = all_accessed (
      reads (len_at 0) ∷ reads (item_at 0 0) ∷ reads (item_at 0 1)
      ∷ reads (len_at 1) ∷ reads (item_at 1 0) ∷ reads (item_at 1 1)
      ∷ sets (len_at 3) (len_is 4) ∷ sets (item_at 3 0) (item_is (i 5)) ∷ sets (item_at 3 1) (item_is (i 6))
      ∷ sets (item_at 3 2) (item_is (i 5)) ∷ sets (item_at 3 3) (item_is (i 7)) ∷ []);
}
list_sum = refl

list_sum_cost : cost (does (add_plan (object 0 ∷ object 1 ∷ []))) ≡ 12
list_sum_cost = refl

list_and_dict : does (add_plan (object 0 ∷ object 2 ∷ [])) ≡ faults 9 (codes "wrong kind of value")
list_and_dict = refl

six_sevens : does (mul_plan (i 6 ∷ m 6 ∷ [])) ≡ answers [] (m 41)
six_sevens = refl

text_thrice : does (mul_plan (i 3 ∷ text (codes "ab") ∷ [])) ≡ answers (counted 6 ∷ []) (text (codes "ababab"))
text_thrice = refl

tuple_twice : does (mul_plan (tuple (part (i 1) no_parts) ∷ i 2 ∷ [])) ≡ answers (looked 2 ∷ []) (tuple (part (i 1) (part (i 1) no_parts)))
tuple_twice = refl

list_never : does (mul_plan (object 0 ∷ m 0 ∷ [])) ≡ record {
  outcome = answered (value (object 3));
  made = Some a_list;
  touches = all_accessed (reads (len_at 0) ∷ reads (item_at 0 0) ∷ reads (item_at 0 1) ∷ sets (len_at 3) (len_is 0) ∷ []);
}
list_never = refl

text_by_text : does (mul_plan (text (codes "a") ∷ text (codes "b") ∷ [])) ≡ faults 9 (codes "wrong kind of value")
text_by_text = refl

-- `a += (9,)` on the list `[5, 6]`
extended : does (iadd_plan (object 0 ∷ tuple (part (i 9) no_parts) ∷ [])) ≡ answers
    (accessed (reads (len_at 0)) ∷ looked 1 ∷ accessed (sets (item_at 0 2) (item_is (i 9))) ∷ accessed (sets (len_at 0) (len_is 3)) ∷ [])
    (object 0)
extended = refl

extended_by_itself : does (iadd_plan (object 0 ∷ object 0 ∷ [])) ≡ answers
    (all_accessed (reads (len_at 0) ∷ reads (len_at 0) ∷ reads (item_at 0 0) ∷ reads (item_at 0 1)
    ∷ sets (item_at 0 2) (item_is (i 5)) ∷ sets (item_at 0 3) (item_is (i 6)) ∷ sets (len_at 0) (len_is 4) ∷ []))
    (object 0)
extended_by_itself = refl

number_for_a_list : does (iadd_plan (object 0 ∷ i 5 ∷ [])) ≡ faults 9 (codes "wrong kind of value")
number_for_a_list = refl

added_in_place : does (iadd_plan (i 2 ∷ i 3 ∷ [])) ≡ answers [] (i 5)
added_in_place = refl

-- ---- equality and order
one_is_true : does (eq_plan (i 1 ∷ truth true ∷ [])) ≡ answers [] (truth true)
one_is_true = refl

lists_differ : does (ne_plan (object 0 ∷ object 1 ∷ [])) ≡ answers
    (all_accessed (reads (len_at 0) ∷ reads (len_at 1) ∷ reads (item_at 0 0) ∷ reads (item_at 1 0) ∷ reads (item_at 0 1) ∷ reads (item_at 1 1) ∷ []))
    (truth true)
lists_differ = refl

same_list : does (eq_plan (object 0 ∷ object 0 ∷ [])) ≡ answers [] (truth true)
same_list = refl

lists_in_order : cost (does (lt_plan (object 0 ∷ object 1 ∷ []))) ≡ 7
lists_in_order = refl

tuples_in_order : does (gt_plan (tuple (part (i 1) (part (i 2) no_parts)) ∷ tuple (part (i 1) no_parts) ∷ [])) ≡ answers (looked 2 ∷ []) (truth true)
tuples_in_order = refl

-- only the shorter text is counted
texts_in_order : does (le_plan (text (codes "abc") ∷ text (codes "b") ∷ [])) ≡ answers (counted 1 ∷ []) (truth true)
texts_in_order = refl

-- also where the texts are the same; a pair of items that is the same is not ordered
same_texts_in_order : does (lt_plan (text (codes "abc") ∷ text (codes "abc") ∷ [])) ≡ answers (counted 3 ∷ []) (truth false)
same_texts_in_order = refl

same_items_in_order : does (lt_plan (tuple (part (text (codes "a")) (part (text (codes "b")) no_parts)) ∷ tuple (part (text (codes "a")) (part (text (codes "cd")) no_parts)) ∷ [])) ≡ answers (looked 2 ∷ looked 2 ∷ counted 1 ∷ []) (truth true)
same_items_in_order = refl

largest_of_same_texts : does (max_plan (text (codes "a") ∷ text (codes "a") ∷ [])) ≡ answers (counted 1 ∷ []) (text (codes "a"))
largest_of_same_texts = refl

at_least : does (ge_plan (i 3 ∷ i 3 ∷ [])) ≡ answers [] (truth true)
at_least = refl

none_has_no_order : does (lt_plan (nothing ∷ nothing ∷ [])) ≡ faults 9 (codes "wrong kind of value")
none_has_no_order = refl

dict_has_no_order : does (lt_plan (object 2 ∷ object 2 ∷ [])) ≡ faults 9 (codes "wrong kind of value")
dict_has_no_order = refl

-- ---- membership
found_first : does (in_plan (i 5 ∷ object 0 ∷ [])) ≡ answers (all_accessed (reads (len_at 0) ∷ reads (item_at 0 0) ∷ [])) (truth true)
found_first = refl

not_found : does (not_in_plan (i 9 ∷ object 0 ∷ [])) ≡ answers
    (all_accessed (reads (len_at 0) ∷ reads (item_at 0 0) ∷ reads (item_at 0 1) ∷ [])) (truth true)
not_found = refl

key_found : does (in_plan (truth true ∷ object 2 ∷ [])) ≡ answers (all_accessed (reads (entry_at 2 (i 1)) ∷ [])) (truth true)
key_found = refl

list_as_key : does (in_plan (object 0 ∷ object 2 ∷ [])) ≡ faults 9 (codes "not usable as a key")
list_as_key = refl

range_as_key : does (in_plan (range (pos 0) (pos 1) (pos 1) ∷ object 2 ∷ [])) ≡ faults 13 (codes "not in this profile")
range_as_key = refl

-- each item is looked at once, up to the hit
item_of_tuple : does (in_plan (truth true ∷ tuple (parts_of (i 0 ∷ i 1 ∷ i 2 ∷ [])) ∷ [])) ≡ answers (looked 1 ∷ looked 1 ∷ []) (truth true)
item_of_tuple = refl

number_in_text : does (in_plan (i 1 ∷ text (codes "1") ∷ [])) ≡ faults 9 (codes "wrong kind of value")
number_in_text = refl

-- 10 is the second of 12, 10, 8 and 6; 9 is none of them
number_found : does (in_plan (i 10 ∷ range (pos 12) (pos 5) (negsuc 1) ∷ [])) ≡ answers (looked 2 ∷ []) (truth true)
number_found = refl

number_not_found : does (in_plan (i 9 ∷ range (pos 12) (pos 5) (negsuc 1) ∷ [])) ≡ answers (looked 4 ∷ []) (truth false)
number_not_found = refl

number_behind : does (in_plan (i 4 ∷ range (pos 12) (pos 5) (negsuc 1) ∷ [])) ≡ answers (looked 4 ∷ []) (truth false)
number_behind = refl

number_before : does (in_plan (i 14 ∷ range (pos 12) (pos 5) (negsuc 1) ∷ [])) ≡ answers (looked 4 ∷ []) (truth false)
number_before = refl

text_found : does (in_plan (text (codes "b") ∷ text (codes "abc") ∷ [])) ≡ answers (counted 3 ∷ []) (truth true)
text_found = refl

-- 64 characters weigh 1, and 65 weigh 2
search_weight : weight (does (in_plan (text (codes "b") ∷ text (replicate 65 97) ∷ []))) ≡ 2
search_weight = refl

search_cost : cost (does (in_plan (text (codes "b") ∷ text (replicate 64 97) ∷ []))) ≡ 2
search_cost = refl

in_number : does (in_plan (i 1 ∷ i 1 ∷ [])) ≡ faults 9 (codes "wrong kind of value")
in_number = refl

-- ---- identity
none_is_none : does (is_plan (nothing ∷ nothing ∷ [])) ≡ answers [] (truth true)
none_is_none = refl

one_is_not_true : does (is_not_plan (i 1 ∷ truth true ∷ [])) ≡ answers [] (truth true)
one_is_not_true = refl

one_is_one : does (is_plan (i 1 ∷ i 1 ∷ [])) ≡ faults 13 (codes "not in this profile")
one_is_one = refl

-- ---- built-in functions
absolute_least : does (abs_plan (least ∷ [])) ≡ faults 3 (codes "integer out of range")
absolute_least = refl

absolute_two : does (abs_plan (m 1 ∷ [])) ≡ answers [] (i 2)
absolute_two = refl

character_233 : does (chr_plan (i 233 ∷ [])) ≡ answers (counted 1 ∷ []) (text (195 ∷ 169 ∷ []))
unfolding encode_utf8
character_233 = refl

half_of_a_pair : does (chr_plan (i 0xD800 ∷ [])) ≡ faults 10 (codes "not a character")
unfolding encode_utf8
half_of_a_pair = refl

number_in_white : does (int_plan (text (codes " -12\n") ∷ [])) ≡ answers [] (m 11)
number_in_white = refl

least_written : does (int_plan (text (codes "-9223372036854775808") ∷ [])) ≡ answers [] least
least_written = refl

too_large_written : does (int_plan (text (codes "9223372036854775808") ∷ [])) ≡ faults 3 (codes "integer out of range")
too_large_written = refl

no_number_written : does (int_plan (text (codes "1 2") ∷ [])) ≡ faults 10 (codes "not an integer")
no_number_written = refl

sign_alone : does (int_plan (text (codes "+") ∷ [])) ≡ faults 10 (codes "not an integer")
sign_alone = refl

length_of_list : does (len_plan (object 0 ∷ [])) ≡ answers (all_accessed (reads (len_at 0) ∷ [])) (i 2)
length_of_list = refl

length_of_text : does (len_plan (text (195 ∷ 169 ∷ 97 ∷ []) ∷ [])) ≡ answers [] (i 2)
length_of_text = refl

length_of_number : does (len_plan (i 5 ∷ [])) ≡ faults 9 (codes "wrong kind of value")
length_of_number = refl

-- the first of equals stays
first_of_equals : does (max_plan (truth true ∷ i 1 ∷ i 0 ∷ [])) ≡ answers [] (truth true)
first_of_equals = refl

largest_item : does (max_plan (object 1 ∷ [])) ≡ answers (all_accessed (reads (len_at 1) ∷ reads (item_at 1 0) ∷ reads (item_at 1 1) ∷ [])) (i 7)
largest_item = refl

smallest_of_range : does (min_plan (range (pos 4) (pos 0) (negsuc 0) ∷ [])) ≡ answers (looked 4 ∷ []) (i 1)
smallest_of_range = refl

largest_of_none : (does (max_plan (tuple no_parts ∷ []))).touches ≡ looked 0 ∷ (faults 10 (codes "empty or zero")).touches
largest_of_none = refl

code_of_character : does (ord_plan (text (195 ∷ 169 ∷ []) ∷ [])) ≡ answers [] (i 233)
unfolding chars
code_of_character = refl

two_characters : does (ord_plan (text (codes "ab") ∷ [])) ≡ faults 10 (codes "not a character")
unfolding chars
two_characters = refl

range_of_two : does (range_plan (i 1 ∷ truth true ∷ [])) ≡ answers [] (range (pos 1) (pos 1) (pos 1))
range_of_two = refl

step_of_zero : does (range_plan (i 1 ∷ i 2 ∷ i 0 ∷ [])) ≡ faults 10 (codes "empty or zero")
step_of_zero = refl

sum_of_list : does (sum_plan (object 0 ∷ [])) ≡ answers (all_accessed (reads (len_at 0) ∷ reads (item_at 0 0) ∷ reads (item_at 0 1) ∷ [])) (i 11)
sum_of_list = refl

sum_of_list_cost : cost (does (sum_plan (object 0 ∷ []))) ≡ 4
sum_of_list_cost = refl

-- each item is looked at once
sum_of_range_weight : weight (does (sum_plan (range (pos 0) (pos 10) (pos 1) ∷ []))) ≡ 10
sum_of_range_weight = refl

-- that all are numbers is tested before; else the first partial sum decides
sum_with_text : (does (sum_plan (tuple (parts_of (most ∷ i 1 ∷ text (codes "a") ∷ [])) ∷ []))).made
    ≡ (faults 9 (codes "wrong kind of value")).made
sum_with_text = refl

sum_of_partial : (does (sum_plan (tuple (parts_of (most ∷ i 1 ∷ m 0 ∷ [])) ∷ []))).made ≡ (faults 3 (codes "integer out of range")).made
sum_of_partial = refl

-- ---- more of equality and order
-- ranges are equal where their numbers are, whatever spells them
same_numbers : does (eq_plan (range (pos 0) (pos 3) (pos 2) ∷ range (pos 0) (pos 4) (pos 2) ∷ [])) ≡ answers [] (truth true)
same_numbers = refl

one_number_each : does (eq_plan (range (pos 0) (pos 1) (pos 1) ∷ range (pos 0) (pos 5) (pos 5) ∷ [])) ≡ answers [] (truth true)
one_number_each = refl

other_step : does (eq_plan (range (pos 0) (pos 4) (pos 2) ∷ range (pos 0) (pos 2) (pos 1) ∷ [])) ≡ answers [] (truth false)
other_step = refl

no_numbers : does (eq_plan (range (pos 0) (pos 0) (pos 1) ∷ range (pos 3) (pos 1) (pos 1) ∷ [])) ≡ answers [] (truth true)
no_numbers = refl

ranges_have_no_order : does (lt_plan (range (pos 0) (pos 1) (pos 1) ∷ range (pos 0) (pos 2) (pos 1) ∷ [])) ≡ faults 9 (codes "wrong kind of value")
ranges_have_no_order = refl

-- the shorter text is the one of fewer characters, and counts where it is left too
shorter_left : does (gt_plan (text (codes "b") ∷ text (codes "abc") ∷ [])) ≡ answers (counted 1 ∷ []) (truth true)
shorter_left = refl

shorter_in_characters : does (lt_plan (text (195 ∷ 169 ∷ 195 ∷ 169 ∷ []) ∷ text (codes "abc") ∷ [])) ≡ answers (counted 2 ∷ []) (truth false)
shorter_in_characters = refl

-- a text stands before what goes on behind it
beginning_is_before : does (lt_plan (text (codes "ab") ∷ text (codes "abc") ∷ [])) ≡ answers (counted 2 ∷ []) (truth true)
beginning_is_before = refl

-- the order of two texts counts the shorter also where they are equal; in a tuple equal texts are passed over uncounted
equal_in_order : does (le_plan (text (codes "abc") ∷ text (codes "abc") ∷ [])) ≡ answers (counted 3 ∷ []) (truth true)
equal_in_order = refl

equal_among_best : does (max_plan (text (codes "a") ∷ text (codes "a") ∷ [])) ≡ answers (counted 1 ∷ []) (text (codes "a"))
equal_among_best = refl

-- of texts in a tuple the pair that decides counts
deciding_texts : does (lt_plan (tuple (parts_of (text (codes "abc") ∷ text (codes "de") ∷ [])) ∷ tuple (parts_of (text (codes "abc") ∷ text (codes "f") ∷ [])) ∷ []))
    ≡ answers (looked 2 ∷ looked 2 ∷ counted 1 ∷ []) (truth true)
deciding_texts = refl

-- equality counts no text
equal_texts_uncounted : does (eq_plan (text (codes "abc") ∷ text (codes "abd") ∷ [])) ≡ answers [] (truth false)
equal_texts_uncounted = refl

shorter_tuple : does (lt_plan (tuple (part (i 1) no_parts) ∷ tuple (parts_of (i 1 ∷ i 2 ∷ [])) ∷ [])) ≡ answers (looked 2 ∷ []) (truth true)
shorter_tuple = refl

tuple_and_number_inside : (does (lt_plan (tuple (part (i 1) no_parts) ∷ tuple (part (text (codes "a")) no_parts) ∷ []))).touches
    ≡ looked 2 ∷ (faults 9 (codes "wrong kind of value")).touches
tuple_and_number_inside = refl

-- besides the objects of the small store: 3 is `[5]`, 4 is `{1: 8, 2: 9}`, 5 is `{2: 8}`, 6 is `{'l': [5]}`, 7 is `{'l': [5, 6]}`, 8 is
-- `[[5, 6]]`, 9 is an exception
abbrev l : Contents
l = text (codes "l")

abbrev wider : RunStore
wider = then_store (pos_plan (nothing ∷ [])) (then_store (list_display (object 0 ∷ [])) (then_store (dict_display (l ∷ object 0 ∷ [])) (then_store (dict_display (l ∷ object 3 ∷ []))
    (then_store (dict_display (i 2 ∷ i 8 ∷ [])) (then_store (dict_display (i 1 ∷ i 8 ∷ i 2 ∷ i 9 ∷ [])) (then_store (list_display (i 5 ∷ [])) small))))))

longer_left : run wider (gt_plan (object 0 ∷ object 3 ∷ [])) ≡ answers (all_accessed (reads (len_at 0) ∷ reads (len_at 3) ∷ reads (item_at 0 0) ∷ reads (item_at 3 0) ∷ [])) (truth true)
longer_left = refl

longer_right : run wider (lt_plan (object 3 ∷ object 0 ∷ [])) ≡ answers (all_accessed (reads (len_at 3) ∷ reads (len_at 0) ∷ reads (item_at 3 0) ∷ reads (item_at 0 0) ∷ [])) (truth true)
longer_right = refl

unequal_lengths : run wider (eq_plan (object 3 ∷ object 0 ∷ [])) ≡ answers (all_accessed (reads (len_at 3) ∷ reads (len_at 0) ∷ [])) (truth false)
unequal_lengths = refl

unequal_sizes : run wider (eq_plan (object 2 ∷ object 4 ∷ [])) ≡ answers (all_accessed (reads (order_at 2) ∷ reads (order_at 4) ∷ [])) (truth false)
unequal_sizes = refl

other_key : run wider (eq_plan (object 2 ∷ object 5 ∷ []))
    ≡ answers (all_accessed (reads (order_at 2) ∷ reads (order_at 5) ∷ reads (entry_at 2 (i 1)) ∷ reads (entry_at 5 (i 1)) ∷ [])) (truth false)
other_key = refl

-- values of dictionaries are asked for equality alone, also where two lists around them are ordered
lists_in_dicts : run wider (eq_plan (object 6 ∷ object 7 ∷ [])) ≡ answers
    (all_accessed (reads (order_at 6) ∷ reads (order_at 7) ∷ reads (entry_at 6 l) ∷ reads (entry_at 7 l) ∷ reads (len_at 3) ∷ reads (len_at 0) ∷ []))
    (truth false)
lists_in_dicts = refl

dicts_in_tuples : (run wider (lt_plan (tuple (part (object 6) no_parts) ∷ tuple (part (object 7) no_parts) ∷ []))).touches ≡ looked 2 ∷
    (all_accessed (reads (order_at 6) ∷ reads (order_at 7) ∷ reads (entry_at 6 l) ∷ reads (entry_at 7 l) ∷ reads (len_at 3) ∷ reads (len_at 0) ∷ [])
    ++ (run wider (pos_plan (nothing ∷ []))).touches)
dicts_in_tuples = refl

-- the value that is sought is left, the item right
list_among_items : run wider (in_plan (object 1 ∷ object 8 ∷ [])) ≡ answers
    (all_accessed (reads (len_at 8) ∷ reads (item_at 8 0) ∷ reads (len_at 1) ∷ reads (len_at 0) ∷ reads (item_at 1 0) ∷ reads (item_at 0 0)
    ∷ reads (item_at 1 1) ∷ reads (item_at 0 1) ∷ []))
    (truth false)
list_among_items = refl

-- of the best the item is left, the best so far right
best_of_lists : run wider (max_plan (object 0 ∷ object 1 ∷ [])) ≡ answers
    (all_accessed (reads (len_at 1) ∷ reads (len_at 0) ∷ reads (item_at 1 0) ∷ reads (item_at 0 0) ∷ reads (item_at 1 1) ∷ reads (item_at 0 1) ∷ []))
    (object 1)
best_of_lists = refl

-- an exception is true, and reads nothing
truth_of_exception : run wider (truth_plan (object 9 ∷ [])) ≡ answers [] (truth true)
truth_of_exception = refl

exception_has_no_length : run wider (len_plan (object 9 ∷ [])) ≡ raises_in wider [] 9 (text (codes "wrong kind of value"))
exception_has_no_length = refl

-- 100 tuples inside one another are compared, 101 are not
abbrev nested : ℕ → Contents
nested zero = i 0
nested (suc k) = tuple (part (nested k) no_parts)

hundred_tuples : weight (does (eq_plan (nested 100 ∷ nested 100 ∷ []))) ≡ 200
hundred_tuples = refl

hundred_are_equal : (does (eq_plan (nested 100 ∷ nested 100 ∷ []))).outcome ≡ answered (value (truth true))
hundred_are_equal = refl

more_tuples : (does (eq_plan (nested 101 ∷ nested 101 ∷ []))).made ≡ (faults 14 (codes "nested too deep")).made
more_tuples = refl

more_in_order : (does (le_plan (nested 101 ∷ nested 101 ∷ []))).made ≡ (faults 14 (codes "nested too deep")).made
more_in_order = refl

hundred_in_order : (does (le_plan (nested 100 ∷ nested 100 ∷ []))).outcome ≡ answered (value (truth true))
hundred_in_order = refl

-- ---- more of membership, identity and built-in functions
characters_searched : does (in_plan (text (codes "b") ∷ text (195 ∷ 169 ∷ 98 ∷ []) ∷ [])) ≡ answers (counted 2 ∷ []) (truth true)
characters_searched = refl

tuple_is_tuple : does (is_plan (tuple no_parts ∷ tuple no_parts ∷ [])) ≡ faults 13 (codes "not in this profile")
tuple_is_tuple = refl

text_is_text : does (is_not_plan (text [] ∷ text (codes "a") ∷ [])) ≡ faults 13 (codes "not in this profile")
text_is_text = refl

range_is_range : does (is_plan (range (pos 0) (pos 1) (pos 1) ∷ range (pos 0) (pos 1) (pos 1) ∷ [])) ≡ faults 13 (codes "not in this profile")
range_is_range = refl

list_is_list : does (is_plan (object 0 ∷ object 0 ∷ [])) ≡ answers [] (truth true)
list_is_list = refl

list_is_no_other : does (is_plan (object 0 ∷ object 1 ∷ [])) ≡ answers [] (truth false)
list_is_no_other = refl

true_is_true : does (is_plan (truth true ∷ truth true ∷ [])) ≡ answers [] (truth true)
true_is_true = refl

dict_twice : does (mul_plan (object 2 ∷ i 2 ∷ [])) ≡ faults 9 (codes "wrong kind of value")
dict_twice = refl

plus_true : does (pos_plan (truth true ∷ [])) ≡ answers [] (i 1)
plus_true = refl

int_of_true : does (int_plan (truth true ∷ [])) ≡ answers [] (i 1)
int_of_true = refl

absolute_true : does (abs_plan (truth true ∷ [])) ≡ answers [] (i 1)
absolute_true = refl

plus_written : does (int_plan (text (codes "\r+7\t") ∷ [])) ≡ answers [] (i 7)
plus_written = refl

colon_for_a_digit : does (int_plan (text (codes "1:") ∷ [])) ≡ faults 10 (codes "not an integer")
colon_for_a_digit = refl

two_signs : does (int_plan (text (codes "--1") ∷ [])) ≡ faults 10 (codes "not an integer")
two_signs = refl

int_of_none : does (int_plan (nothing ∷ [])) ≡ faults 9 (codes "wrong kind of value")
int_of_none = refl

character_of_minus_one : does (chr_plan (m 0 ∷ [])) ≡ faults 10 (codes "not a character")
character_of_minus_one = refl

last_half : does (chr_plan (i 0xDFFF ∷ [])) ≡ faults 10 (codes "not a character")
unfolding encode_utf8
last_half = refl

behind_halves : does (chr_plan (i 0xE000 ∷ [])) ≡ answers (counted 1 ∷ []) (text (238 ∷ 128 ∷ 128 ∷ []))
unfolding encode_utf8
behind_halves = refl

last_character : does (chr_plan (i 0x10FFFF ∷ [])) ≡ answers (counted 1 ∷ []) (text (244 ∷ 143 ∷ 191 ∷ 191 ∷ []))
unfolding encode_utf8
last_character = refl

behind_last_character : does (chr_plan (i 0x110000 ∷ [])) ≡ faults 10 (codes "not a character")
unfolding encode_utf8
behind_last_character = refl

-- a text is walked once, and each character then compared with the best so far
largest_character : does (max_plan (text (codes "ab") ∷ [])) ≡ answers (counted 2 ∷ counted 1 ∷ []) (text (codes "b"))
largest_character = refl

sum_of_no_text : does (sum_plan (text [] ∷ [])) ≡ answers (counted 0 ∷ []) (i 0)
sum_of_no_text = refl

kind_before_step : does (range_plan (text [] ∷ i 2 ∷ i 0 ∷ [])) ≡ faults 9 (codes "wrong kind of value")
kind_before_step = refl

widest_range : does (len_plan (range (negsuc 9223372036854775807) (pos 9223372036854775807) (pos 1) ∷ [])) ≡ faults 3 (codes "integer out of range")
widest_range = refl

-- ---- more of truth, ranges and depth
nothing_is_false : does (bool_plan (nothing ∷ [])) ≡ answers [] (truth false)
nothing_is_false = refl

zero_is_false : does (bool_plan (i 0 ∷ [])) ≡ answers [] (truth false)
zero_is_false = refl

minus_one_is_true : does (bool_plan (m 0 ∷ [])) ≡ answers [] (truth true)
minus_one_is_true = refl

empty_text_is_false : does (bool_plan (text [] ∷ [])) ≡ answers [] (truth false)
empty_text_is_false = refl

empty_tuple_is_false : does (bool_plan (tuple no_parts ∷ [])) ≡ answers [] (truth false)
empty_tuple_is_false = refl

tuple_of_zero_is_true : does (not_plan (tuple (part (i 0) no_parts) ∷ [])) ≡ answers [] (truth false)
tuple_of_zero_is_true = refl

true_is_one : does (eq_plan (truth true ∷ i 1 ∷ [])) ≡ answers [] (truth true)
true_is_one = refl

false_below_true : does (lt_plan (truth false ∷ truth true ∷ [])) ≡ answers [] (truth true)
false_below_true = refl

range_of_one : does (range_plan (truth true ∷ [])) ≡ answers [] (range (pos 0) (pos 1) (pos 1))
range_of_one = refl

range_of_three : does (range_plan (i 5 ∷ m 0 ∷ m 1 ∷ [])) ≡ answers [] (range (pos 5) (negsuc 0) (negsuc 1))
range_of_three = refl

list_twice : does (mul_plan (truth true ∷ object 0 ∷ [])) ≡ record {
  outcome = answered (value (object 3));
  made = Some a_list;
  touches = all_accessed (reads (len_at 0) ∷ reads (item_at 0 0) ∷ reads (item_at 0 1)
      ∷ sets (len_at 3) (len_is 2) ∷ sets (item_at 3 0) (item_is (i 5)) ∷ sets (item_at 3 1) (item_is (i 6)) ∷ []);
}
list_twice = refl

-- in an exception nothing is sought, and it is no key in this profile
in_exception : run wider (in_plan (i 1 ∷ object 9 ∷ [])) ≡ raises_in wider [] 9 (text (codes "wrong kind of value"))
in_exception = refl

exception_as_key : run wider (in_plan (object 9 ∷ object 2 ∷ [])) ≡ raises_in wider [] 13 (text (codes "not in this profile"))
exception_as_key = refl

-- a list and a dictionary inside 99 tuples are read; inside 100 they are refused before
abbrev inside : ℕ → Contents → Contents
inside zero v = v
inside (suc k) v = tuple (part (inside k v) no_parts)

deep_lists : cost (run wider (eq_plan (inside 99 (object 3) ∷ inside 99 (object 0) ∷ []))) ≡ 201
deep_lists = refl

deeper_lists : run wider (eq_plan (inside 1 (inside 99 (object 3)) ∷ inside 100 (object 0) ∷ [])) ≡ run wider (eq_plan (nested 101 ∷ nested 101 ∷ []))
deeper_lists = refl

deep_dicts : cost (run wider (eq_plan (inside 99 (object 2) ∷ inside 99 (object 4) ∷ []))) ≡ 201
deep_dicts = refl

deeper_dicts : run wider (eq_plan (inside 100 (object 2) ∷ inside 100 (object 4) ∷ [])) ≡ run wider (eq_plan (nested 101 ∷ nested 101 ∷ []))
deeper_dicts = refl

-- the same list is equal to itself however deep it lies
same_deep_list : (run wider (eq_plan (inside 100 (object 0) ∷ inside 100 (object 0) ∷ []))).outcome ≡ answered (value (truth true))
same_deep_list = refl

-- numbers below 0 stand before the others, the further the earlier
below_zero : does (lt_plan (m 1 ∷ m 0 ∷ [])) ≡ answers [] (truth true)
below_zero = refl

not_below_zero : does (lt_plan (i 0 ∷ m 0 ∷ [])) ≡ answers [] (truth false)
not_below_zero = refl

below_one : does (lt_plan (m 4 ∷ i 1 ∷ [])) ≡ answers [] (truth true)
below_one = refl

-- characters of three and of four bytes
length_of_wide : does (len_plan (text (226 ∷ 130 ∷ 172 ∷ 240 ∷ 157 ∷ 132 ∷ 158 ∷ []) ∷ [])) ≡ answers [] (i 2)
length_of_wide = refl

code_of_wide : does (ord_plan (text (240 ∷ 157 ∷ 132 ∷ 158 ∷ []) ∷ [])) ≡ answers [] (i 0x1D11E)
unfolding chars
code_of_wide = refl

no_character : does (ord_plan (text [] ∷ [])) ≡ faults 10 (codes "not a character")
unfolding chars
no_character = refl

-- in a tuple too the value that is sought is left, the item right
list_among_parts : run wider (in_plan (object 0 ∷ tuple (part (object 3) no_parts) ∷ [])) ≡ answers
    (looked 1 ∷ all_accessed (reads (len_at 0) ∷ reads (len_at 3) ∷ [])) (truth false)
list_among_parts = refl
