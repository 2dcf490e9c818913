-- Worked rows of the methods of texts, each found by computation.
use Rattle.std.proofs.Common.{◌≡◌, refl}
use Rattle.std.specs.Prelude.{ℕ, pos, negsuc, true, false, List, [], ◌∷◌, ◌++◌, Some, codes, replicate}
use Rattle.py_value.specs.Contents.{int, truth, text, tuple, object}
use Rattle.py_value.specs.Seen.{a_list, len_at, item_at, len_is, item_is, reads, sets}
use Rattle.py_model.specs.Effect.{looked, counted, answered, weight, cost, parts_of}
use Rattle.py_model.specs.Plan.{value}
use Rattle.py_model.specs.TextMethods.{strip_plan, lstrip_plan, rstrip_plan, split_plan, join_plan, replace_plan, find_plan, startswith_plan, endswith_plan, upper_plan, lower_plan, isdigit_plan, ljust_plan, rjust_plan}
use Rattle.py_model.proofs.WorkedNumbers.{does, answers, faults, all_accessed}

-- the text of 64 characters of two bytes each
abbrev twos : ℕ → List ℕ
twos n = doubled (replicate n 195)
  where
    doubled : List ℕ → List ℕ
    doubled [] = []
    doubled (first ∷ rest) = first ∷ 169 ∷ doubled rest

-- ---- white space at the ends
stripped : does (strip_plan (text (codes " \ta b\n ") ∷ [])) ≡ answers (counted 7 ∷ counted 3 ∷ []) (text (codes "a b"))
stripped = refl

left_stripped : does (lstrip_plan (text (codes " a ") ∷ [])) ≡ answers (counted 3 ∷ counted 2 ∷ []) (text (codes "a "))
left_stripped = refl

right_stripped : does (rstrip_plan (text (codes " a ") ∷ [])) ≡ answers (counted 3 ∷ counted 2 ∷ []) (text (codes " a"))
right_stripped = refl

strip_of_two : does (strip_plan (text (codes "a") ∷ text (codes "a") ∷ [])) ≡ faults 9 (codes "wrong number of arguments")
strip_of_two = refl

-- ---- pieces
split_at_commas : does (split_plan (text (codes "a,,b") ∷ text (codes ",") ∷ [])) ≡ record {
  outcome = answered (value (object 3));
  made = Some a_list;
  touches = counted 4 ∷ counted 2 ∷ all_accessed (sets (len_at 3) (len_is 3) ∷ sets (item_at 3 0) (item_is (text (codes "a")))
      ∷ sets (item_at 3 1) (item_is (text [])) ∷ sets (item_at 3 2) (item_is (text (codes "b"))) ∷ []);
}
split_at_commas = refl

split_at_white : does (split_plan (text (codes " a \n bc ") ∷ [])) ≡ record {
  outcome = answered (value (object 3));
  made = Some a_list;
  touches = counted 8 ∷ counted 3 ∷ all_accessed (sets (len_at 3) (len_is 2) ∷ sets (item_at 3 0) (item_is (text (codes "a")))
      ∷ sets (item_at 3 1) (item_is (text (codes "bc"))) ∷ []);
}
split_at_white = refl

split_of_nothing : (does (split_plan (text [] ∷ []))).touches ≡ counted 0 ∷ counted 0 ∷ all_accessed (sets (len_at 3) (len_is 0) ∷ [])
split_of_nothing = refl

-- a separator of two characters is passed as a whole
split_at_pairs : (does (split_plan (text (codes "aaa") ∷ text (codes "aa") ∷ []))).touches
    ≡ counted 3 ∷ counted 1 ∷ all_accessed (sets (len_at 3) (len_is 2) ∷ sets (item_at 3 0) (item_is (text []))
    ∷ sets (item_at 3 1) (item_is (text (codes "a"))) ∷ [])
split_at_pairs = refl

split_at_nothing : does (split_plan (text (codes "a") ∷ text [] ∷ [])) ≡ faults 10 (codes "empty or zero")
split_at_nothing = refl

-- a search and its pieces are counted together: 64 characters and their 32 pieces of one character weigh 2
split_weight : weight (does (split_plan (text (codes "a,a,a,a,a,a,a,a,a,a,a,a,a,a,a,a,a,a,a,a,a,a,a,a,a,a,a,a,a,a,a,a,") ∷ text (codes ",") ∷ []))) ≡ 2
split_weight = refl

joined_words : does (join_plan (text (codes ", ") ∷ tuple (parts_of (text (codes "a") ∷ text (codes "b") ∷ [])) ∷ []))
    ≡ answers (looked 2 ∷ counted 4 ∷ []) (text (codes "a, b"))
joined_words = refl

joined_numbers : (does (join_plan (text [] ∷ object 0 ∷ []))).touches
    ≡ all_accessed (reads (len_at 0) ∷ reads (item_at 0 0) ∷ reads (item_at 0 1) ∷ []) ++ (faults 9 (codes "wrong kind of value")).touches
joined_numbers = refl

replaced_twice : does (replace_plan (text (codes "abcab") ∷ text (codes "ab") ∷ text (codes "x") ∷ [])) ≡ answers (counted 5 ∷ counted 3 ∷ []) (text (codes "xcx"))
replaced_twice = refl

replaced_nothing : does (replace_plan (text (codes "a") ∷ text [] ∷ text (codes "b") ∷ [])) ≡ faults 13 (codes "not in this profile")
replaced_nothing = refl

-- ---- searches: places are counted in characters
found_behind : does (find_plan (text (195 ∷ 169 ∷ 98 ∷ []) ∷ text (codes "b") ∷ [])) ≡ answers (counted 2 ∷ []) (int (pos 1))
found_behind = refl

found_nowhere : does (find_plan (text (codes "abc") ∷ text (codes "cb") ∷ [])) ≡ answers (counted 3 ∷ []) (int (negsuc 0))
found_nowhere = refl

found_empty : does (find_plan (text [] ∷ text [] ∷ [])) ≡ answers (counted 0 ∷ []) (int (pos 0))
found_empty = refl

find_number : does (find_plan (text (codes "1") ∷ int (pos 1) ∷ [])) ≡ faults 9 (codes "wrong kind of value")
find_number = refl

-- 64 characters weigh 1, also where they are 128 bytes
search_in_twos : weight (does (find_plan (text (twos 64) ∷ text (codes "b") ∷ []))) ≡ 1
search_in_twos = refl

search_in_more : cost (does (find_plan (text (twos 65) ∷ text (codes "b") ∷ []))) ≡ 3
search_in_more = refl

begins : does (startswith_plan (text (codes "abc") ∷ text (codes "ab") ∷ [])) ≡ answers (counted 3 ∷ []) (truth true)
begins = refl

does_not_begin : does (startswith_plan (text (codes "a") ∷ text (codes "ab") ∷ [])) ≡ answers (counted 1 ∷ []) (truth false)
does_not_begin = refl

ends_so : does (endswith_plan (text (codes "abc") ∷ text (codes "bc") ∷ [])) ≡ answers (counted 3 ∷ []) (truth true)
ends_so = refl

does_not_end : does (endswith_plan (text (codes "c") ∷ text (codes "bc") ∷ [])) ≡ answers (counted 1 ∷ []) (truth false)
does_not_end = refl

-- ---- letters, digits, width
upper_letters : does (upper_plan (text (codes "az{`" ++ (195 ∷ 169 ∷ [])) ∷ [])) ≡ answers (counted 5 ∷ []) (text (codes "AZ{`" ++ (195 ∷ 169 ∷ [])))
upper_letters = refl

lower_letters : does (lower_plan (text (codes "AZ[@1") ∷ [])) ≡ answers (counted 5 ∷ []) (text (codes "az[@1"))
lower_letters = refl

upper_weight : weight (does (upper_plan (text (twos 64) ∷ []))) ≡ 1
upper_weight = refl

digits : does (isdigit_plan (text (codes "0129") ∷ [])) ≡ answers [] (truth true)
digits = refl

no_digits : does (isdigit_plan (text [] ∷ [])) ≡ answers [] (truth false)
no_digits = refl

padded_behind : does (ljust_plan (text (195 ∷ 169 ∷ []) ∷ int (pos 3) ∷ [])) ≡ answers (counted 3 ∷ []) (text (195 ∷ 169 ∷ 32 ∷ 32 ∷ []))
padded_behind = refl

padded_before : does (rjust_plan (text (codes "80") ∷ int (pos 6) ∷ [])) ≡ answers (counted 6 ∷ []) (text (codes "    80"))
padded_before = refl

wide_enough : does (ljust_plan (text (codes "abc") ∷ int (negsuc 0) ∷ [])) ≡ answers (counted 3 ∷ []) (text (codes "abc"))
wide_enough = refl

no_width : does (rjust_plan (text (codes "a") ∷ text (codes "b") ∷ [])) ≡ faults 9 (codes "wrong kind of value")
no_width = refl

-- ---- more of white space, pieces and digits
-- all six kinds are stripped, and no other
stripped_of_all : does (strip_plan (text (32 ∷ 9 ∷ 10 ∷ 97 ∷ 11 ∷ 12 ∷ 13 ∷ []) ∷ [])) ≡ answers (counted 7 ∷ counted 1 ∷ []) (text (codes "a"))
stripped_of_all = refl

not_stripped : does (strip_plan (text (8 ∷ 97 ∷ 14 ∷ []) ∷ [])) ≡ answers (counted 3 ∷ counted 3 ∷ []) (text (8 ∷ 97 ∷ 14 ∷ []))
not_stripped = refl

nothing_left : does (rstrip_plan (text (codes "  ") ∷ [])) ≡ answers (counted 2 ∷ counted 0 ∷ []) (text [])
nothing_left = refl

split_of_nothing_at_commas : (does (split_plan (text [] ∷ text (codes ",") ∷ []))).touches
    ≡ counted 0 ∷ counted 0 ∷ all_accessed (sets (len_at 3) (len_is 1) ∷ sets (item_at 3 0) (item_is (text [])) ∷ [])
split_of_nothing_at_commas = refl

split_at_number : does (split_plan (text (codes "a1b") ∷ int (pos 1) ∷ [])) ≡ faults 9 (codes "wrong kind of value")
split_at_number = refl

split_of_three : does (split_plan (text (codes "a") ∷ text (codes ",") ∷ int (pos 1) ∷ [])) ≡ faults 9 (codes "wrong number of arguments")
split_of_three = refl

-- a text is joined by its characters
joined_characters : does (join_plan (text (codes "-") ∷ text (195 ∷ 169 ∷ 98 ∷ []) ∷ [])) ≡ answers (counted 2 ∷ counted 3 ∷ []) (text (195 ∷ 169 ∷ 45 ∷ 98 ∷ []))
joined_characters = refl

joined_one : does (join_plan (text (codes ", ") ∷ tuple (parts_of (text (codes "a") ∷ [])) ∷ [])) ≡ answers (looked 1 ∷ counted 1 ∷ []) (text (codes "a"))
joined_one = refl

replaced_in_nothing : does (replace_plan (text [] ∷ text (codes "a") ∷ text (codes "b") ∷ [])) ≡ answers (counted 0 ∷ counted 0 ∷ []) (text [])
replaced_in_nothing = refl

-- the kinds are tested first
replaced_by_number : does (replace_plan (text (codes "a") ∷ text [] ∷ int (pos 1) ∷ [])) ≡ faults 9 (codes "wrong kind of value")
replaced_by_number = refl

found_empty_first : does (find_plan (text (codes "abc") ∷ text [] ∷ [])) ≡ answers (counted 3 ∷ []) (int (pos 0))
found_empty_first = refl

begins_in_nothing : does (startswith_plan (text (codes "bca") ∷ text (codes "ca") ∷ [])) ≡ answers (counted 3 ∷ []) (truth false)
begins_in_nothing = refl

ends_with_nothing : does (endswith_plan (text (codes "a") ∷ text [] ∷ [])) ≡ answers (counted 1 ∷ []) (truth true)
ends_with_nothing = refl

slash_is_no_digit : does (isdigit_plan (text (codes "1/") ∷ [])) ≡ answers [] (truth false)
slash_is_no_digit = refl

colon_is_no_digit : does (isdigit_plan (text (codes ":1") ∷ [])) ≡ answers [] (truth false)
colon_is_no_digit = refl

width_of_true : does (ljust_plan (text [] ∷ truth true ∷ [])) ≡ answers (counted 1 ∷ []) (text (codes " "))
width_of_true = refl

-- pieces count their characters
split_of_twos : (does (split_plan (text (195 ∷ 169 ∷ 44 ∷ 195 ∷ 169 ∷ []) ∷ text (codes ",") ∷ []))).touches
    ≡ counted 3 ∷ counted 2 ∷ all_accessed (sets (len_at 3) (len_is 2) ∷ sets (item_at 3 0) (item_is (text (195 ∷ 169 ∷ []))) ∷ sets (item_at 3 1) (item_is (text (195 ∷ 169 ∷ []))) ∷ [])
split_of_twos = refl
