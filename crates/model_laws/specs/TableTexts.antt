-- No public clause cites this file.
-- The table of operations on texts (The Python Standard Library, "Text Sequence Type", in this project's profile): each over the characters
-- of the text, or its bytes where these say the same. White space, letters and digits are those of ASCII.
use Rattle.std.specs.Prelude.{ℕ, ◌-◌, ℤ, pos, negsuc, List, [], ◌∷◌, ◌++◌, map, slice_get, take, drop, Option, Some, None, is_some, codes, not, encode_utf8, unwrap_or}
use Rattle.py_value.specs.Contents.{truth, int, text}
use Rattle.py_model.specs.Arithmetic.{repeated}
use Rattle.py_model.specs.Faults.{value_error, not_implemented}
use Rattle.py_model.specs.Numbers.{times}
use Rattle.py_model.specs.Places.{place_in, low_bound, high_bound}
use Rattle.py_model.specs.Texts.{characters, size, joined, begins_with, ends_with, place_of, pieces, joined_by, without_white_front, without_white_back, without_white, words_of, all_digits, upper_of, lower_of, spaces}
use Rattle.model_laws.specs.Results.{Result, gives, makes_list, throws}
use Rattle.model_laws.specs.TableLists.{at_place, number_or_overflow}

-- 26 getitem: the character at the place
abbrev pub getitem_is : List ℕ → ℤ → Result (Unit {0})
getitem_is bytes i = at_place (place_in i (size bytes)) (λ p. gives (text (unwrap_or (slice_get (characters bytes) p) [])))

-- 27 slice: the characters from one bound to the other
abbrev pub slice_is : List ℕ → Option ℤ → Option ℤ → Result (Unit {0})
slice_is bytes low high =
    let n = size bytes in
    gives (text (joined (take (high_bound high n - low_bound low n) (drop (low_bound low n) (characters bytes)))))

-- 7 add: the one and then the other
abbrev pub add_is : List ℕ → List ℕ → Result (Unit {0})
add_is one other = gives (text (one ++ other))

-- 9 mul: the text so many times
abbrev pub mul_is : List ℕ → ℕ → Result (Unit {0})
mul_is bytes n = gives (text (repeated n bytes))

-- 18 in: whether the one stands in the other
abbrev pub in_is : List ℕ → List ℕ → Result (Unit {0})
in_is sought bytes = gives (truth (is_some (place_of bytes sought)))

-- 19 not in: whether it does not
abbrev pub not_in_is : List ℕ → List ℕ → Result (Unit {0})
not_in_is sought bytes = gives (truth (not (is_some (place_of bytes sought))))

-- 58 len: how many characters
abbrev pub len_is : List ℕ → Result (Unit {0})
len_is bytes = number_or_overflow (pos (size bytes)) tt

-- 91 strip, 92 lstrip, 93 rstrip: without the white space at both ends, at the start, at the end
abbrev pub strip_is : List ℕ → Result (Unit {0})
strip_is bytes = gives (text (without_white bytes))

abbrev pub lstrip_is : List ℕ → Result (Unit {0})
lstrip_is bytes = gives (text (without_white_front bytes))

abbrev pub rstrip_is : List ℕ → Result (Unit {0})
rstrip_is bytes = gives (text (without_white_back bytes))

-- 94 split (S Len, S Items): a new list of the words, or of the pieces between a separator, which is not empty
abbrev pub split_is : List ℕ → Result (Unit {0})
split_is bytes = makes_list (map text (words_of bytes))

abbrev pub split_by_is : List ℕ → List ℕ → Result (Unit {0})
split_by_is bytes [] = throws value_error (text (codes "empty or zero") ∷ [])
split_by_is bytes separator = makes_list (map text (pieces separator bytes))

-- 95 join (walk): the texts of the sequence with this one between them
abbrev pub join_is : List ℕ → List (List ℕ) → Result (Unit {0})
join_is separator all = gives (text (joined_by separator all))

-- 96 replace: the pieces between the text that is sought, which is not empty, with the other between them
abbrev pub replace_is : List ℕ → List ℕ → List ℕ → Result (Unit {0})
replace_is bytes [] other = throws not_implemented (text (codes "not in this profile") ∷ [])
replace_is bytes sought other = gives (text (joined_by other (pieces sought bytes)))

-- 97 find: how many characters stand before the first that is found, or -1
abbrev pub find_is : List ℕ → List ℕ → Result (Unit {0})
find_is bytes sought = by_place (place_of bytes sought)
  where
    by_place : Option ℕ → Result (Unit {0})
    by_place (Some n) = gives (int (pos (size (take n bytes))))
    by_place None = gives (int (negsuc 0))

-- 98 startswith, 99 endswith
abbrev pub startswith_is : List ℕ → List ℕ → Result (Unit {0})
startswith_is bytes sought = gives (truth (begins_with bytes sought))

abbrev pub endswith_is : List ℕ → List ℕ → Result (Unit {0})
endswith_is bytes sought = gives (truth (ends_with bytes sought))

-- 100 upper, 101 lower: each letter in the other case
abbrev pub upper_is : List ℕ → Result (Unit {0})
upper_is bytes = gives (text (map upper_of bytes))

abbrev pub lower_is : List ℕ → Result (Unit {0})
lower_is bytes = gives (text (map lower_of bytes))

-- 102 isdigit: it is not empty and all of it digits
abbrev pub isdigit_is : List ℕ → Result (Unit {0})
isdigit_is bytes = gives (truth (all_digits bytes))

-- 103 ljust, 104 rjust: with spaces behind it, or before it, up to so many characters
abbrev pub ljust_is : List ℕ → ℤ → Result (Unit {0})
ljust_is bytes width = gives (text (bytes ++ spaces (times width - size bytes)))

abbrev pub rjust_is : List ℕ → ℤ → Result (Unit {0})
rjust_is bytes width = gives (text (spaces (times width - size bytes) ++ bytes))

-- 52 chr: the character with this code; 63 ord of that text: the code
abbrev pub chr_is : ℕ → Result (Unit {0})
chr_is code = gives (text (encode_utf8 code))

abbrev pub ord_is : ℕ → Result (Unit {0})
ord_is code = gives (int (pos code))
