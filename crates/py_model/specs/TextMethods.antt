-- The methods of texts (The Python Standard Library, "String Methods", in this project's profile): each as the plan of the text and
-- then the arguments. Characters count of every text that is made, and of one that is searched or stripped. Letters and digits are
-- those of ASCII.
use Rattle.std.specs.Prelude.{ℕ, ◌+◌, ◌-◌, ℤ, pos, negsuc, List, [], ◌∷◌, ◌++◌, map, Option, Some, None, take, codes}
use Rattle.py_value.specs.Contents.{Contents, int, text}
use Rattle.py_model.specs.Faults.{fault, value_error, wrong_number, not_there}
use Rattle.py_model.specs.Making.{new_list}
use Rattle.py_model.specs.Numbers.{times}
use Rattle.py_model.specs.Operands.{gives, gives_truth, gives_text, with_number, with_text, of_one, of_two}
use Rattle.py_model.specs.Plan.{Plan, counts}
use Rattle.py_model.specs.Texts.{size, begins_with, ends_with, place_of, pieces, joined_by, without_white_front, without_white_back, without_white, words_of, all_digits, upper_of, lower_of, spaces}
use Rattle.py_model.specs.Walks.{walk}

-- the text and the text that it is given
abbrev pub with_texts : (List ℕ → List ℕ → Plan) → Contents → Contents → Plan
with_texts plan v w = with_text v (λ bytes. with_text w (λ other. plan bytes other))

-- the text is searched or stripped, so its characters count
abbrev pub searched : List ℕ → Plan → Plan
searched bytes next = counts (size bytes) next

-- a new list of texts that are made; their characters count together
abbrev pub total_size : List (List ℕ) → ℕ
total_size [] = 0
total_size (bytes ∷ rest) = size bytes + total_size rest

abbrev pub gives_texts : List (List ℕ) → Plan
gives_texts all = counts (total_size all) (new_list (map text all))

-- ---- white space at the ends

abbrev pub stripped_by : (List ℕ → List ℕ) → List Contents → Plan
stripped_by without operands = of_one (λ v. with_text v (λ bytes. searched bytes (gives_text (without bytes)))) operands

-- `strip`, `lstrip` and `rstrip`: the text without the white space at both ends, at its start, at its end.
abbrev pub strip_plan : List Contents → Plan
strip_plan operands = stripped_by without_white operands

abbrev pub lstrip_plan : List Contents → Plan
lstrip_plan operands = stripped_by without_white_front operands

abbrev pub rstrip_plan : List Contents → Plan
rstrip_plan operands = stripped_by without_white_back operands

-- ---- pieces

-- `split`: a new list of the words between runs of white space, or of the pieces between a separator, which is not empty.
abbrev pub split_by : List ℕ → List ℕ → Plan
split_by bytes [] = fault value_error (codes "empty or zero")
split_by bytes (byte ∷ more) = searched bytes (gives_texts (pieces (byte ∷ more) bytes))

abbrev pub split_plan : List Contents → Plan
split_plan (v ∷ []) = with_text v (λ bytes. searched bytes (gives_texts (words_of bytes)))
split_plan operands = of_two (with_texts split_by) operands

-- `join` walks a sequence, tests that all items are texts, and gives them with the text between them.
abbrev pub texts_in : List Contents → (List (List ℕ) → Plan) → Plan
texts_in [] go = go []
texts_in (item ∷ items) go = with_text item (λ bytes. texts_in items (λ more. go (bytes ∷ more)))

abbrev pub join_plan : List Contents → Plan
join_plan operands = of_two (λ v w. with_text v (λ separator. walk w (λ items. texts_in items (λ all. gives_text (joined_by separator all))))) operands

-- `replace`: what stands in the place of each piece that is found, from the left; an empty one is not in this profile.
abbrev pub replaced : List ℕ → List ℕ → List ℕ → Plan
replaced bytes [] other = not_there
replaced bytes (byte ∷ more) other = searched bytes (gives_text (joined_by other (pieces (byte ∷ more) bytes)))

abbrev pub replace_plan : List Contents → Plan
replace_plan (v ∷ w ∷ u ∷ []) = with_text v (λ bytes. with_text w (λ sought. with_text u (λ other. replaced bytes sought other)))
replace_plan other = wrong_number

-- ---- searches

-- `find`: how many characters stand before the first that is found, or -1.
abbrev pub find_plan : List Contents → Plan
find_plan operands = of_two (with_texts (λ bytes sought. searched bytes (gives (int (characters_before bytes (place_of bytes sought)))))) operands
  where
    characters_before : List ℕ → Option ℕ → ℤ
    characters_before bytes (Some n) = pos (size (take n bytes))
    characters_before bytes None = negsuc 0

-- `startswith` and `endswith`: whether the text begins, or ends, with another.
abbrev pub startswith_plan : List Contents → Plan
startswith_plan operands = of_two (with_texts (λ bytes sought. searched bytes (gives_truth (begins_with bytes sought)))) operands

abbrev pub endswith_plan : List Contents → Plan
endswith_plan operands = of_two (with_texts (λ bytes sought. searched bytes (gives_truth (ends_with bytes sought)))) operands

-- ---- letters, digits, width

-- `upper` and `lower`: the text with its letters in the other case.
abbrev pub upper_plan : List Contents → Plan
upper_plan operands = of_one (λ v. with_text v (λ bytes. gives_text (map upper_of bytes))) operands

abbrev pub lower_plan : List Contents → Plan
lower_plan operands = of_one (λ v. with_text v (λ bytes. gives_text (map lower_of bytes))) operands

-- `isdigit`: the text is not empty and all of it digits; nothing is counted.
abbrev pub isdigit_plan : List Contents → Plan
isdigit_plan operands = of_one (λ v. with_text v (λ bytes. gives_truth (all_digits bytes))) operands

-- `ljust` and `rjust`: the text with spaces behind it, or before it, up to so many characters.
abbrev pub padded_by : (List ℕ → List ℕ → List ℕ) → List Contents → Plan
padded_by with_spaces operands = of_two (λ v w. with_text v (λ bytes. with_number w (λ width. gives_text (with_spaces bytes (spaces (times width - size bytes)))))) operands

abbrev pub ljust_plan : List Contents → Plan
ljust_plan operands = padded_by (λ bytes blanks. bytes ++ blanks) operands

abbrev pub rjust_plan : List Contents → Plan
rjust_plan operands = padded_by (λ bytes blanks. blanks ++ bytes) operands
