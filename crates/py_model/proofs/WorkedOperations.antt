-- That each operation stands at its number: worked rows of the first and the last of each kind, and of those beside a gap.
use Rattle.std.proofs.Common.{◌≡◌, [], ◌∷◌, Option, Some, None, codes, length, refl}
use Rattle.std.specs.Prelude.{pos, negsuc, true, false, map}
use Rattle.std.specs.Str.{chars, is_utf8}
use Rattle.prov_base.specs.declared.place.Pos.{Pos}
use Rattle.py_value.specs.declared.access.Mode.TheVariants.{Read, Write}
use Rattle.py_value.specs.Contents.{Contents, nothing, truth, int, text, tuple, range, function, class, exception_class, builtin, object, no_parts, part}
use Rattle.py_value.specs.Same.{put}
use Rattle.py_value.specs.Seen.{SeenAccess, a_list, a_dict, an_instance, a_file, var_at, len_at, item_at, entry_at, order_at, file_at, closed_at, method_at, base_at, var_is, len_is, item_is, entry_is, order_is, file_is, closed_is, method_is, base_is, sets}
use Rattle.py_model.specs.Effect.{Answers, Effect, Outcome, effect, answered, accesses_in, after}
use Rattle.py_model.specs.Operations.{plan, language, functions, methods}
use Rattle.py_model.specs.Plan.{value, raised, random_word}
use Rattle.py_model.specs.Store.{RunStore, empty}
use Rattle.py_model.proofs.WorkedStores.{list_in}
use Rattle.std.proofs.Common.{ℕ, List}

abbrev pub seven : Answers
seven = record { given = λ what. Some (random_word 7); found = λ path. None }

abbrev pub does : ℕ → Contents → List Contents → Effect
does number v values = effect empty seven (plan (record { no = number; scope = 0; name = []; value = v }) values)

all_of_the_language : length language ≡ 48
all_of_the_language = refl

all_functions : length functions ≡ 22
all_functions = refl

all_methods : length methods ≡ 32
all_methods = refl

const : (does 0 (int (pos 5)) []).outcome ≡ answered (value (int (pos 5)))
const = refl

floordiv : (does 10 nothing (int (pos 7) ∷ int (negsuc 1) ∷ [])).outcome ≡ answered (value (int (negsuc 3)))
floordiv = refl

modulo : (does 11 nothing (int (pos 7) ∷ int (negsuc 1) ∷ [])).outcome ≡ answered (value (int (negsuc 0)))
modulo = refl

failed_assert : (does 47 nothing []).made ≡ Some (an_instance (exception_class 18))
failed_assert = refl

gap : (does 48 nothing []).made ≡ Some (an_instance (exception_class 9))
gap = refl

abs : (does 50 nothing (int (negsuc 4) ∷ [])).outcome ≡ answered (value (int (pos 5)))
abs = refl

len : (does 58 nothing (text (codes "ab") ∷ [])).outcome ≡ answered (value (int (pos 2)))
len = refl

sum : (does 69 nothing (text (codes "a") ∷ [])).made ≡ Some (an_instance (exception_class 9))
sum = refl

upper : (does 100 nothing (text (codes "ab") ∷ [])).outcome ≡ answered (value (text (codes "AB")))
upper = refl

ljust : (does 103 nothing (text (codes "ab") ∷ int (pos 4) ∷ [])).outcome ≡ answered (value (text (codes "ab  ")))
ljust = refl

randrange : (does 111 nothing (nothing ∷ int (pos 5) ∷ [])).outcome ≡ answered (value (int (pos 2)))
randrange = refl

-- Neighbours that a slip would exchange: what operations with these numbers answer to the same operands.
abbrev pub outcomes : List ℕ → List Contents → List Outcome
outcomes numbers values = map (λ number. (does number nothing values).outcome) numbers

abbrev pub gives : Contents → Outcome
gives v = answered (value v)

abbrev pub yes : Outcome
yes = gives (truth true)

abbrev pub no : Outcome
no = gives (truth false)

abbrev pub whole : ℕ → Contents
whole n = int (pos n)

truths : outcomes (2 ∷ 3 ∷ 4 ∷ 6 ∷ 5 ∷ []) (whole 2 ∷ []) ≡ gives (whole 2) ∷ yes ∷ no ∷ gives (whole 2) ∷ gives (int (negsuc 1)) ∷ []
truths = refl

arithmetic : outcomes (7 ∷ 8 ∷ 9 ∷ 10 ∷ 11 ∷ 22 ∷ []) (whole 7 ∷ whole 2 ∷ []) ≡ gives (whole 9) ∷ gives (whole 5) ∷ gives (whole 14) ∷ gives (whole 3) ∷ gives (whole 1) ∷ gives (whole 9) ∷ []
arithmetic = refl

smaller : outcomes (12 ∷ 13 ∷ 14 ∷ 15 ∷ 16 ∷ 17 ∷ []) (whole 1 ∷ whole 2 ∷ []) ≡ no ∷ yes ∷ yes ∷ yes ∷ no ∷ no ∷ []
smaller = refl

equal : outcomes (12 ∷ 13 ∷ 14 ∷ 15 ∷ 16 ∷ 17 ∷ []) (whole 1 ∷ whole 1 ∷ []) ≡ yes ∷ no ∷ no ∷ yes ∷ no ∷ yes ∷ []
equal = refl

membership : outcomes (18 ∷ 19 ∷ []) (whole 1 ∷ tuple (part (whole 1) no_parts) ∷ []) ≡ yes ∷ no ∷ []
membership = refl

identity : outcomes (20 ∷ 21 ∷ []) (nothing ∷ nothing ∷ []) ≡ yes ∷ no ∷ []
identity = refl

displays : map (λ number. (does number nothing []).made) (23 ∷ 24 ∷ 25 ∷ []) ≡ Some a_list ∷ Some a_dict ∷ None ∷ []
displays = refl

part_of_tuple : outcomes (26 ∷ []) (tuple (part (whole 5) no_parts) ∷ whole 0 ∷ []) ≡ gives (whole 5) ∷ []
part_of_tuple = refl

slice_of_tuple : outcomes (27 ∷ []) (tuple (part (whole 5) no_parts) ∷ nothing ∷ nothing ∷ []) ≡ gives (tuple (part (whole 5) no_parts)) ∷ []
slice_of_tuple = refl

made_exceptions : map (λ number. (does number nothing (exception_class 4 ∷ [])).outcome) (39 ∷ 40 ∷ []) ≡ gives (object 0) ∷ answered (raised 0) ∷ []
made_exceptions = refl

matched : outcomes (41 ∷ []) (nothing ∷ exception_class 4 ∷ []) ≡ no ∷ []
matched = refl

of_a_pair : outcomes (60 ∷ 61 ∷ 57 ∷ []) (whole 1 ∷ builtin 6 ∷ []) ≡ answered (raised 0) ∷ answered (raised 0) ∷ yes ∷ []
of_a_pair = refl

extremes : outcomes (60 ∷ 61 ∷ []) (whole 1 ∷ whole 2 ∷ []) ≡ gives (whole 2) ∷ gives (whole 1) ∷ []
extremes = refl

of_a_text : outcomes (51 ∷ 58 ∷ 63 ∷ 64 ∷ 66 ∷ 68 ∷ []) (text (codes "7") ∷ []) ≡ yes ∷ gives (whole 1) ∷ gives (whole 55) ∷ gives nothing ∷ gives (text (codes "'7'")) ∷ gives (text (codes "7")) ∷ []
unfolding chars lib.Utf8.encode
of_a_text = refl

of_a_number : outcomes (50 ∷ 51 ∷ 52 ∷ 56 ∷ 65 ∷ []) (whole 65 ∷ []) ≡ gives (whole 65) ∷ yes ∷ gives (text (codes "A")) ∷ gives (whole 65) ∷ gives (range (pos 0) (pos 65) (pos 1)) ∷ []
unfolding lib.Utf8.encode
of_a_number = refl

of_a_tuple : map (λ number. (does number nothing (tuple no_parts ∷ [])).made) (54 ∷ 59 ∷ 67 ∷ 69 ∷ 70 ∷ []) ≡ Some a_list ∷ Some a_list ∷ Some a_list ∷ None ∷ None ∷ []
of_a_tuple = refl

stripped : outcomes (91 ∷ 92 ∷ 93 ∷ 100 ∷ 101 ∷ 102 ∷ []) (text (codes " aB ") ∷ []) ≡ gives (text (codes "aB")) ∷ gives (text (codes "aB ")) ∷ gives (text (codes " aB"))
    ∷ gives (text (codes " AB ")) ∷ gives (text (codes " ab ")) ∷ no ∷ []
stripped = refl

sought : outcomes (97 ∷ 98 ∷ 99 ∷ []) (text (codes "ab") ∷ text (codes "b") ∷ []) ≡ gives (whole 1) ∷ no ∷ yes ∷ []
sought = refl

filled : outcomes (103 ∷ 104 ∷ []) (text (codes "a") ∷ whole 2 ∷ []) ≡ gives (text (codes "a ")) ∷ gives (text (codes " a")) ∷ []
filled = refl

replaced : outcomes (96 ∷ []) (text (codes "ab") ∷ text (codes "b") ∷ text (codes "c") ∷ []) ≡ gives (text (codes "ac")) ∷ []
replaced = refl

joined : outcomes (95 ∷ []) (text (codes ",") ∷ text (codes "ab") ∷ []) ≡ gives (text (codes "a,b")) ∷ []
joined = refl

-- operations that name something
abbrev pub names : ℕ → ℕ → List ℕ → Contents → List Contents → Effect
names number scope name v values = effect empty seven (plan (record { no = number; scope = scope; name = name; value = v }) values)

loaded : (names 1 0 (codes "len") nothing []).outcome ≡ gives (builtin 8)
loaded = refl

got : (names 30 0 (codes "argv") nothing (builtin 22 ∷ [])).outcome ≡ gives (object 0)
got = refl

set_on_none : (names 31 0 (codes "x") nothing (nothing ∷ nothing ∷ [])).made ≡ Some (an_instance (exception_class 11))
set_on_none = refl

found_upper : (names 32 0 (codes "upper") nothing (text [] ∷ [])).outcome ≡ gives (builtin 100)
found_upper = refl

bound : accesses_in (names 33 2 (codes "x") nothing (whole 1 ∷ [])).touches ≡ sets (var_at 2 (codes "x")) (var_is (Some (whole 1))) ∷ []
bound = refl

-- an unset name is refused, but not at the end of an `except`
unbound : (names 34 2 (codes "x") nothing []).made ≡ Some (an_instance (exception_class 8))
unbound = refl

unbound_at_end : (names 34 2 (codes "x") (truth true) []).outcome ≡ gives nothing
unbound_at_end = refl

failing_calls : map (λ reason. (does 38 (whole reason) []).made) (0 ∷ 1 ∷ 2 ∷ []) ≡ Some (an_instance (exception_class 9)) ∷ Some (an_instance (exception_class 9)) ∷ Some (an_instance (exception_class 14)) ∷ []
failing_calls = refl

abbrev pub here : Pos
here = record { line = 4; col = 1 }

defined : accesses_in (names 42 0 (codes "f") (function here) []).touches ≡ sets (var_at 0 (codes "f")) (var_is (Some (function here))) ∷ []
defined = refl

defined_in_class : accesses_in (names 42 0 (codes "f") (function here) (class (record { line = 3; col = 1 }) ∷ [])).touches ≡ sets (method_at (record { line = 3; col = 1 }) (codes "f")) (method_is here) ∷ []
defined_in_class = refl

class_begun : accesses_in (names 43 0 (codes "C") (class here) (exception_class 0 ∷ [])).touches ≡ sets (base_at here) (base_is (Some (exception_class 0))) ∷ []
class_begun = refl

imported : accesses_in (names 44 2 (codes "time") (builtin 23) []).touches ≡ sets (var_at 2 (codes "time")) (var_is (Some (builtin 23))) ∷ []
imported = refl

-- files: a closed one is closed again at the end of `with`, but not begun, read, written
abbrev pub closed_file : RunStore
closed_file = record empty { at = put (closed_at 0) (closed_is true) (λ l. None); kinds = a_file (codes "p") Read ∷ [] }

abbrev pub with_closed : ℕ → List Contents → List SeenAccess
with_closed number values = accesses_in (effect closed_file seven (plan (record { no = number; scope = 0; name = []; value = nothing }) values)).touches

closed_again : map (λ number. with_closed number (object 0 ∷ [])) (45 ∷ 108 ∷ []) ≡ (sets (closed_at 0) (closed_is true) ∷ []) ∷ (sets (closed_at 0) (closed_is true) ∷ []) ∷ []
closed_again = refl

not_begun : map (λ number. length (with_closed number (object 0 ∷ []))) (46 ∷ 105 ∷ 106 ∷ []) ≡ 3 ∷ 3 ∷ 3 ∷ []
not_begun = refl

not_written : length (with_closed 107 (object 0 ∷ text [] ∷ [])) ≡ 3
not_written = refl

-- `read` takes all of a file, `readline` a line
abbrev pub two_lines : RunStore
two_lines = record empty { at = put (file_at (codes "p")) (file_is (codes "a\nb\n")) (λ l. None); kinds = a_file (codes "p") Read ∷ [] }

lines_read : map (λ number. (effect two_lines seven (plan (record { no = number; scope = 0; name = []; value = nothing }) (object 0 ∷ []))).outcome) (105 ∷ 106 ∷ []) ≡ gives (text (codes "a\nb\n")) ∷ gives (text (codes "a\n")) ∷ []
unfolding is_utf8 chars lib.Utf8.encode
lines_read = refl

words : outcomes (110 ∷ []) (nothing ∷ whole 1 ∷ whole 6 ∷ []) ≡ gives (whole 2) ∷ []
words = refl

no_time : (does 109 nothing (nothing ∷ [])).made ≡ Some (an_instance (exception_class 15))
no_time = refl

no_line : (does 55 nothing []).made ≡ Some (an_instance (exception_class 15))
no_line = refl

opened : (does 62 nothing (text (codes "p") ∷ text (codes "w") ∷ [])).made ≡ Some (a_file (codes "p") Write)
opened = refl

-- lists and dictionaries: 0 is the list `[6, 5]`, 1 the dictionary `{5: 6}`
abbrev pub both : RunStore
both = record empty {
  at = put (len_at 0) (len_is 2) (put (item_at 0 0) (item_is (whole 6)) (put (item_at 0 1) (item_is (whole 5))
      (put (order_at 1) (order_is (whole 5 ∷ [])) (put (entry_at 1 (whole 5)) (entry_is (Some (whole 5, whole 6))) (λ l. None)))));
  kinds = a_list ∷ a_dict ∷ [];
}

-- the effect of an operation there, its outcome, and what a list then holds
abbrev pub there : ℕ → List Contents → Effect
there number values = effect both seven (plan (record { no = number; scope = 0; name = []; value = whole 2 }) values)

abbrev pub then_holds : ℕ → ℕ → List Contents → List (Option Contents)
then_holds o number values = list_in (after (there number values) both) o

abbrev pub numbers_in : List ℕ → List (Option Contents)
numbers_in numbers = map (λ n. Some (whole n)) numbers

lists_changed : map (λ number. then_holds 0 number (object 0 ∷ [])) (83 ∷ 85 ∷ 86 ∷ []) ≡ numbers_in (6 ∷ []) ∷ numbers_in (5 ∷ 6 ∷ []) ∷ numbers_in (5 ∷ 6 ∷ []) ∷ []
lists_changed = refl

popped : (there 83 (object 0 ∷ [])).outcome ≡ gives (whole 5)
popped = refl

not_reversed : length (accesses_in (there 85 (object 0 ∷ tuple no_parts ∷ [])).touches) ≡ 2
not_reversed = refl

appended : map (λ number. then_holds 0 number (object 0 ∷ tuple (part (whole 7) no_parts) ∷ [])) (80 ∷ 81 ∷ []) ≡
    (Some (whole 6) ∷ Some (whole 5) ∷ Some (tuple (part (whole 7) no_parts)) ∷ []) ∷ numbers_in (6 ∷ 5 ∷ 7 ∷ []) ∷ []
appended = refl

inserted : then_holds 0 82 (object 0 ∷ whole 0 ∷ whole 7 ∷ []) ≡ numbers_in (7 ∷ 6 ∷ 5 ∷ [])
inserted = refl

index_found : (there 84 (object 0 ∷ whole 5 ∷ [])).outcome ≡ gives (whole 1)
index_found = refl

got_of_dict : (there 87 (object 1 ∷ whole 5 ∷ [])).outcome ≡ gives (whole 6)
got_of_dict = refl

lists_of_dict : map (λ number. then_holds 2 number (object 1 ∷ [])) (88 ∷ 89 ∷ 90 ∷ []) ≡ (Some (tuple (part (whole 5) (part (whole 6) no_parts))) ∷ []) ∷ numbers_in (5 ∷ []) ∷ numbers_in (6 ∷ []) ∷ []
lists_of_dict = refl

lists_of_list : map (λ number. then_holds 2 number (object 0 ∷ [])) (59 ∷ 67 ∷ []) ≡ numbers_in (6 ∷ 5 ∷ []) ∷ numbers_in (5 ∷ 6 ∷ []) ∷ []
lists_of_list = refl

values_of_list : map (λ number. (there number (object 0 ∷ [])).outcome) (35 ∷ 36 ∷ 60 ∷ 61 ∷ 69 ∷ 70 ∷ []) ≡ gives (tuple (part (whole 6) (part (whole 5) no_parts))) ∷ gives nothing
    ∷ gives (whole 6) ∷ gives (whole 5) ∷ gives (whole 11) ∷ gives (tuple (part (whole 6) (part (whole 5) no_parts))) ∷ []
values_of_list = refl

next_of_list : (there 37 (object 0 ∷ whole 1 ∷ nothing ∷ [])).outcome ≡ gives (whole 5)
next_of_list = refl

item_set : then_holds 0 28 (object 0 ∷ whole 1 ∷ whole 7 ∷ []) ≡ numbers_in (6 ∷ 7 ∷ [])
item_set = refl

item_deleted : then_holds 0 29 (object 0 ∷ whole 0 ∷ []) ≡ numbers_in (5 ∷ [])
item_deleted = refl

added_and_extended : map (λ number. (there number (object 0 ∷ object 0 ∷ [])).outcome) (7 ∷ 22 ∷ []) ≡ gives (object 2) ∷ gives (object 0) ∷ []
added_and_extended = refl

made_dict : (there 53 []).made ≡ Some a_dict
made_dict = refl

zipped : then_holds 2 71 (object 0 ∷ object 1 ∷ []) ≡ Some (tuple (part (whole 6) (part (whole 5) no_parts))) ∷ []
zipped = refl

counted_items : then_holds 2 54 (object 1 ∷ []) ≡ Some (tuple (part (whole 0) (part (whole 5) no_parts))) ∷ []
counted_items = refl

split_text : then_holds 2 94 (text (codes "a") ∷ []) ≡ Some (text (codes "a")) ∷ []
split_text = refl
