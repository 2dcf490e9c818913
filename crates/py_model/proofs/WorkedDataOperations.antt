-- That each operation on numbers, texts, lists and dictionaries stands at its number: worked rows that tell it from its neighbours.
use Rattle.std.proofs.Common.{◌≡◌, [], ◌∷◌, Some, None, codes, length, refl}
use Rattle.std.specs.Prelude.{true, false, Option, pos, negsuc}
use Rattle.std.specs.Char.{encode_utf8}
use Rattle.std.specs.Str.{chars}
use Rattle.py_value.specs.Contents.{nothing, truth, int, text, tuple, range, object, no_parts, part, exception_class}
use Rattle.py_value.specs.Seen.{a_dict, an_instance}
use Rattle.py_model.specs.Dicts.{dict_display}
use Rattle.py_model.specs.Effect.{Answers, Effect, Outcome, effect, answered}
use Rattle.py_model.specs.Lists.{list_display}
use Rattle.py_model.specs.Operations.{plan, language, functions, methods}
use Rattle.py_model.specs.Plan.{value, random_word}
use Rattle.py_model.specs.Store.{RunStore, empty}
use Rattle.py_model.proofs.WorkedStores.{then_store, list_in}
use Rattle.py_value.specs.Contents.{Contents}
use Rattle.std.proofs.Common.{ℕ, List}

abbrev pub seven : Answers
seven = record { given = λ what. Some (random_word 7); found = λ path. None }

abbrev pub does : ℕ → Contents → List Contents → Effect
does number v values = effect empty seven (plan (record { no = number; scope = 0; name = []; value = v }) values)

all_of_the_language : length language ≡ 48
all_of_the_language = refl

all_functions : length functions ≡ 22
all_functions = refl

all_methods : length methods ≡ 32
all_methods = refl

const : (does 0 (int (pos 5)) []).outcome ≡ answered (value (int (pos 5)))
const = refl

floordiv : (does 10 nothing (int (pos 7) ∷ int (negsuc 1) ∷ [])).outcome ≡ answered (value (int (negsuc 3)))
floordiv = refl

modulo : (does 11 nothing (int (pos 7) ∷ int (negsuc 1) ∷ [])).outcome ≡ answered (value (int (negsuc 0)))
modulo = refl

failed_assert : (does 47 nothing []).made ≡ Some (an_instance (exception_class 18))
failed_assert = refl

gap : (does 48 nothing []).made ≡ Some (an_instance (exception_class 9))
gap = refl

abs : (does 50 nothing (int (negsuc 4) ∷ [])).outcome ≡ answered (value (int (pos 5)))
abs = refl

len : (does 58 nothing (text (codes "ab") ∷ [])).outcome ≡ answered (value (int (pos 2)))
len = refl

sum : (does 69 nothing (text (codes "a") ∷ [])).made ≡ Some (an_instance (exception_class 9))
sum = refl

upper : (does 100 nothing (text (codes "ab") ∷ [])).outcome ≡ answered (value (text (codes "AB")))
upper = refl

ljust : (does 103 nothing (text (codes "ab") ∷ int (pos 4) ∷ [])).outcome ≡ answered (value (text (codes "ab  ")))
ljust = refl

randrange : (does 111 nothing (nothing ∷ int (pos 5) ∷ [])).outcome ≡ answered (value (int (pos 2)))
randrange = refl

-- ---- each operator, function and method by an answer that no neighbour gives
abbrev pub gives_for : ℕ → List Contents → Outcome
gives_for number values = (does number nothing values).outcome

abbrev pub is_value : Contents → Outcome
is_value v = answered (value v)

abbrev pub n : ℕ → Contents
n k = int (pos k)

abbrev pub letters : List ℕ → Contents
letters bytes = text bytes

truth_of_one : gives_for 3 (n 1 ∷ []) ≡ is_value (truth true)
truth_of_one = refl

not_one : gives_for 4 (n 1 ∷ []) ≡ is_value (truth false)
not_one = refl

minus_one : gives_for 5 (n 1 ∷ []) ≡ is_value (int (negsuc 0))
minus_one = refl

plus_one : gives_for 6 (n 1 ∷ []) ≡ is_value (n 1)
plus_one = refl

sum_of_two : gives_for 7 (n 7 ∷ n 2 ∷ []) ≡ is_value (n 9)
sum_of_two = refl

difference : gives_for 8 (n 7 ∷ n 2 ∷ []) ≡ is_value (n 5)
difference = refl

product : gives_for 9 (n 7 ∷ n 2 ∷ []) ≡ is_value (n 14)
product = refl

equal : gives_for 12 (n 1 ∷ n 1 ∷ []) ≡ is_value (truth true)
equal = refl

unequal : gives_for 13 (n 1 ∷ n 1 ∷ []) ≡ is_value (truth false)
unequal = refl

less_than : gives_for 14 (n 1 ∷ n 2 ∷ []) ≡ is_value (truth true)
less_than = refl

not_less_than : gives_for 14 (n 1 ∷ n 1 ∷ []) ≡ is_value (truth false)
not_less_than = refl

at_most : gives_for 15 (n 1 ∷ n 1 ∷ []) ≡ is_value (truth true)
at_most = refl

not_at_most : gives_for 15 (n 2 ∷ n 1 ∷ []) ≡ is_value (truth false)
not_at_most = refl

more_than : gives_for 16 (n 2 ∷ n 1 ∷ []) ≡ is_value (truth true)
more_than = refl

not_more_than : gives_for 16 (n 1 ∷ n 1 ∷ []) ≡ is_value (truth false)
not_more_than = refl

at_least : gives_for 17 (n 1 ∷ n 1 ∷ []) ≡ is_value (truth true)
at_least = refl

not_at_least : gives_for 17 (n 1 ∷ n 2 ∷ []) ≡ is_value (truth false)
not_at_least = refl

is_in : gives_for 18 (letters (codes "a") ∷ letters (codes "ab") ∷ []) ≡ is_value (truth true)
is_in = refl

is_not_in : gives_for 19 (letters (codes "a") ∷ letters (codes "ab") ∷ []) ≡ is_value (truth false)
is_not_in = refl

is_one : gives_for 20 (nothing ∷ nothing ∷ []) ≡ is_value (truth true)
is_one = refl

is_not_one : gives_for 21 (nothing ∷ nothing ∷ []) ≡ is_value (truth false)
is_not_one = refl

chr : gives_for 52 (n 97 ∷ []) ≡ is_value (letters (codes "a"))
unfolding encode_utf8
chr = refl

int_of_text : gives_for 56 (letters (codes "5") ∷ []) ≡ is_value (n 5)
int_of_text = refl

largest : gives_for 60 (n 1 ∷ n 2 ∷ []) ≡ is_value (n 2)
largest = refl

smallest : gives_for 61 (n 1 ∷ n 2 ∷ []) ≡ is_value (n 1)
smallest = refl

ord : gives_for 63 (letters (codes "a") ∷ []) ≡ is_value (n 97)
unfolding chars
ord = refl

literal : gives_for 66 (letters (codes "a") ∷ []) ≡ is_value (letters (codes "'a'"))
literal = refl

itself : gives_for 68 (letters (codes "a") ∷ []) ≡ is_value (letters (codes "a"))
itself = refl

strip : gives_for 91 (letters (codes " a ") ∷ []) ≡ is_value (letters (codes "a"))
strip = refl

lstrip : gives_for 92 (letters (codes " a ") ∷ []) ≡ is_value (letters (codes "a "))
lstrip = refl

rstrip : gives_for 93 (letters (codes " a ") ∷ []) ≡ is_value (letters (codes " a"))
rstrip = refl

find : gives_for 97 (letters (codes "ab") ∷ letters (codes "b") ∷ []) ≡ is_value (n 1)
find = refl

startswith : gives_for 98 (letters (codes "ab") ∷ letters (codes "a") ∷ []) ≡ is_value (truth true)
startswith = refl

endswith : gives_for 99 (letters (codes "ab") ∷ letters (codes "a") ∷ []) ≡ is_value (truth false)
endswith = refl

lower : gives_for 101 (letters (codes "aB") ∷ []) ≡ is_value (letters (codes "ab"))
lower = refl

isdigit : gives_for 102 (letters (codes "1") ∷ []) ≡ is_value (truth true)
isdigit = refl

rjust : gives_for 104 (letters (codes "ab") ∷ n 4 ∷ []) ≡ is_value (letters (codes "  ab"))
rjust = refl

-- object 0 is `[2, 1, 3]`, object 1 is `{'a': 5}`; the items of a list after an operation
abbrev pub stored : RunStore
stored = then_store (dict_display (letters (codes "a") ∷ n 5 ∷ [])) (then_store (list_display (n 2 ∷ n 1 ∷ n 3 ∷ [])) empty)

abbrev pub list_after : ℕ → ℕ → List Contents → List (Option Contents)
list_after o number values = list_in (then_store (plan (record { no = number; scope = 0; name = []; value = nothing }) values) stored) o

appended : list_after 0 80 (object 0 ∷ n 9 ∷ []) ≡ Some (n 2) ∷ Some (n 1) ∷ Some (n 3) ∷ Some (n 9) ∷ []
appended = refl

extended : list_after 0 81 (object 0 ∷ tuple (part (n 9) no_parts) ∷ []) ≡ Some (n 2) ∷ Some (n 1) ∷ Some (n 3) ∷ Some (n 9) ∷ []
extended = refl

inserted : list_after 0 82 (object 0 ∷ n 1 ∷ n 9 ∷ []) ≡ Some (n 2) ∷ Some (n 9) ∷ Some (n 1) ∷ Some (n 3) ∷ []
inserted = refl

popped : list_after 0 83 (object 0 ∷ n 0 ∷ []) ≡ Some (n 1) ∷ Some (n 3) ∷ []
popped = refl

reversed : list_after 0 85 (object 0 ∷ []) ≡ Some (n 3) ∷ Some (n 1) ∷ Some (n 2) ∷ []
reversed = refl

sorted : list_after 0 86 (object 0 ∷ []) ≡ Some (n 1) ∷ Some (n 2) ∷ Some (n 3) ∷ []
sorted = refl

items : list_after 2 88 (object 1 ∷ []) ≡ Some (tuple (part (letters (codes "a")) (part (n 5) no_parts))) ∷ []
items = refl

keys : list_after 2 89 (object 1 ∷ []) ≡ Some (letters (codes "a")) ∷ []
keys = refl

values : list_after 2 90 (object 1 ∷ []) ≡ Some (n 5) ∷ []
values = refl

sorted_list : list_after 2 67 (object 0 ∷ []) ≡ Some (n 1) ∷ Some (n 2) ∷ Some (n 3) ∷ []
sorted_list = refl

listed : list_after 2 59 (object 0 ∷ []) ≡ Some (n 2) ∷ Some (n 1) ∷ Some (n 3) ∷ []
listed = refl

-- what an operation answers where these objects stand
abbrev pub gives_there : ℕ → List Contents → Outcome
gives_there number values = (effect stored seven (plan (record { no = number; scope = 0; name = []; value = nothing }) values)).outcome

added_to : list_after 0 22 (object 0 ∷ tuple (part (n 9) no_parts) ∷ []) ≡ Some (n 2) ∷ Some (n 1) ∷ Some (n 3) ∷ Some (n 9) ∷ []
added_to = refl

list_of_one : list_after 2 23 (n 9 ∷ []) ≡ Some (n 9) ∷ []
list_of_one = refl

dict_of_none : (does 24 nothing []).made ≡ Some a_dict
dict_of_none = refl

tuple_of_one : gives_for 25 (n 9 ∷ []) ≡ is_value (tuple (part (n 9) no_parts))
tuple_of_one = refl

item : gives_for 26 (letters (codes "ab") ∷ n 1 ∷ []) ≡ is_value (letters (codes "b"))
item = refl

slice_of_text : gives_for 27 (letters (codes "ab") ∷ nothing ∷ n 1 ∷ []) ≡ is_value (letters (codes "a"))
slice_of_text = refl

item_set : list_after 0 28 (object 0 ∷ n 0 ∷ n 9 ∷ []) ≡ Some (n 9) ∷ Some (n 1) ∷ Some (n 3) ∷ []
item_set = refl

item_deleted : list_after 0 29 (object 0 ∷ n 0 ∷ []) ≡ Some (n 1) ∷ Some (n 3) ∷ []
item_deleted = refl

taken_apart : (does 35 (n 1) (tuple (part (n 9) no_parts) ∷ [])).outcome ≡ is_value (tuple (part (n 9) no_parts))
taken_apart = refl

begun : gives_there 36 (object 1 ∷ []) ≡ is_value (n 1)
begun = refl

second_turn : gives_for 37 (letters (codes "ab") ∷ n 1 ∷ nothing ∷ []) ≡ is_value (letters (codes "b"))
second_turn = refl

truth_of_two : gives_for 51 (n 2 ∷ []) ≡ is_value (truth true)
truth_of_two = refl

new_dict : (does 53 nothing []).made ≡ Some a_dict
new_dict = refl

numbered : list_after 2 54 (letters (codes "a") ∷ []) ≡ Some (tuple (part (n 0) (part (letters (codes "a")) no_parts))) ∷ []
numbered = refl

range_to : gives_for 65 (n 3 ∷ []) ≡ is_value (range (pos 0) (pos 3) (pos 1))
range_to = refl

total : gives_there 69 (object 0 ∷ []) ≡ is_value (n 6)
total = refl

tuple_of_text : gives_for 70 (letters (codes "a") ∷ []) ≡ is_value (tuple (part (letters (codes "a")) no_parts))
tuple_of_text = refl

zipped : list_after 2 71 (letters (codes "a") ∷ letters (codes "b") ∷ []) ≡ Some (tuple (part (letters (codes "a")) (part (letters (codes "b")) no_parts))) ∷ []
zipped = refl

index : gives_there 84 (object 0 ∷ n 1 ∷ []) ≡ is_value (n 1)
index = refl

get : gives_there 87 (object 1 ∷ letters (codes "a") ∷ []) ≡ is_value (n 5)
get = refl

split : list_after 2 94 (letters (codes "a b") ∷ []) ≡ Some (letters (codes "a")) ∷ Some (letters (codes "b")) ∷ []
split = refl

join : gives_for 95 (letters (codes "-") ∷ letters (codes "ab") ∷ []) ≡ is_value (letters (codes "a-b"))
join = refl

replace : gives_for 96 (letters (codes "ab") ∷ letters (codes "a") ∷ letters (codes "c") ∷ []) ≡ is_value (letters (codes "cb"))
replace = refl
