-- Worked rows of what is printed, each found by computation.
use Rattle.std.proofs.Common.{◌≡◌, ℕ, Some, None, [], ◌∷◌, codes, refl}
use Rattle.std.specs.Prelude.{zero, suc, pos, negsuc, true, replicate, Option}
use Rattle.py_value.specs.declared.access.Mode.TheVariants.{Read as ReadMode}
use Rattle.py_value.specs.Contents.{Contents, nothing, truth, int, text, tuple, range, function, class, exception_class, builtin, object, no_parts, part}
use Rattle.py_value.specs.Same.{put}
use Rattle.py_value.specs.Seen.{SeenLocation, SeenContent, a_list, a_dict, an_instance, a_file, len_at, item_at, entry_at, order_at, base_at, len_is, item_is, entry_is, order_is, base_is, reads, sets}
use Rattle.py_model.specs.Effect.{Effect, Outcome, Answers, effect, answered, accessed, counted, looked, printed, accesses_in, weight, cost}
use Rattle.py_model.specs.Plan.{Plan, Answer, value, raised, at_end}
use Rattle.py_model.specs.Printing.{print_values, repr_of, str_of}
use Rattle.py_model.specs.Store.{RunStore, empty}
use Rattle.py_model.proofs.WorkedStores.{answers_with, raises_in, r}

-- devices and files that no row asks
abbrev pub nobody : Answers
nobody = record { given = λ what. None; found = λ path. None }

-- None inside so many tuples
abbrev pub nested : ℕ → Contents
nested zero = nothing
nested (suc n) = tuple (part (nested n) no_parts)

-- The list 1 is `[1, 'a']`, the list 2 holds itself and the dictionary 3, which is `{'a': (1,), True: {..}}` with itself inside; 4 is a
-- KeyError of 'k', 5 an instance of the class at 3:1, 6 an exception of the class at 5:1 over ValueError, whose arguments are itself;
-- the dictionaries 7 and 8 have a key of 99 and of 100 tuples inside one another; 9 is a file.
abbrev pub store : RunStore
store = record empty {
  at = put (len_at 1) (len_is 2) (put (item_at 1 0) (item_is (int (pos 1))) (put (item_at 1 1) (item_is (text (codes "a")))
      (put (len_at 2) (len_is 2) (put (item_at 2 0) (item_is (object 2)) (put (item_at 2 1) (item_is (object 3))
      (put (order_at 3) (order_is (text (codes "a") ∷ truth true ∷ []))
      (put (entry_at 3 (text (codes "a"))) (entry_is (Some (text (codes "a"), tuple (part (int (pos 1)) no_parts))))
      (put (entry_at 3 (int (pos 1))) (entry_is (Some (truth true, object 3)))
      (put (entry_at 4 (text (codes "args"))) (entry_is (Some (text (codes "args"), tuple (part (text (codes "k")) no_parts))))
      (put (base_at (record { line = 3; col = 1 })) (base_is None)
      (put (base_at (record { line = 5; col = 1 })) (base_is (Some (exception_class 10)))
      (put (entry_at 6 (text (codes "args"))) (entry_is (Some (text (codes "args"), object 6)))
      (put (order_at 7) (order_is (nested 99 ∷ [])) (put (entry_at 7 (nested 99)) (entry_is (Some (nested 99, int (pos 5))))
      (put (order_at 8) (order_is (nested 100 ∷ []))
      (λ l. None))))))))))))))));
  names = λ place. Some (codes "C");
  kinds = a_list ∷ a_list ∷ a_list ∷ a_dict ∷ an_instance (exception_class 6) ∷ an_instance (class (record { line = 3; col = 1 })) ∷ an_instance (class (record { line = 5; col = 1 }))
      ∷ a_dict ∷ a_dict ∷ a_file (codes "a'b") ReadMode ∷ [];
}

abbrev pub does : Plan → Effect
does plan = effect store nobody plan

-- `print([1, 'a'])`: what it touches, and its cost
print_list : (does (print_values (object 1 ∷ []))).touches ≡
    accessed (reads (len_at 1)) ∷ accessed (reads (item_at 1 0)) ∷ accessed (reads (item_at 1 1)) ∷ counted 9 ∷ printed (codes "[1, 'a']\n") ∷ []
print_list = refl

print_list_cost : cost (does (print_values (object 1 ∷ []))) ≡ 5
print_list_cost = refl

print_words : (does (print_values (text (codes "a") ∷ nothing ∷ int (negsuc 1) ∷ []))).touches ≡ counted 10 ∷ printed (codes "a None -2\n") ∷ []
print_words = refl

-- containers inside themselves
repr_inside : (does (repr_of (object 2))).outcome ≡ answered (value (text (codes "[[...], {'a': (1,), True: {...}}]")))
repr_inside = refl

repr_inside_reads : accesses_in (does (repr_of (object 2))).touches ≡
    reads (len_at 2) ∷ reads (item_at 2 0) ∷ reads (item_at 2 1) ∷ reads (order_at 3) ∷ reads (entry_at 3 (text (codes "a"))) ∷ reads (entry_at 3 (int (pos 1))) ∷ []
repr_inside_reads = refl

repr_inside_weight : weight (does (repr_of (object 2))) ≡ 2
repr_inside_weight = refl

-- texts as literals
repr_quote : (does (repr_of (text (codes "it's")))).outcome ≡ answered (value (text (codes "\"it's\"")))
repr_quote = refl

repr_quotes : (does (repr_of (text (codes "'\"\\\n")))).outcome ≡ answered (value (text (39 ∷ 92 ∷ 39 ∷ 34 ∷ 92 ∷ 92 ∷ 92 ∷ 110 ∷ 39 ∷ [])))
repr_quotes = refl

repr_bytes : (does (repr_of (text (31 ∷ 127 ∷ 195 ∷ 164 ∷ [])))).outcome ≡ answered (value (text (39 ∷ 92 ∷ 120 ∷ 49 ∷ 102 ∷ 92 ∷ 120 ∷ 55 ∷ 102 ∷ 195 ∷ 164 ∷ 39 ∷ [])))
repr_bytes = refl

str_text : (does (str_of (text (codes "it's")))).outcome ≡ answered (value (text (codes "it's")))
str_text = refl

-- values that are no containers
print_others : (does (print_values (range (pos 0) (pos 3) (pos 1) ∷ range (pos 0) (pos 6) (pos 2) ∷ builtin 8 ∷ builtin 22 ∷ exception_class 6 ∷ function (record { line = 1; col = 1 }) ∷ tuple no_parts ∷ []))).touches ≡
    counted 88 ∷ printed (codes "range(0, 3) range(0, 6, 2) <built-in len> <module sys> <class KeyError> <function C> ()\n") ∷ []
print_others = refl

-- exceptions and instances
str_key_error : (does (str_of (object 4))).outcome ≡ answered (value (text (codes "'k'")))
str_key_error = refl

str_key_error_touches : (does (str_of (object 4))).touches ≡ accessed (reads (entry_at 4 (text (codes "args")))) ∷ looked 1 ∷ counted 3 ∷ []
str_key_error_touches = refl

repr_key_error : (does (repr_of (object 4))).outcome ≡ answered (value (text (codes "KeyError('k')")))
repr_key_error = refl

repr_instance : (does (repr_of (object 5))).outcome ≡ answered (value (text (codes "<C object>")))
repr_instance = refl

repr_instance_touches : (does (repr_of (object 5))).touches ≡ accessed (reads (base_at (record { line = 3; col = 1 }))) ∷ counted 10 ∷ []
repr_instance_touches = refl

repr_own_argument : (does (repr_of (object 6))).outcome ≡ answered (value (text (codes "C(C(...))")))
repr_own_argument = refl

str_own_argument : (does (str_of (object 6))).outcome ≡ answered (value (text (codes "C(...)")))
str_own_argument = refl

str_own_argument_touches : (does (str_of (object 6))).touches ≡
    accessed (reads (base_at (record { line = 5; col = 1 }))) ∷ accessed (reads (entry_at 6 (text (codes "args")))) ∷ counted 6 ∷ []
str_own_argument_touches = refl

-- tuples inside one another: a hundred are printed, one more is refused after a hundred looks, and nothing is counted
hundred : weight (does (repr_of (nested 100))) ≡ 105
hundred = refl

hundred_and_one : (does (repr_of (nested 101))).outcome ≡ answered (raised 10)
hundred_and_one = refl

hundred_and_one_weight : weight (does (repr_of (nested 101))) ≡ 100
hundred_and_one_weight = refl

-- keys have no looks, but lie as deep as their tuples; a print that raises counts and prints nothing
deep_key : accesses_in (does (repr_of (object 7))).touches ≡ reads (order_at 7) ∷ reads (entry_at 7 (nested 99)) ∷ []
deep_key = refl

deep_key_weight : weight (does (repr_of (object 7))) ≡ 5
deep_key_weight = refl

deeper_key : does (print_values (object 1 ∷ object 8 ∷ [])) ≡ record {
  outcome = answered (raised 10);
  made = Some (an_instance (exception_class 14));
  touches = accessed (reads (len_at 1)) ∷ accessed (reads (item_at 1 0)) ∷ accessed (reads (item_at 1 1)) ∷ accessed (reads (order_at 8))
      ∷ accessed (reads (entry_at 8 (nested 100))) ∷ accessed (sets (order_at 10) (order_is (text (codes "args") ∷ [])))
      ∷ accessed (sets (entry_at 10 (text (codes "args"))) (entry_is (Some (text (codes "args"), tuple (part (text (codes "nested too deep")) no_parts))))) ∷ [];
}
deeper_key = refl

print_file : (does (print_values (object 9 ∷ []))).touches ≡ counted 13 ∷ printed (codes "<file \"a'b\">\n") ∷ []
print_file = refl

-- an empty line
print_nothing : does (print_values []) ≡ answers_with nothing (counted 1 ∷ printed (codes "\n") ∷ [])
print_nothing = refl

-- More texts as literals: a double quote, a tabulator and a carriage return, and what stands beside the control characters.
repr_double : (does (repr_of (text (codes "\"")))).outcome ≡ answered (value (text (39 ∷ 34 ∷ 39 ∷ [])))
repr_double = refl

repr_blanks : (does (repr_of (text (9 ∷ 13 ∷ 32 ∷ 126 ∷ 0 ∷ [])))).outcome ≡ answered (value (text (codes "'\\t\\r ~\\x00'")))
repr_blanks = refl

-- Exceptions with no argument, one and two, of ValueError, and of a class over KeyError at 7:1 with one and with two: 0 to 4. The
-- exceptions 5 and 6 have an argument that is no tuple, 7 is the list of exception 1, 8 has list 7 as its argument.
abbrev pub one : Contents → Contents
one v = tuple (part v no_parts)

abbrev pub two : Contents → Contents → Contents
two v w = tuple (part v (part w no_parts))

abbrev pub args : Contents
args = text (codes "args")

abbrev pub raised_ones : RunStore
raised_ones = record empty {
  at = put (entry_at 0 args) (entry_is (Some (args, tuple no_parts)))
      (put (entry_at 1 args) (entry_is (Some (args, one (text (codes "a")))))
      (put (entry_at 2 args) (entry_is (Some (args, two (text (codes "a")) (int (pos 1)))))
      (put (entry_at 3 args) (entry_is (Some (args, one (text (codes "a")))))
      (put (entry_at 4 args) (entry_is (Some (args, two (text (codes "a")) (int (pos 1)))))
      (put (entry_at 5 args) (entry_is (Some (args, text (codes "a"))))
      (put (entry_at 6 args) (entry_is (Some (args, text (codes "a"))))
      (put (len_at 7) (len_is 1) (put (item_at 7 0) (item_is (object 1))
      (put (entry_at 8 args) (entry_is (Some (args, one (object 7))))
      (put (base_at (record { line = 7; col = 1 })) (base_is (Some (exception_class 6)))
      (λ l. None)))))))))));
  kinds = an_instance (exception_class 10) ∷ an_instance (exception_class 10) ∷ an_instance (exception_class 10)
      ∷ an_instance (class (record { line = 7; col = 1 })) ∷ an_instance (class (record { line = 7; col = 1 }))
      ∷ an_instance (exception_class 10) ∷ an_instance (exception_class 6) ∷ a_list ∷ an_instance (exception_class 10) ∷ [];
}

abbrev pub text_of : Plan → Answer
text_of plan = answer_in (effect raised_ones nobody plan).outcome
  where
    answer_in : Outcome → Answer
    answer_in (answered answer) = answer
    answer_in other = at_end

str_of_none : effect raised_ones nobody (str_of (object 0)) ≡ answers_with (text []) (r (entry_at 0 args) ∷ counted 0 ∷ [])
str_of_none = refl

str_of_one : effect raised_ones nobody (str_of (object 1)) ≡ answers_with (text (codes "a")) (r (entry_at 1 args) ∷ looked 1 ∷ counted 1 ∷ [])
str_of_one = refl

str_of_two : effect raised_ones nobody (str_of (object 2)) ≡ answers_with (text (codes "('a', 1)")) (r (entry_at 2 args) ∷ looked 1 ∷ looked 1 ∷ counted 8 ∷ [])
str_of_two = refl

repr_of_none : text_of (repr_of (object 0)) ≡ value (text (codes "ValueError()"))
repr_of_none = refl

repr_of_one : text_of (repr_of (object 1)) ≡ value (text (codes "ValueError('a')"))
repr_of_one = refl

repr_of_two : effect raised_ones nobody (repr_of (object 2)) ≡ answers_with (text (codes "ValueError('a', 1)")) (r (entry_at 2 args) ∷ looked 1 ∷ looked 1 ∷ counted 18 ∷ [])
repr_of_two = refl

-- a class over KeyError spells its one argument, and has a name that was never noted here
str_of_derived : effect raised_ones nobody (str_of (object 3)) ≡
    answers_with (text (codes "'a'")) (r (base_at (record { line = 7; col = 1 })) ∷ r (entry_at 3 args) ∷ looked 1 ∷ counted 3 ∷ [])
str_of_derived = refl

str_of_derived_two : text_of (str_of (object 4)) ≡ value (text (codes "('a', 1)"))
str_of_derived_two = refl

repr_of_unnamed : text_of (repr_of (object 3)) ≡ value (text (codes "?('a')"))
repr_of_unnamed = refl

-- an argument that is no tuple is one argument, and not looked at
str_of_bare : effect raised_ones nobody (str_of (object 5)) ≡ answers_with (text (codes "a")) (r (entry_at 5 args) ∷ counted 1 ∷ [])
str_of_bare = refl

str_of_bare_key : text_of (str_of (object 6)) ≡ value (text (codes "'a'"))
str_of_bare_key = refl

repr_of_bare : effect raised_ones nobody (repr_of (object 5)) ≡ answers_with (text (codes "ValueError('a')")) (r (entry_at 5 args) ∷ counted 15 ∷ [])
repr_of_bare = refl

-- an exception in a list is spelled, also where the list is the argument of another
str_of_list : effect raised_ones nobody (str_of (object 8)) ≡
    answers_with (text (codes "[ValueError('a')]")) (r (entry_at 8 args) ∷ looked 1 ∷ r (len_at 7) ∷ r (item_at 7 0) ∷ r (entry_at 1 args) ∷ looked 1 ∷ counted 17 ∷ [])
str_of_list = refl

-- an object twice, but not inside itself, is read twice
repr_twice : accesses_in (effect raised_ones nobody (repr_of (two (object 7) (object 7)))).touches ≡
    reads (len_at 7) ∷ reads (item_at 7 0) ∷ reads (entry_at 1 args) ∷ reads (len_at 7) ∷ reads (item_at 7 0) ∷ reads (entry_at 1 args) ∷ []
repr_twice = refl

-- a value inside so many tuples
abbrev pub around : ℕ → Contents → Contents
around zero v = v
around (suc n) v = one (around n v)

-- An exception counts nothing, the tuple of its arguments one: 99 tuples around it are printed, 100 are too many, also where it has no
-- argument. A list inside 100 is refused before it is read.
exception_in_99 : weight (effect raised_ones nobody (repr_of (around 99 (object 0)))) ≡ 104
exception_in_99 = refl

exception_in_100 : accesses_in (effect raised_ones nobody (repr_of (around 100 (object 0)))).touches ≡
    reads (entry_at 0 args) ∷ accesses_in (raises_in raised_ones [] 14 (text (codes "nested too deep"))).touches
exception_in_100 = refl

list_in_100 : accesses_in (effect raised_ones nobody (repr_of (around 100 (object 7)))).touches ≡ accesses_in (raises_in raised_ones [] 14 (text (codes "nested too deep"))).touches
list_in_100 = refl

-- the same of an exception's one argument
abbrev pub holding : Contents → RunStore
holding v = record empty { at = put (entry_at 0 args) (entry_is (Some (args, one v))) (λ l. None); kinds = an_instance (exception_class 0) ∷ [] }

argument_of_99 : weight (effect (holding (around 99 nothing)) nobody (str_of (object 0))) ≡ 105
argument_of_99 = refl

argument_of_100 : weight (effect (holding (around 100 nothing)) nobody (str_of (object 0))) ≡ 100
argument_of_100 = refl

-- a list inside itself is recognised at any depth
abbrev pub itself : RunStore
itself = record empty { at = put (len_at 0) (len_is 1) (put (item_at 0 0) (item_is (around 99 (object 0))) (λ l. None)); kinds = a_list ∷ [] }

list_in_itself : weight (effect itself nobody (repr_of (object 0))) ≡ 104
list_in_itself = refl

-- modules, methods and classes
print_modules : (does (print_values (builtin 23 ∷ builtin 24 ∷ builtin 21 ∷ class (record { line = 3; col = 1 }) ∷ exception_class 18 ∷ []))).touches ≡
    counted 78 ∷ printed (codes "<module time> <module random> <built-in zip> <class C> <class AssertionError>\n") ∷ []
print_modules = refl

-- characters are counted, not bytes
print_character : (does (print_values (text (195 ∷ 169 ∷ []) ∷ []))).touches ≡ counted 2 ∷ printed (195 ∷ 169 ∷ 10 ∷ []) ∷ []
print_character = refl

repr_character : (does (repr_of (text (195 ∷ 169 ∷ [])))).touches ≡ counted 3 ∷ []
repr_character = refl

-- exceptions, each the argument of the one before: 100 are printed, and the next is refused behind the read of its arguments
abbrev pub each_next : SeenLocation → Option SeenContent
each_next (entry_at o key) = Some (entry_is (Some (args, one (object (suc o)))))
each_next other = None

abbrev pub causes : RunStore
causes = record empty { at = each_next; kinds = replicate 101 (an_instance (exception_class 0)) }

too_many_causes : weight (effect causes nobody (str_of (object 0))) ≡ 100
too_many_causes = refl

too_many_causes_made : (effect causes nobody (str_of (object 0))).made ≡ Some (an_instance (exception_class 14))
too_many_causes_made = refl
