-- The operations by number (this project's profile): which plan each of them is, over what it names and its operand values.
use Rattle.std.specs.Prelude.{ℕ, ◌-◌, pos, Bool, false, nat_lt, List, [], ◌∷◌, slice_get, Option, Some, None, if◌then◌else◌}
use Rattle.py_value.specs.Contents.{Contents, truth, int}
use Rattle.py_model.specs.Arithmetic.{truth_plan, not_plan, neg_plan, pos_plan, add_plan, sub_plan, mul_plan, floor_div_plan, mod_plan, eq_plan, ne_plan, lt_plan, le_plan, gt_plan, ge_plan, in_plan, not_in_plan, is_plan, is_not_plan, iadd_plan, abs_plan, bool_plan, chr_plan, int_plan, len_plan, max_plan, min_plan, ord_plan, range_plan, sum_plan}
use Rattle.py_model.specs.Classes.{getattr, setattr, find, make, isinstance, define, define_method, begin_class, import_module}
use Rattle.py_model.specs.Dicts.{dict_display, dict_builtin, get_method, items_method, keys_method, values_method}
use Rattle.py_model.specs.Faults.{wrong_number}
use Rattle.py_model.specs.Files.{open_plan, read_plan, readline_plan, next_line, write_plan, close_plan, input_plan, time_ns_plan, randint_plan, randrange_plan}
use Rattle.py_model.specs.Lists.{list_display, tuple_display, getitem, slice, setitem, delitem, unpack, iter, next, append, extend, insert, pop, index_method, reverse_method, sort_method, enumerate, list_builtin, sorted_builtin, tuple_builtin, zip_builtin}
use Rattle.py_model.specs.Names.{const, load, give, bind, unbind, begin_with, end_with}
use Rattle.py_model.specs.Operands.{of_one, of_two}
use Rattle.py_model.specs.Plan.{Plan}
use Rattle.py_model.specs.Printing.{print_values, repr_of, str_of}
use Rattle.py_model.specs.Raising.{raise, matches, assertion_failed, call_failed}
use Rattle.py_model.specs.TextMethods.{strip_plan, lstrip_plan, rstrip_plan, split_plan, join_plan, replace_plan, find_plan, startswith_plan, endswith_plan, upper_plan, lower_plan, isdigit_plan, ljust_plan, rjust_plan}

-- An operation: its number; the activation of a local name, 0 for every other; the name that it names; and a value: the constant, the
-- function or class that is defined, the module that is imported, why a call fails, how many targets there are, or that a name is
-- unset at the end of an `except`.
pub record Op : Type 0 where
  pub no : ℕ
  pub scope : ℕ
  pub name : List ℕ
  pub value : Contents

-- an operation of no value
abbrev pub of_none : Plan → List Contents → Plan
of_none plan [] = plan
of_none plan values = wrong_number

abbrev pub is_silent : Contents → Bool
is_silent (truth b) = b
is_silent other = false

abbrev pub targets_of : Contents → ℕ
targets_of (int (pos n)) = n
targets_of other = 0

-- `make` of a class with arguments, a `def` at module level or in a class, and a `class` with or without a base
abbrev pub make_plan : List Contents → Plan
make_plan (of ∷ arguments) = make of arguments
make_plan [] = wrong_number

abbrev pub def_plan : Op → List Contents → Plan
def_plan op [] = define op.name op.value
def_plan op (of ∷ []) = define_method op.name op.value of
def_plan op values = wrong_number

abbrev pub class_plan : Op → List Contents → Plan
class_plan op [] = begin_class op.name op.value None
class_plan op (base ∷ []) = begin_class op.name op.value (Some base)
class_plan op values = wrong_number

-- a plan that its operands alone decide
abbrev pub alone : (List Contents → Plan) → Op → List Contents → Plan
alone plan op values = plan values

-- 0 to 47, in this order: const load give truth not neg pos add sub mul floordiv mod eq ne lt le gt ge in not-in is is-not iadd list dict
-- tuple getitem slice setitem delitem getattr setattr find bind unbind unpack iter next call-that-fails make raise match def class
-- import close-of-with with assert
abbrev pub language : List (Op → List Contents → Plan)
language =
    (λ op. of_none (const op.value)) ∷ (λ op. of_none (load op.scope op.name)) ∷ alone (of_one give)
    ∷ alone truth_plan ∷ alone not_plan ∷ alone neg_plan ∷ alone pos_plan
    ∷ alone add_plan ∷ alone sub_plan ∷ alone mul_plan ∷ alone floor_div_plan ∷ alone mod_plan
    ∷ alone eq_plan ∷ alone ne_plan ∷ alone lt_plan ∷ alone le_plan ∷ alone gt_plan ∷ alone ge_plan
    ∷ alone in_plan ∷ alone not_in_plan ∷ alone is_plan ∷ alone is_not_plan ∷ alone iadd_plan
    ∷ alone list_display ∷ alone dict_display ∷ alone tuple_display
    ∷ alone getitem ∷ alone slice ∷ alone setitem ∷ alone delitem
    ∷ (λ op. of_one (getattr op.name)) ∷ (λ op. of_two (setattr op.name)) ∷ (λ op. of_one (find op.name))
    ∷ (λ op. of_one (bind op.scope op.name)) ∷ (λ op. of_none (unbind (is_silent op.value) op.scope op.name))
    ∷ (λ op. unpack (targets_of op.value)) ∷ alone iter ∷ alone (next next_line)
    ∷ (λ op values. call_failed op.value) ∷ alone make_plan ∷ alone (of_one raise) ∷ alone (of_two matches)
    ∷ def_plan ∷ class_plan ∷ (λ op. of_none (import_module op.scope op.name op.value))
    ∷ alone (of_one end_with) ∷ alone (of_one begin_with) ∷ alone assertion_failed ∷ []

-- 50 to 71, the built-in functions: abs bool chr dict enumerate input int isinstance len list max min open ord print range repr sorted str
-- sum tuple zip
abbrev pub functions : List (List Contents → Plan)
functions =
    abs_plan ∷ bool_plan ∷ chr_plan ∷ dict_builtin ∷ enumerate ∷ input_plan ∷ int_plan ∷ of_two isinstance ∷ len_plan ∷ list_builtin
    ∷ max_plan ∷ min_plan ∷ open_plan ∷ ord_plan ∷ print_values ∷ range_plan ∷ of_one repr_of ∷ sorted_builtin ∷ of_one str_of ∷ sum_plan
    ∷ tuple_builtin ∷ zip_builtin ∷ []

-- 80 to 111, the methods: of lists, dictionaries, texts, files and modules
abbrev pub methods : List (List Contents → Plan)
methods =
    append ∷ extend ∷ insert ∷ pop ∷ index_method ∷ reverse_method ∷ sort_method
    ∷ get_method ∷ items_method ∷ keys_method ∷ values_method
    ∷ strip_plan ∷ lstrip_plan ∷ rstrip_plan ∷ split_plan ∷ join_plan ∷ replace_plan ∷ find_plan ∷ startswith_plan ∷ endswith_plan
    ∷ upper_plan ∷ lower_plan ∷ isdigit_plan ∷ ljust_plan ∷ rjust_plan
    ∷ read_plan ∷ readline_plan ∷ write_plan ∷ close_plan
    ∷ time_ns_plan ∷ randint_plan ∷ randrange_plan ∷ []

-- the plan of an operation; a number that no operation has is a wrong number of arguments
abbrev pub or_none : Option (List Contents → Plan) → List Contents → Plan
or_none (Some plan) = plan
or_none None = λ values. wrong_number

abbrev pub or_no_operation : Option (Op → List Contents → Plan) → Op → List Contents → Plan
or_no_operation (Some plan) = plan
or_no_operation None = λ op values. wrong_number

abbrev pub plan : Op → List Contents → Plan
plan op values =
    if nat_lt op.no 50 then or_no_operation (slice_get language op.no) op values
    else if nat_lt op.no 80 then or_none (slice_get functions (op.no - 50)) values
    else or_none (slice_get methods (op.no - 80)) values
