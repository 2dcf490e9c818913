-- Exceptions that operations raise (The Python Language Reference 3, section 4.3; their texts are this project's profile), and the
-- classes of the language, by number.
use Rattle.std.specs.Prelude.{ℕ, zero, List, [], ◌∷◌, ◌++◌, Option, Some, None, nat_eq, if◌then◌else◌, codes}
use Rattle.py_value.specs.Contents.{text, exception_class}
use Rattle.py_model.specs.Plan.{Plan, raises}

abbrev pub zero_division : ℕ
zero_division = 2

abbrev pub overflow : ℕ
overflow = 3

abbrev pub index_error : ℕ
index_error = 5

abbrev pub key_error : ℕ
key_error = 6

abbrev pub name_error : ℕ
name_error = 7

abbrev pub unbound_local : ℕ
unbound_local = 8

abbrev pub type_error : ℕ
type_error = 9

abbrev pub value_error : ℕ
value_error = 10

abbrev pub attribute_error : ℕ
attribute_error = 11

abbrev pub runtime_error : ℕ
runtime_error = 12

abbrev pub not_implemented : ℕ
not_implemented = 13

abbrev pub recursion : ℕ
recursion = 14

abbrev pub os_error : ℕ
os_error = 15

abbrev pub file_not_found : ℕ
file_not_found = 16

abbrev pub eof_error : ℕ
eof_error = 17

abbrev pub assertion_error : ℕ
assertion_error = 18

-- the base of a class of the language; `Exception` has none
abbrev pub base_class : ℕ → Option ℕ
base_class zero = None
base_class n = if nat_eq n 2 then Some 1 else if nat_eq n 3 then Some 1
    else if nat_eq n 5 then Some 4 else if nat_eq n 6 then Some 4
    else if nat_eq n 8 then Some 7
    else if nat_eq n 13 then Some 12 else if nat_eq n 14 then Some 12
    else if nat_eq n 16 then Some 15
    else Some 0

-- the exception of a class of the language with a text
abbrev pub fault : ℕ → List ℕ → Plan
fault number words = raises (exception_class number) (text words ∷ [])

abbrev pub wrong_kind : Plan
wrong_kind = fault type_error (codes "wrong kind of value")

abbrev pub wrong_number : Plan
wrong_number = fault type_error (codes "wrong number of arguments")

abbrev pub no_key : Plan
no_key = fault type_error (codes "not usable as a key")

abbrev pub out_of_range : Plan
out_of_range = fault overflow (codes "integer out of range")

abbrev pub not_there : Plan
not_there = fault not_implemented (codes "not in this profile")

abbrev pub too_deep : Plan
too_deep = fault recursion (codes "nested too deep")

abbrev pub bad_index : Plan
bad_index = fault index_error (codes "index out of range")

abbrev pub no_attribute : List ℕ → Plan
no_attribute name = fault attribute_error (codes "no attribute '" ++ name ++ codes "'")
