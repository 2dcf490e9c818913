-- What is printed of a value (The Python Language Reference 3, sections 2.4.1 and 6.2, and this project's profile), and the
-- operations that print.
use Rattle.std.specs.Prelude.{ℕ, zero, suc, ◌+◌, ◌-◌, ◌/◌, ◌%◌, ◌&&◌, ◌==◌, not, max, ℤ, pos, Bool, true, false, nat_lt, List, [], ◌∷◌, ◌++◌, slice_get, unwrap_or, Option, Some, None, if◌then◌else◌, codes}
use Rattle.std.specs.Ordering.{int_eq}
use Rattle.prov_base.specs.declared.place.Pos.{Pos}
use Rattle.py_value.specs.Contents.{Contents, Parts, nothing, truth, int, text, tuple, range, function, class, exception_class, builtin, object, no_parts, part}
use Rattle.py_value.specs.Seen.{SeenKind, a_list, a_dict, an_instance, a_file}
use Rattle.py_model.specs.Classes.{longest_chain, end_of_chain, is_module}
use Rattle.py_model.specs.Faults.{key_error, wrong_kind, too_deep}
use Rattle.py_model.specs.Names.{builtin_names, class_names}
use Rattle.py_model.specs.Numbers.{int_text}
use Rattle.py_model.specs.Plan.{Plan, read_len, read_entry, read_order, kind_of, name_of, looks, counts, prints, writes, runs_away, done}
use Rattle.py_model.specs.Raising.{read_args}
use Rattle.py_model.specs.Texts.{size}
use Rattle.py_model.specs.Walks.{deepest, read_value}

-- a hexadecimal digit
abbrev pub hex_digit : ℕ → ℕ
hex_digit n = if nat_lt n 10 then 48 + n else 87 + n

-- a byte of a text as a literal in a quote spells it
abbrev pub spelled : ℕ → ℕ → List ℕ
spelled quote byte =
    if byte == 92 then 92 ∷ 92 ∷ []
    else if byte == quote then 92 ∷ quote ∷ []
    else if byte == 10 then codes "\\n"
    else if byte == 13 then codes "\\r"
    else if byte == 9 then codes "\\t"
    else if nat_lt byte 32 then (codes "\\x" ++ hex_digit (byte / 16) ∷ hex_digit (byte % 16) ∷ [])
    else if byte == 127 then codes "\\x7f"
    else byte ∷ []

abbrev pub spelled_all : ℕ → List ℕ → List ℕ
spelled_all quote [] = []
spelled_all quote (byte ∷ bytes) = spelled quote byte ++ spelled_all quote bytes

abbrev pub holds : ℕ → List ℕ → Bool
holds byte [] = false
holds byte (first ∷ bytes) = if byte == first then true else holds byte bytes

-- a text as a literal: in `"` where it holds `'` and no `"`, else in `'`
abbrev pub literal : List ℕ → List ℕ
literal bytes =
    let quote = if holds 39 bytes && not (holds 34 bytes) then 34 else 39 in
    quote ∷ (spelled_all quote bytes ++ quote ∷ [])

-- what is printed of a text: itself, or its literal
abbrev pub quoted_or_not : Bool → List ℕ → List ℕ
quoted_or_not true bytes = literal bytes
quoted_or_not false bytes = bytes

-- texts with a separator between
abbrev pub behind_first : List ℕ → List (List ℕ) → List ℕ
behind_first separator [] = []
behind_first separator (item ∷ rest) = separator ++ (item ++ behind_first separator rest)

abbrev pub between : List ℕ → List (List ℕ) → List ℕ
between separator [] = []
between separator (item ∷ rest) = item ++ behind_first separator rest

abbrev pub commas : List (List ℕ) → List ℕ
commas items = between (codes ", ") items

-- the printed form of a tuple, whose only item has a comma behind it
abbrev pub tuple_text : List (List ℕ) → List ℕ
tuple_text (item ∷ []) = codes "(" ++ (item ++ codes ",)")
tuple_text items = codes "(" ++ (commas items ++ codes ")")

abbrev pub range_text : ℤ → ℤ → ℤ → List ℕ
range_text start end step =
    let ends = int_text start ++ (codes ", " ++ int_text end) in
    codes "range(" ++ (if int_eq step (pos 1) then (ends ++ codes ")") else (ends ++ (codes ", " ++ (int_text step ++ codes ")"))))

abbrev pub truth_text : Bool → List ℕ
truth_text true = codes "True"
truth_text false = codes "False"

-- the name with a number in a list of names, and `?` for none
abbrev pub named_in : List (List ℕ) → ℕ → List ℕ
named_in names number = unwrap_or (slice_get names number) (codes "?")

abbrev pub module_names : List (List ℕ)
module_names = codes "sys" ∷ codes "time" ∷ codes "random" ∷ []

abbrev pub angled : List ℕ → List ℕ → List ℕ
angled what name = codes "<" ++ (what ++ (name ++ codes ">"))

abbrev pub builtin_text : ℕ → List ℕ
builtin_text number =
    if is_module number then angled (codes "module ") (named_in module_names (number - 22))
    else angled (codes "built-in ") (named_in builtin_names number)

-- how many tuples lie in one another in a key
abbrev mutual
  pub height : Contents → ℕ
  height (tuple parts) = suc (height_in parts)
  height other = 0

  pub height_in : Parts → ℕ
  height_in no_parts = 0
  height_in (part first rest) = max (height first) (height_in rest)

-- the printed form of a key, which is None, a truth value, an integer, a text or a tuple of keys
abbrev mutual
  pub key_text : Contents → List ℕ
  key_text nothing = codes "None"
  key_text (truth b) = truth_text b
  key_text (int i) = int_text i
  key_text (text bytes) = literal bytes
  key_text (tuple parts) = tuple_text (key_texts parts)
  key_text other = codes "?"

  pub key_texts : Parts → List (List ℕ)
  key_texts no_parts = []
  key_texts (part first rest) = key_text first ∷ key_texts rest

-- the noted name of a function or class, and the name of a class of the language; `?` where there is none
abbrev pub noted_name : Pos → (List ℕ → Plan) → Plan
noted_name place go = name_of place (λ name. go (unwrap_or name (codes "?")))

abbrev pub class_name : Contents → (List ℕ → Plan) → Plan
class_name (class place) go = noted_name place go
class_name (exception_class number) go = go (named_in class_names number)
class_name other go = go (codes "?")

-- an object is one of those that a walk is inside of
abbrev pub is_inside : ℕ → List ℕ → Bool
is_inside o [] = false
is_inside o (p ∷ objects) = if o == p then true else is_inside o objects

-- How a value is printed: as a literal or not, inside of which objects, and what goes on with the text.
abbrev pub Printer : Type 0
Printer = Bool → List ℕ → Contents → (List ℕ → Plan) → Plan

-- so many items of a list from a place on
abbrev pub print_items : (Contents → (List ℕ → Plan) → Plan) → ℕ → ℕ → ℕ → (List (List ℕ) → Plan) → Plan
print_items one zero o i go = go []
print_items one (suc n) o i go = read_value o i (λ v. one v (λ bytes. print_items one n o (suc i) (λ rest. go (bytes ∷ rest))))

-- the items of a tuple, each looked at
abbrev pub print_parts : (Contents → (List ℕ → Plan) → Plan) → Parts → (List (List ℕ) → Plan) → Plan
print_parts one no_parts go = go []
print_parts one (part v rest) go = looks 1 (one v (λ bytes. print_parts one rest (λ others. go (bytes ∷ others))))

-- The entries of a dictionary: reads each, then prints its value. A key that lies too deep for the levels left is refused before.
abbrev pub value_in : Option (Contents × Contents) → Contents
value_in (Some pair) = pair.1
value_in None = nothing

abbrev pub print_entries : (Contents → (List ℕ → Plan) → Plan) → ℕ → List Contents → ℕ → (List (List ℕ) → Plan) → Plan
print_entries one levels [] o go = go []
print_entries one levels (key ∷ keys) o go = read_entry o key (λ entry. elim (nat_lt levels (height key)) [
  | true ↦ too_deep
  | false ↦ one (value_in entry) (λ bytes. print_entries one levels keys o (λ rest. go ((key_text key ++ (codes ": " ++ bytes)) ∷ rest)))
])

-- a container and what is inside it, where the levels allow one more
abbrev pub print_list : Option Printer → List ℕ → ℕ → (List ℕ → Plan) → Plan
print_list None inside o go = too_deep
print_list (Some print) inside o go = read_len o (λ n. print_items (print true (o ∷ inside)) n o 0 (λ items. go (codes "[" ++ (commas items ++ codes "]"))))

abbrev pub print_dict : ℕ → Option Printer → List ℕ → ℕ → (List ℕ → Plan) → Plan
print_dict levels None inside o go = too_deep
print_dict levels (Some print) inside o go = read_order o (λ keys. print_entries (print true (o ∷ inside)) levels keys o (λ items. go (codes "{" ++ (commas items ++ codes "}"))))

abbrev pub print_tuple : Option Printer → List ℕ → Parts → (List (List ℕ) → Plan) → Plan
print_tuple None inside parts go = too_deep
print_tuple (Some print) inside parts go = print_parts (print true inside) parts go

-- the `repr` of an exception of a class: the class's name and the arguments; arguments that are no tuple are one argument
abbrev pub print_call : Option Printer → Printer → List ℕ → List ℕ → Contents → (List ℕ → Plan) → Plan
print_call deeper print inside name (tuple parts) go = print_tuple deeper inside parts (λ items. go (name ++ (codes "(" ++ (commas items ++ codes ")"))))
print_call deeper print inside name v go = print true inside v (λ bytes. go (name ++ (codes "(" ++ (bytes ++ codes ")"))))

-- the `str` of an exception: nothing for no argument, the argument's for one, or its `repr` where that is asked, else the tuple's
abbrev pub print_message : Option Printer → Printer → Bool → List ℕ → Contents → (List ℕ → Plan) → Plan
print_message None print quoted inside (tuple parts) go = too_deep
print_message (Some deeper) print quoted inside (tuple no_parts) go = go []
print_message (Some deeper) print quoted inside (tuple (part v no_parts)) go = looks 1 (deeper quoted inside v go)
print_message (Some deeper) print quoted inside (tuple (part v (part w rest))) go = print_parts (deeper true inside) (part v (part w rest)) (λ items. go (tuple_text items))
print_message deeper print quoted inside v go = print quoted inside v go

-- An instance: the class walk to the end of its chain; an exception then reads its arguments and prints them.
abbrev pub print_instance : Option Printer → Printer → Bool → List ℕ → ℕ → Contents → (List ℕ → Plan) → Plan
print_instance deeper print quoted inside o of go = end_of_chain of (λ end. elim end [
  | None ↦ class_name of (λ name. go (codes "<" ++ (name ++ codes " object>")))
  | Some number ↦ read_args o (λ args. elim quoted [
    | true ↦ class_name of (λ name. print_call deeper print (o ∷ inside) name args go)
    | false ↦ print_message deeper print (number == key_error) (o ∷ inside) args go
  ])
])

-- an object, which is not read again inside itself
abbrev pub print_object : ℕ → Option Printer → Printer → Bool → List ℕ → ℕ → (List ℕ → Plan) → Option SeenKind → Plan
print_object levels deeper print quoted inside o go (Some a_list) = elim (is_inside o inside) [ true ↦ go (codes "[...]") | false ↦ print_list deeper inside o go ]
print_object levels deeper print quoted inside o go (Some a_dict) = elim (is_inside o inside) [ true ↦ go (codes "{...}") | false ↦ print_dict levels deeper inside o go ]
print_object levels deeper print quoted inside o go (Some (an_instance of)) = elim (is_inside o inside) [
  | true ↦ class_name of (λ name. go (name ++ codes "(...)"))
  | false ↦ print_instance deeper print quoted inside o of go
]
print_object levels deeper print quoted inside o go (Some (a_file path mode)) = go (angled (codes "file ") (literal path))
print_object levels deeper print quoted inside o go None = wrong_kind

-- A value, with so many levels left below it: what prints one level deeper, or nothing where no container may lie here, and what prints
-- at the same level, the arguments of an exception that are no tuple.
abbrev pub print_step : ℕ → Option Printer → Printer → Bool → List ℕ → Contents → (List ℕ → Plan) → Plan
print_step levels deeper print quoted inside nothing go = go (codes "None")
print_step levels deeper print quoted inside (truth b) go = go (truth_text b)
print_step levels deeper print quoted inside (int i) go = go (int_text i)
print_step levels deeper print quoted inside (text bytes) go = go (quoted_or_not quoted bytes)
print_step levels deeper print quoted inside (tuple parts) go = print_tuple deeper inside parts (λ items. go (tuple_text items))
print_step levels deeper print quoted inside (range start end step) go = go (range_text start end step)
print_step levels deeper print quoted inside (function place) go = noted_name place (λ name. go (angled (codes "function ") name))
print_step levels deeper print quoted inside (class place) go = noted_name place (λ name. go (angled (codes "class ") name))
print_step levels deeper print quoted inside (exception_class number) go = go (angled (codes "class ") (named_in class_names number))
print_step levels deeper print quoted inside (builtin number) go = go (builtin_text number)
print_step levels deeper print quoted inside (object o) go = kind_of o (print_object levels deeper print quoted inside o go)

-- at one level: exceptions whose arguments are no tuple may lie in one another as often as any budget pays for
abbrev pub print_at : ℕ → ℕ → Option Printer → Printer
print_at zero levels deeper quoted inside v go = runs_away
print_at (suc fuel) levels deeper quoted inside v go = print_step levels deeper (λ quoted_here objects w next. print_at fuel levels deeper quoted_here objects w next) quoted inside v go

abbrev pub print_to : ℕ → Printer
print_to zero quoted inside v go = print_at longest_chain 0 None quoted inside v go
print_to (suc levels) quoted inside v go = print_at longest_chain levels (Some (print_to levels)) quoted inside v go

-- the print walk of a value and its printed form: its `repr` or its `str`
abbrev pub printed : Bool → Contents → (List ℕ → Plan) → Plan
printed quoted v go = print_to deepest quoted [] v go

-- Prints a line: the print walk of each value, then the line of their `str`, with blanks between and a line end, is counted and printed.
abbrev pub printed_all : List Contents → (List (List ℕ) → Plan) → Plan
printed_all [] go = go []
printed_all (v ∷ values) go = printed false v (λ bytes. printed_all values (λ rest. go (bytes ∷ rest)))

abbrev pub print_line : List ℕ → Plan
print_line bytes = counts (size bytes) (prints bytes (writes (done nothing)))

abbrev pub print_values : List Contents → Plan
print_values values = printed_all values (λ texts. print_line (between (codes " ") texts ++ codes "\n"))

-- Answers the `repr` of a value, by its print walk, and counts it.
abbrev pub answers_text : List ℕ → Plan
answers_text bytes = counts (size bytes) (writes (done (text bytes)))

abbrev pub repr_of : Contents → Plan
repr_of v = printed true v answers_text

-- Answers the `str` of a value, by its print walk, and counts it.
abbrev pub str_of : Contents → Plan
str_of v = printed false v answers_text
