-- Constants, names and what binds them (The Python Language Reference 3, sections 4.2, 6.2.1, 7.5 and 8.5; their texts are this
-- project's profile).
use Rattle.std.specs.Prelude.{ℕ, zero, suc, Bool, true, false, List, [], ◌∷◌, ◌++◌, Option, Some, None, codes}
use Rattle.std.specs.Option.{option_map}
use Rattle.std.specs.Str.{bytes_eq}
use Rattle.py_value.specs.Contents.{Contents, nothing, exception_class, builtin, object}
use Rattle.py_value.specs.Seen.{SeenKind, number_by, a_file, var_at, closed_at, var_is, closed_is}
use Rattle.py_model.specs.Faults.{fault, name_error, unbound_local, value_error, wrong_kind}
use Rattle.py_model.specs.Plan.{Plan, read_var, read_closed, kind_of, writes, write, done}

-- the names of the functions of the language and of its exception classes, by number
abbrev pub builtin_names : List (List ℕ)
builtin_names =
    codes "abs" ∷ codes "bool" ∷ codes "chr" ∷ codes "dict" ∷ codes "enumerate" ∷ codes "input" ∷ codes "int" ∷ codes "isinstance"
    ∷ codes "len" ∷ codes "list" ∷ codes "max" ∷ codes "min" ∷ codes "open" ∷ codes "ord" ∷ codes "print" ∷ codes "range" ∷ codes "repr"
    ∷ codes "sorted" ∷ codes "str" ∷ codes "sum" ∷ codes "tuple" ∷ codes "zip" ∷ []

abbrev pub class_names : List (List ℕ)
class_names =
    codes "Exception" ∷ codes "ArithmeticError" ∷ codes "ZeroDivisionError" ∷ codes "OverflowError" ∷ codes "LookupError"
    ∷ codes "IndexError" ∷ codes "KeyError" ∷ codes "NameError" ∷ codes "UnboundLocalError" ∷ codes "TypeError" ∷ codes "ValueError"
    ∷ codes "AttributeError" ∷ codes "RuntimeError" ∷ codes "NotImplementedError" ∷ codes "RecursionError" ∷ codes "OSError"
    ∷ codes "FileNotFoundError" ∷ codes "EOFError" ∷ codes "AssertionError" ∷ []

-- what a name is where nothing binds it
abbrev pub known : List ℕ → Option Contents
known name = elim (number_by (bytes_eq name) builtin_names) [
  | Some number ↦ Some (builtin number)
  | None ↦ option_map exception_class (number_by (bytes_eq name) class_names)
]

-- what is raised for a name that is unset: of the module, scope 0, and of an activation
abbrev pub unset_name : ℕ → List ℕ → Plan
unset_name zero name = fault name_error (codes "name '" ++ name ++ codes "' is not defined")
unset_name (suc scope) name = fault unbound_local (codes "local name '" ++ name ++ codes "' is not set")

-- Answers a constant, and touches nothing.
abbrev pub const : Contents → Plan
const v = writes (done v)

-- Reads a variable: a local name of its activation, another name of the module, where an unset name may be one of the language.
abbrev pub load_unset : ℕ → List ℕ → Plan
load_unset zero name = elim (known name) [ None ↦ unset_name zero name | Some v ↦ writes (done v) ]
load_unset (suc scope) name = unset_name (suc scope) name

abbrev pub load : ℕ → List ℕ → Plan
load scope name = read_var scope name (λ variable. elim variable [ None ↦ load_unset scope name | Some v ↦ writes (done v) ])

-- Passes a value on, and touches nothing.
abbrev pub give : Contents → Plan
give v = writes (done v)

-- Sets a variable of an activation, or of the module.
abbrev pub bind : ℕ → List ℕ → Contents → Plan
bind scope name v = writes (write (var_at scope name) (var_is (Some v)) (done nothing))

-- Reads a variable and unsets it; one that is unset is refused, but not at the end of an `except` clause.
abbrev pub unset : ℕ → List ℕ → Plan
unset scope name = writes (write (var_at scope name) (var_is None) (done nothing))

abbrev pub unbind : Bool → ℕ → List ℕ → Plan
unbind true scope name = read_var scope name (λ variable. unset scope name)
unbind false scope name = read_var scope name (λ variable. elim variable [ None ↦ unset_name scope name | Some v ↦ unset scope name ])

-- Begins a `with`: reads whether the file is closed, refuses one that is, and answers the file.
abbrev pub begin_with : Contents → Plan
begin_with (object o) = kind_of o (λ kind. with_file o kind)
  where
    open_file : ℕ → Bool → Plan
    open_file n true = fault value_error (codes "file is closed")
    open_file n false = writes (done (object n))

    with_file : ℕ → Option SeenKind → Plan
    with_file n (Some (a_file path mode)) = read_closed n (open_file n)
    with_file n other = wrong_kind
begin_with other = wrong_kind

-- Ends a `with`: sets that the file is closed.
abbrev pub end_with : Contents → Plan
end_with (object o) = kind_of o (λ kind. close_file o kind)
  where
    close_file : ℕ → Option SeenKind → Plan
    close_file n (Some (a_file path mode)) = writes (write (closed_at n) (closed_is true) (done nothing))
    close_file n other = wrong_kind
end_with other = wrong_kind
