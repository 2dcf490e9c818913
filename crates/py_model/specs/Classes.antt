-- Classes, their chains of bases, and attributes (The Python Language Reference 3, sections 3.3.2, 6.3.1, 7.11 and 8.8; what a walk
-- reads is this project's profile).
use Rattle.std.specs.Prelude.{ℕ, zero, suc, ◌+◌, Bool, true, false, ◌&&◌, ◌||◌, ◌==◌, nat_lt, List, [], ◌∷◌, Option, Some, None, if◌then◌else◌, codes}
use Rattle.std.specs.Str.{bytes_eq}
use Rattle.prov_base.specs.declared.place.Pos.{Pos}
use Rattle.py_value.specs.Contents.{Contents, Parts, nothing, truth, int, text, tuple, function, class, exception_class, builtin, object, no_parts, part}
use Rattle.py_value.specs.Same.{same_value}
use Rattle.py_value.specs.Seen.{SeenKind, number_by, a_list, a_dict, an_instance, a_file, var_at, entry_at, order_at, method_at, base_at, var_is, entry_is, order_is, method_is, base_is, key_inserted}
use Rattle.py_model.specs.Effect.{parts_of}
use Rattle.py_model.specs.Faults.{base_class, wrong_kind, not_there, no_attribute}
use Rattle.py_model.specs.Plan.{Plan, read_entry, read_method, read_base, kind_of, looks, writes, makes, runs_away, Writes, write, change, notes, done}

-- more classes than any budget pays for
abbrev pub longest_chain : ℕ
longest_chain = 1000001

abbrev pub is_earlier : Pos → Pos → Bool
is_earlier p q = nat_lt p.line q.line || ((p.line == q.line) && nat_lt p.col q.col)

-- The class that a chain goes on with after the class at a place. A base that is a class and stands at no earlier place is not part of
-- the chain, and neither is a base that is no class.
abbrev pub next_class : Pos → Option Contents → Option Contents
next_class place (Some (class base)) = if is_earlier base place then Some (class base) else None
next_class place (Some (exception_class number)) = Some (exception_class number)
next_class place other = None

-- a class of the language is another, or derives from it within so many bases
abbrev pub derives : ℕ → ℕ → ℕ → Bool
derives zero number from = number == from
derives (suc bases) number from = if number == from then true else elim (base_class number) [ None ↦ false | Some base ↦ derives bases base from ]

-- The class walk: reads the bases of a class, one after the other, up to the class that is sought or to the end of the chain. The bases
-- of a class of the language are no reads.
abbrev pub class_walk : ℕ → Contents → Contents → (Bool → Plan) → Plan
class_walk zero sought of go = runs_away
class_walk (suc fuel) sought (class place) go =
    if same_value sought (class place) then go true
    else read_base place (λ base. elim (next_class place base) [ None ↦ go false | Some next ↦ class_walk fuel sought next go ])
class_walk (suc fuel) (exception_class from) (exception_class number) go = go (derives 19 number from)
class_walk (suc fuel) sought other go = go false

-- the class walk to the end of the chain: the class of the language at which it ends, where it does
abbrev pub chain_end : ℕ → Contents → (Option ℕ → Plan) → Plan
chain_end zero of go = runs_away
chain_end (suc fuel) (class place) go = read_base place (λ base. elim (next_class place base) [ None ↦ go None | Some next ↦ chain_end fuel next go ])
chain_end (suc fuel) (exception_class number) go = go (Some number)
chain_end (suc fuel) other go = go None

-- The method walk: reads the method of a name in a class and, where it is unset, the base of the class, and so on from there.
abbrev pub method_walk : ℕ → List ℕ → Contents → (Option Pos → Plan) → Plan
method_walk zero name of go = runs_away
method_walk (suc fuel) name (class place) go = read_method place name (λ method. elim method [
  | Some at ↦ go (Some at)
  | None ↦ read_base place (λ base. elim (next_class place base) [ None ↦ go None | Some next ↦ method_walk fuel name next go ])
])
method_walk (suc fuel) name other go = go None

-- the walks of a class with fuel for any budget
abbrev pub end_of_chain : Contents → (Option ℕ → Plan) → Plan
end_of_chain of go = chain_end longest_chain of go

abbrev pub method_of_class : List ℕ → Contents → (Option Pos → Plan) → Plan
method_of_class name of go = method_walk longest_chain name of go

-- the modules, by number
abbrev pub sys_module : ℕ
sys_module = 22

abbrev pub time_module : ℕ
time_module = 23

abbrev pub random_module : ℕ
random_module = 24

abbrev pub is_module : ℕ → Bool
is_module number = nat_lt 21 number && nat_lt number 25

-- the names of the operations that are methods, in their order, and the number of the first of each kind
abbrev pub list_methods : List (List ℕ)
list_methods = codes "append" ∷ codes "extend" ∷ codes "insert" ∷ codes "pop" ∷ codes "index" ∷ codes "reverse" ∷ codes "sort" ∷ []

abbrev pub dict_methods : List (List ℕ)
dict_methods = codes "get" ∷ codes "items" ∷ codes "keys" ∷ codes "values" ∷ []

abbrev pub text_methods : List (List ℕ)
text_methods =
    codes "strip" ∷ codes "lstrip" ∷ codes "rstrip" ∷ codes "split" ∷ codes "join" ∷ codes "replace" ∷ codes "find" ∷ codes "startswith"
    ∷ codes "endswith" ∷ codes "upper" ∷ codes "lower" ∷ codes "isdigit" ∷ codes "ljust" ∷ codes "rjust" ∷ []

abbrev pub file_methods : List (List ℕ)
file_methods = codes "read" ∷ codes "readline" ∷ codes "write" ∷ codes "close" ∷ []

abbrev pub time_methods : List (List ℕ)
time_methods = codes "time_ns" ∷ []

abbrev pub random_methods : List (List ℕ)
random_methods = codes "randint" ∷ codes "randrange" ∷ []

-- the operation with a name, of those whose names begin at a number
abbrev pub operation : ℕ → List (List ℕ) → List ℕ → Plan
operation first names name = elim (number_by (bytes_eq name) names) [ None ↦ not_there | Some place ↦ writes (done (builtin (first + place))) ]

-- an attribute of a class: methods alone are there, and what one comes to is given
abbrev pub class_attribute : List ℕ → (Pos → Plan) → Contents → Plan
class_attribute name when_method of = method_of_class name of (λ method. elim method [ None ↦ no_attribute name | Some at ↦ when_method at ])

-- an attribute of an instance: its entry, and where it has none a method of its class
abbrev pub instance_attribute : List ℕ → (Pos → Plan) → ℕ → Contents → Plan
instance_attribute name when_method o of = read_entry o (text name) (λ entry. elim entry [ None ↦ class_attribute name when_method of | Some pair ↦ writes (done pair.1) ])

-- a method that is read as a value
abbrev pub no_method_value : Pos → Plan
no_method_value at = not_there

-- Reads an attribute: of an instance its entry or else the method walk, of a class the method walk, of a module nothing. A method is no
-- value.
abbrev pub getattr_of_object : List ℕ → ℕ → Option SeenKind → Plan
getattr_of_object name o (Some (an_instance of)) = instance_attribute name no_method_value o of
getattr_of_object name o kind = not_there

abbrev pub getattr : List ℕ → Contents → Plan
getattr name (object o) = kind_of o (getattr_of_object name o)
getattr name (class place) = class_attribute name no_method_value (class place)
getattr name (exception_class number) = class_attribute name no_method_value (exception_class number)
getattr name (builtin number) =
    if (number == sys_module) && bytes_eq name (codes "argv") then writes (done (object 0))
    else if is_module number then not_there
    else no_attribute name
getattr name (text bytes) = not_there
getattr name (tuple parts) = not_there
getattr name other = no_attribute name

-- Sets an attribute of an instance: reads its entry, sets it, and puts a new name behind the others.
abbrev pub setattr_entry : List ℕ → ℕ → Contents → Option (Contents × Contents) → Plan
setattr_entry name o v (Some pair) = writes (write (entry_at o (text name)) (entry_is (Some (pair.0, v))) (done nothing))
setattr_entry name o v None = writes (write (entry_at o (text name)) (entry_is (Some (text name, v))) (change (order_at o) (key_inserted (text name)) (done nothing)))

abbrev pub setattr_of_object : List ℕ → ℕ → Contents → Option SeenKind → Plan
setattr_of_object name o v (Some (an_instance of)) = read_entry o (text name) (setattr_entry name o v)
setattr_of_object name o v kind = not_there

abbrev pub setattr : List ℕ → Contents → Contents → Plan
setattr name (object o) v = kind_of o (setattr_of_object name o v)
setattr name (class place) v = not_there
setattr name (exception_class number) v = not_there
setattr name (builtin number) v = if is_module number then not_there else no_attribute name
setattr name (text bytes) v = not_there
setattr name (tuple parts) v = not_there
setattr name other v = no_attribute name

-- Finds the attribute that a call names: of an instance and of a class as it is read, but a method gives its function; of other values
-- the operation of that name, with no access.
abbrev pub method_found : Pos → Plan
method_found at = writes (done (function at))

abbrev pub find_of_object : List ℕ → ℕ → Option SeenKind → Plan
find_of_object name o (Some a_list) = operation 80 list_methods name
find_of_object name o (Some a_dict) = operation 87 dict_methods name
find_of_object name o (Some (an_instance of)) = instance_attribute name method_found o of
find_of_object name o (Some (a_file path mode)) = operation 105 file_methods name
find_of_object name o None = not_there

abbrev pub find : List ℕ → Contents → Plan
find name (object o) = kind_of o (find_of_object name o)
find name (class place) = class_attribute name method_found (class place)
find name (exception_class number) = class_attribute name method_found (exception_class number)
find name (text bytes) = operation 91 text_methods name
find name (tuple parts) = not_there
find name (builtin number) =
    if number == sys_module then getattr name (builtin number)
    else if number == time_module then operation 109 time_methods name
    else if number == random_module then operation 110 random_methods name
    else no_attribute name
find name other = no_attribute name

-- the key of an exception's arguments among its attributes
abbrev pub args_key : Contents
args_key = text (codes "args")

-- Makes an instance of a class: the method walk of `__init__` and the class walk to the end of the chain; then sets the order of its
-- attributes, which is empty but for an exception, whose arguments are all kept.
abbrev pub instance_begun : List Contents → Option ℕ → ℕ → Writes
instance_begun items None o = write (order_at o) (order_is []) (done (object o))
instance_begun items (Some number) o =
    write (order_at o) (order_is (args_key ∷ []))
    (write (entry_at o args_key) (entry_is (Some (args_key, tuple (parts_of items)))) (done (object o)))

abbrev pub make_of : Contents → List Contents → Plan
make_of of items = method_of_class (codes "__init__") of (λ method. end_of_chain of (λ end. makes (an_instance of) (instance_begun items end)))

abbrev pub make : Contents → List Contents → Plan
make (class place) items = make_of (class place) items
make (exception_class number) items = make_of (exception_class number) items
make other items = wrong_kind

-- what `isinstance` takes: a class, and the names of six kinds of values
abbrev pub is_class : Contents → Bool
is_class (class place) = true
is_class (exception_class number) = true
is_class other = false

abbrev pub bool_name : ℕ
bool_name = 1

abbrev pub dict_name : ℕ
dict_name = 3

abbrev pub int_name : ℕ
int_name = 6

abbrev pub list_name : ℕ
list_name = 9

abbrev pub str_name : ℕ
str_name = 18

abbrev pub tuple_name : ℕ
tuple_name = 20

abbrev pub names_kind : ℕ → Bool
names_kind number =
    (number == bool_name) || ((number == dict_name) || ((number == int_name) || ((number == list_name) || ((number == str_name) || (number == tuple_name)))))

abbrev pub is_kind : Contents → Bool
is_kind (builtin number) = names_kind number
is_kind other = is_class other

-- each item of a tuple passes
abbrev pub each_part : (Contents → Bool) → Parts → Bool
each_part test no_parts = true
each_part test (part item rest) = test item && each_part test rest

-- the items of a tuple are tried from the left, each looked at, up to the first that is hit
abbrev pub first_hit : (Contents → (Bool → Plan) → Plan) → Parts → (Bool → Plan) → Plan
first_hit test no_parts go = go false
first_hit test (part item rest) go = looks 1 (test item (λ hit. elim hit [ true ↦ go true | false ↦ first_hit test rest go ]))

-- The value is of a kind. The instance of a class walks from its class to the one that is asked.
abbrev pub object_is : Contents → (Bool → Plan) → Option SeenKind → Plan
object_is (builtin number) go (Some a_list) = go (number == list_name)
object_is (builtin number) go (Some a_dict) = go (number == dict_name)
object_is (builtin number) go kind = go false
object_is sought go (Some (an_instance of)) = class_walk longest_chain sought of go
object_is sought go kind = go false

abbrev pub value_is : Contents → Contents → (Bool → Plan) → Plan
value_is (object o) sought go = kind_of o (object_is sought go)
value_is (truth b) (builtin number) go = go ((number == bool_name) || (number == int_name))
value_is (int i) (builtin number) go = go (number == int_name)
value_is (text bytes) (builtin number) go = go (number == str_name)
value_is (tuple parts) (builtin number) go = go (number == tuple_name)
value_is v sought go = go false

abbrev pub answers_truth : Bool → Plan
answers_truth b = writes (done (truth b))

-- Tells whether a value is of a kind, or of one of a tuple of kinds; all of these are tested before anything is read.
abbrev pub isinstance : Contents → Contents → Plan
isinstance v (tuple parts) = if each_part is_kind parts then first_hit (value_is v) parts answers_truth else wrong_kind
isinstance v sought = if is_kind sought then value_is v sought answers_truth else wrong_kind

-- Defines a function: notes its name and sets the variable of the module.
abbrev pub define : List ℕ → Contents → Plan
define name (function place) = writes (notes place name (write (var_at 0 name) (var_is (Some (function place))) (done nothing)))
define name other = wrong_kind

-- Defines a method of a class: notes its name and sets it in the class.
abbrev pub define_method : List ℕ → Contents → Contents → Plan
define_method name (function place) (class of) = writes (notes place name (write (method_at of name) (method_is place) (done nothing)))
define_method name v other = wrong_kind

-- Begins a class, with a base or none: notes its name, sets its base and answers it. The base must be a class.
abbrev pub class_begun : List ℕ → Contents → Option Contents → Plan
class_begun name (class place) base = writes (notes place name (write (base_at place) (base_is base) (done (class place))))
class_begun name other base = wrong_kind

abbrev pub begin_class : List ℕ → Contents → Option Contents → Plan
begin_class name v None = class_begun name v None
begin_class name v (Some base) = if is_class base then class_begun name v (Some base) else wrong_kind

-- Imports a module: sets the variable of an activation, or of the module, to it.
abbrev pub import_module : ℕ → List ℕ → Contents → Plan
import_module scope name v = writes (write (var_at scope name) (var_is (Some v)) (done nothing))
