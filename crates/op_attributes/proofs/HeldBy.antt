-- What operations on attributes are as plans, by what a value is.
use Rattle.std.proofs.Common.{◌≡◌, refl, ap, ◌∙◌, ℕ, Bool, ◌==◌, ◌&&◌, List, codes, if◌then◌else◌}
use Rattle.std.specs.Str.{bytes_eq}
use Rattle.py_model.specs.Classes.{getattr, setattr, find, class_attribute, no_method_value, method_found, is_module, sys_module, operation, text_methods, time_methods, random_methods}
use Rattle.py_model.specs.Faults.{not_there, no_attribute}
use Rattle.py_model.specs.Plan.{Plan, writes, done}
use Rattle.py_value.specs.Contents.{Contents, contents, object, builtin}
use Rattle.py_value.specs.Values.{ValuesView}
use Rattle.py_value.specs.declared.value.Value.{Value}
use Rattle.py_value.specs.declared.value.Value.TheVariants.{None as NoneValue, Bool as TruthValue, Int, Text, Tuple, Range, Fn, Class, Exc, Builtin, Object}
use Rattle.op_attributes.specs.Holders.{holder_in}
use Rattle.op_attributes.specs.Owns.{builtin_refused}
use Rattle.op_attributes.specs.declared.kinds.Holder.{Holder}
use Rattle.op_attributes.specs.declared.kinds.Holder.TheVariants.{Object as ObjectHolder, Class as ClassHolder, Text as TextHolder, Tuple as TupleHolder, Builtin as BuiltinHolder, Plain}
use Rattle.py_model.proofs.Tuples.{some_tuple}

abbrev pub get_by : ValuesView → List ℕ → Value → Holder → Plan
get_by table name v (ObjectHolder o) = getattr name (object o)
get_by table name v ClassHolder = class_attribute name no_method_value (contents table v)
get_by table name v TextHolder = not_there
get_by table name v TupleHolder = not_there
get_by table name v (BuiltinHolder number) = getattr name (builtin number)
get_by table name v Plain = no_attribute name

pub get_is : (table : ValuesView) (name : List ℕ) (v : Value) → getattr name (contents table v) ≡ get_by table name v (holder_in v)
get_is table name NoneValue = refl
get_is table name (TruthValue b) = refl
get_is table name (Int i) = refl
get_is table name (Text id) = refl
get_is table name (Tuple id) = ap (getattr name) (some_tuple table id).1
get_is table name (Range a b d) = refl
get_is table name (Fn at) = refl
get_is table name (Class at) = refl
get_is table name (Exc m) = refl
get_is table name (Builtin m) = refl
get_is table name (Object o) = refl

abbrev pub find_by : ValuesView → List ℕ → Value → Holder → Plan
find_by table name v (ObjectHolder o) = find name (object o)
find_by table name v ClassHolder = class_attribute name method_found (contents table v)
find_by table name v TextHolder = operation 91 text_methods name
find_by table name v TupleHolder = not_there
find_by table name v (BuiltinHolder number) = find name (builtin number)
find_by table name v Plain = no_attribute name

pub find_is : (table : ValuesView) (name : List ℕ) (v : Value) → find name (contents table v) ≡ find_by table name v (holder_in v)
find_is table name NoneValue = refl
find_is table name (TruthValue b) = refl
find_is table name (Int i) = refl
find_is table name (Text id) = refl
find_is table name (Tuple id) = ap (find name) (some_tuple table id).1
find_is table name (Range a b d) = refl
find_is table name (Fn at) = refl
find_is table name (Class at) = refl
find_is table name (Exc m) = refl
find_is table name (Builtin m) = refl
find_is table name (Object o) = refl

abbrev pub set_by : List ℕ → Contents → Holder → Plan
set_by name item (ObjectHolder o) = setattr name (object o) item
set_by name item ClassHolder = not_there
set_by name item TextHolder = not_there
set_by name item TupleHolder = not_there
set_by name item (BuiltinHolder number) = builtin_refused name number
set_by name item Plain = no_attribute name

pub set_is : (table : ValuesView) (name : List ℕ) (item : Contents) (v : Value) → setattr name (contents table v) item ≡ set_by name item (holder_in v)
set_is table name item NoneValue = refl
set_is table name item (TruthValue b) = refl
set_is table name item (Int i) = refl
set_is table name item (Text id) = refl
set_is table name item (Tuple id) = ap (λ c. setattr name c item) (some_tuple table id).1
set_is table name item (Range a b d) = refl
set_is table name item (Fn at) = refl
set_is table name item (Class at) = refl
set_is table name item (Exc m) = refl
set_is table name item (Builtin m) = refl
set_is table name item (Object o) = refl

-- what is read of a function or module of the language, by two tests
abbrev get_tested : List ℕ → Bool → Bool → Plan
get_tested name argv module_there = if argv then writes (done (object 0)) else if module_there then not_there else no_attribute name

pub get_builtin : (name : List ℕ) (number : ℕ) (a b : Bool) → ((number == sys_module) && bytes_eq name (codes "argv")) ≡ a → is_module number ≡ b → getattr name (builtin number) ≡ get_tested name a b
get_builtin name number a b first second = ap (λ x. get_tested name x (is_module number)) first ∙ ap (get_tested name a) second

-- what is called of one, by three tests
abbrev find_tested : List ℕ → ℕ → Bool → Bool → Bool → Plan
find_tested name number a b d = if a then getattr name (builtin number) else if b then operation 109 time_methods name else if d then operation 110 random_methods name else no_attribute name

pub find_builtin : (name : List ℕ) (number : ℕ) (a b d : Bool) → (number == 22) ≡ a → (number == 23) ≡ b → (number == 24) ≡ d
    → find name (builtin number) ≡ find_tested name number a b d
find_builtin name number a b d first second third = ap (λ x. find_tested name number x (number == 23) (number == 24)) first
    ∙ (ap (λ x. find_tested name number a x (number == 24)) second ∙ ap (find_tested name number a b) third)

abbrev set_tested : List ℕ → Bool → Plan
set_tested name b = if b then not_there else no_attribute name

pub set_builtin : (name : List ℕ) (number : ℕ) (b : Bool) → is_module number ≡ b → builtin_refused name number ≡ set_tested name b
set_builtin name number b is = ap (set_tested name) is

-- the same test of a name whose bytes are these
pub argv_on : (number : ℕ) {name bytes : List ℕ} {b : Bool} → name ≡ bytes → ((number == sys_module) && bytes_eq bytes (codes "argv")) ≡ b
    → ((number == sys_module) && bytes_eq name (codes "argv")) ≡ b
argv_on number same is = ap (λ bytes. (number == sys_module) && bytes_eq bytes (codes "argv")) same ∙ is
