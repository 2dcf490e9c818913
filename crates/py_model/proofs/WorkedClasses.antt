-- Worked rows of classes, exceptions and names, each found by computation.
use Rattle.std.proofs.Common.{◌≡◌, Some, None, List, [], ◌∷◌, codes, refl}
use Rattle.std.specs.Prelude.{ℕ, pos, true, false, map}
use Rattle.prov_base.specs.declared.place.Pos.{Pos}
use Rattle.py_value.specs.declared.access.Mode.TheVariants.{Read as ReadMode}
use Rattle.py_value.specs.Contents.{Contents, nothing, truth, int, text, tuple, range, function, class, exception_class, builtin, object, no_parts, part}
use Rattle.py_value.specs.Same.{put}
use Rattle.py_value.specs.Seen.{a_list, a_dict, an_instance, a_file, var_at, entry_at, order_at, closed_at, method_at, base_at, var_is, entry_is, order_is, closed_is, method_is, base_is, key_inserted, reads, sets, updates}
use Rattle.py_model.specs.Classes.{getattr, setattr, find, make, isinstance, define, define_method, begin_class, import_module}
use Rattle.py_model.specs.Effect.{Effect, Outcome, Answers, Touch, effect, answered, accessed, noted, looked, accesses_in}
use Rattle.py_model.specs.Faults.{base_class}
use Rattle.py_model.specs.Names.{known, const, load, bind, unbind, begin_with, end_with}
use Rattle.py_model.specs.Plan.{Plan, value, raised}
use Rattle.py_model.specs.Raising.{raise, matches, assertion_failed, call_failed}
use Rattle.py_model.specs.Store.{RunStore, empty}
use Rattle.py_model.proofs.WorkedStores.{answers_with, raises_in, r, s}

abbrev pub nobody : Answers
nobody = record { given = λ what. None; found = λ path. None }

abbrev pub place : ℕ → Pos
place number = record { line = number; col = 1 }

-- The class at 1:1 has the method `m`; the one at 5:1 derives from it, and the one at 7:1 from a class behind it; the class at 9:1
-- derives from KeyError and has an `__init__`, the one at 11:1 from Exception. The instances 1, 2 and 3 are of the classes at 5:1, 7:1
-- and 9:1, 4 is a KeyError, the file 5 is closed, 6 is not. The module has `x`, which is 3.
abbrev pub store : RunStore
store = record empty {
  at = put (method_at (place 1) (codes "m")) (method_is (place 2)) (put (base_at (place 1)) (base_is None)
      (put (base_at (place 5)) (base_is (Some (class (place 1))))
      (put (base_at (place 7)) (base_is (Some (class (place 8))))
      (put (base_at (place 9)) (base_is (Some (exception_class 6)))
      (put (method_at (place 9) (codes "__init__")) (method_is (place 10))
      (put (entry_at 1 (text (codes "x"))) (entry_is (Some (text (codes "x"), int (pos 4))))
      (put (closed_at 5) (closed_is true)
      (put (var_at 0 (codes "x")) (var_is (Some (int (pos 3))))
      (put (base_at (place 11)) (base_is (Some (exception_class 0)))
      (λ l. None))))))))));
  kinds = a_list ∷ an_instance (class (place 5)) ∷ an_instance (class (place 7)) ∷ an_instance (class (place 9)) ∷ an_instance (exception_class 6) ∷ a_file (codes "p") ReadMode ∷ a_file (codes "p") ReadMode ∷ [];
}

abbrev pub does : Plan → Effect
does plan = effect store nobody plan

-- what is touched where an exception with a text is made and raised, and where one with these arguments is
abbrev pub thrown_with : Contents → List Touch
thrown_with items = accessed (sets (order_at 7) (order_is (text (codes "args") ∷ []))) ∷ accessed (sets (entry_at 7 (text (codes "args"))) (entry_is (Some (text (codes "args"), items)))) ∷ []

abbrev pub thrown_text : List ℕ → List Touch
thrown_text words = thrown_with (tuple (part (text words) no_parts))

-- attributes
getattr_entry : does (getattr (codes "x") (object 1)) ≡ record {
  outcome = answered (value (int (pos 4)));
  made = None;
  touches = accessed (reads (entry_at 1 (text (codes "x")))) ∷ [];
}
getattr_entry = refl

getattr_argv : does (getattr (codes "argv") (builtin 22)) ≡ record { outcome = answered (value (object 0)); made = None; touches = [] }
getattr_argv = refl

-- a method is no value, though it is found through the base
getattr_method : does (getattr (codes "m") (object 1)) ≡ record {
  outcome = answered (raised 7);
  made = Some (an_instance (exception_class 13));
  touches = accessed (reads (entry_at 1 (text (codes "m")))) ∷ accessed (reads (method_at (place 5) (codes "m"))) ∷ accessed (reads (base_at (place 5)))
      ∷ accessed (reads (method_at (place 1) (codes "m"))) ∷ thrown_text (codes "not in this profile");
}
getattr_method = refl

-- the base of the class at 7:1 is not before it and ends the chain
getattr_missing : does (getattr (codes "m") (object 2)) ≡ record {
  outcome = answered (raised 7);
  made = Some (an_instance (exception_class 11));
  touches = accessed (reads (entry_at 2 (text (codes "m")))) ∷ accessed (reads (method_at (place 7) (codes "m"))) ∷ accessed (reads (base_at (place 7)))
      ∷ thrown_text (codes "no attribute 'm'");
}
getattr_missing = refl

find_method : does (find (codes "m") (object 1)) ≡ record {
  outcome = answered (value (function (place 2)));
  made = None;
  touches = accessed (reads (entry_at 1 (text (codes "m")))) ∷ accessed (reads (method_at (place 5) (codes "m"))) ∷ accessed (reads (base_at (place 5)))
      ∷ accessed (reads (method_at (place 1) (codes "m"))) ∷ [];
}
find_method = refl

find_in_class : (does (find (codes "m") (class (place 5)))).outcome ≡ answered (value (function (place 2)))
find_in_class = refl

find_argv : (does (find (codes "argv") (builtin 22))).outcome ≡ answered (value (object 0))
find_argv = refl

find_no_tuple : (does (find (codes "index") (tuple no_parts))).made ≡ Some (an_instance (exception_class 13))
find_no_tuple = refl

find_operations : (does (find (codes "sort") (object 0))).outcome ≡ answered (value (builtin 86))
find_operations = refl

find_randrange : (does (find (codes "randrange") (builtin 24))).outcome ≡ answered (value (builtin 111))
find_randrange = refl

find_rjust : (does (find (codes "rjust") (text []))).outcome ≡ answered (value (builtin 104))
find_rjust = refl

find_nothing : does (find (codes "m") nothing) ≡ record { outcome = answered (raised 7); made = Some (an_instance (exception_class 11)); touches = thrown_text (codes "no attribute 'm'") }
find_nothing = refl

setattr_new : does (setattr (codes "y") (object 1) nothing) ≡ record {
  outcome = answered (value nothing);
  made = None;
  touches = accessed (reads (entry_at 1 (text (codes "y")))) ∷ accessed (sets (entry_at 1 (text (codes "y"))) (entry_is (Some (text (codes "y"), nothing))))
      ∷ accessed (updates (order_at 1) (key_inserted (text (codes "y")))) ∷ [];
}
setattr_new = refl

setattr_class : (does (setattr (codes "y") (class (place 1)) nothing)).made ≡ Some (an_instance (exception_class 13))
setattr_class = refl

-- instances
make_exception : does (make (class (place 9)) (int (pos 1) ∷ [])) ≡ record {
  outcome = answered (value (object 7));
  made = Some (an_instance (class (place 9)));
  touches = accessed (reads (method_at (place 9) (codes "__init__"))) ∷ accessed (reads (base_at (place 9))) ∷ thrown_with (tuple (part (int (pos 1)) no_parts));
}
make_exception = refl

make_instance : does (make (class (place 5)) []) ≡ record {
  outcome = answered (value (object 7));
  made = Some (an_instance (class (place 5)));
  touches = accessed (reads (method_at (place 5) (codes "__init__"))) ∷ accessed (reads (base_at (place 5))) ∷ accessed (reads (method_at (place 1) (codes "__init__")))
      ∷ accessed (reads (base_at (place 1))) ∷ accessed (reads (base_at (place 5))) ∷ accessed (reads (base_at (place 1))) ∷ accessed (sets (order_at 7) (order_is [])) ∷ [];
}
make_instance = refl

isinstance_tuple : does (isinstance (object 1) (tuple (part (builtin 6) (part (class (place 1)) no_parts)))) ≡ record {
  outcome = answered (value (truth true));
  made = None;
  touches = looked 1 ∷ looked 1 ∷ accessed (reads (base_at (place 5))) ∷ [];
}
isinstance_tuple = refl

isinstance_truth : (does (isinstance (truth true) (builtin 6))).outcome ≡ answered (value (truth true))
isinstance_truth = refl

isinstance_wrong : does (isinstance (int (pos 1)) (tuple (part (builtin 6) (part (int (pos 5)) no_parts)))) ≡ record {
  outcome = answered (raised 7);
  made = Some (an_instance (exception_class 9));
  touches = thrown_text (codes "wrong kind of value");
}
isinstance_wrong = refl

-- definitions
define_function : (does (define (codes "f") (function (place 3)))).touches ≡ noted (place 3) (codes "f") ∷ accessed (sets (var_at 0 (codes "f")) (var_is (Some (function (place 3))))) ∷ []
define_function = refl

define_in_class : (does (define_method (codes "f") (function (place 6)) (class (place 5)))).touches ≡ noted (place 6) (codes "f") ∷ accessed (sets (method_at (place 5) (codes "f")) (method_is (place 6))) ∷ []
define_in_class = refl

class_with_base : does (begin_class (codes "C") (class (place 3)) (Some (exception_class 0))) ≡ record {
  outcome = answered (value (class (place 3)));
  made = None;
  touches = noted (place 3) (codes "C") ∷ accessed (sets (base_at (place 3)) (base_is (Some (exception_class 0)))) ∷ [];
}
class_with_base = refl

class_of_int : (does (begin_class (codes "C") (class (place 3)) (Some (builtin 6)))).made ≡ Some (an_instance (exception_class 9))
class_of_int = refl

imports : accesses_in (does (import_module 2 (codes "sys") (builtin 22))).touches ≡ sets (var_at 2 (codes "sys")) (var_is (Some (builtin 22))) ∷ []
imports = refl

-- raising and matching
raise_class : does (raise (exception_class 10)) ≡ record { outcome = answered (raised 7); made = Some (an_instance (exception_class 10)); touches = thrown_with (tuple no_parts) }
raise_class = refl

raise_derived : accesses_in (does (raise (class (place 11)))).touches ≡
    reads (base_at (place 11)) ∷ reads (method_at (place 11) (codes "__init__")) ∷ reads (base_at (place 11)) ∷ reads (base_at (place 11))
    ∷ accesses_in (thrown_with (tuple no_parts))
raise_derived = refl

raise_int : does (raise (int (pos 1))) ≡ record { outcome = answered (raised 7); made = Some (an_instance (exception_class 9)); touches = thrown_text (codes "wrong kind of value") }
raise_int = refl

raise_with_init : does (raise (class (place 9))) ≡ record {
  outcome = answered (raised 7);
  made = Some (an_instance (exception_class 13));
  touches = accessed (reads (base_at (place 9))) ∷ accessed (reads (method_at (place 9) (codes "__init__"))) ∷ thrown_text (codes "not in this profile");
}
raise_with_init = refl

raise_again : does (raise (object 3)) ≡ record { outcome = answered (raised 3); made = None; touches = accessed (reads (base_at (place 9))) ∷ [] }
raise_again = refl

raise_no_exception : does (raise (object 1)) ≡ record {
  outcome = answered (raised 7);
  made = Some (an_instance (exception_class 9));
  touches = accessed (reads (base_at (place 5))) ∷ accessed (reads (base_at (place 1))) ∷ thrown_text (codes "wrong kind of value");
}
raise_no_exception = refl

-- the chain of the class at 9:1 goes through KeyError to LookupError
match_tuple : does (matches (object 3) (tuple (part (exception_class 1) (part (exception_class 4) no_parts)))) ≡ record {
  outcome = answered (value (truth true));
  made = None;
  touches = looked 1 ∷ accessed (reads (base_at (place 9))) ∷ looked 1 ∷ accessed (reads (base_at (place 9))) ∷ [];
}
match_tuple = refl

match_other : does (matches (object 4) (class (place 5))) ≡ record { outcome = answered (value (truth false)); made = None; touches = [] }
match_other = refl

match_wrong : (does (matches (object 4) (builtin 6))).made ≡ Some (an_instance (exception_class 9))
match_wrong = refl

assertion : does (assertion_failed []) ≡ record { outcome = answered (raised 7); made = Some (an_instance (exception_class 18)); touches = thrown_with (tuple no_parts) }
assertion = refl

not_callable : (does (call_failed (int (pos 0)))).touches ≡ thrown_text (codes "not callable")
not_callable = refl

wrong_number : (does (call_failed (int (pos 1)))).touches ≡ thrown_text (codes "wrong number of arguments")
wrong_number = refl

too_many_open : (does (call_failed (int (pos 2)))).made ≡ Some (an_instance (exception_class 14))
too_many_open = refl

-- names
constant : does (const nothing) ≡ record { outcome = answered (value nothing); made = None; touches = [] }
constant = refl

load_global : does (load 0 (codes "x")) ≡ record { outcome = answered (value (int (pos 3))); made = None; touches = accessed (reads (var_at 0 (codes "x"))) ∷ [] }
load_global = refl

load_function : (does (load 0 (codes "zip"))).outcome ≡ answered (value (builtin 21))
load_function = refl

load_class : (does (load 0 (codes "AssertionError"))).outcome ≡ answered (value (exception_class 18))
load_class = refl

load_unknown : does (load 0 (codes "y")) ≡ record {
  outcome = answered (raised 7);
  made = Some (an_instance (exception_class 7));
  touches = accessed (reads (var_at 0 (codes "y"))) ∷ thrown_text (codes "name 'y' is not defined");
}
load_unknown = refl

load_local : does (load 2 (codes "len")) ≡ record {
  outcome = answered (raised 7);
  made = Some (an_instance (exception_class 8));
  touches = accessed (reads (var_at 2 (codes "len"))) ∷ thrown_text (codes "local name 'len' is not set");
}
load_local = refl

bind_local : accesses_in (does (bind 2 (codes "y") nothing)).touches ≡ sets (var_at 2 (codes "y")) (var_is (Some nothing)) ∷ []
bind_local = refl

unbind_global : accesses_in (does (unbind false 0 (codes "x"))).touches ≡ reads (var_at 0 (codes "x")) ∷ sets (var_at 0 (codes "x")) (var_is None) ∷ []
unbind_global = refl

unbind_unset : (does (unbind false 0 (codes "len"))).made ≡ Some (an_instance (exception_class 7))
unbind_unset = refl

unbind_at_end : does (unbind true 2 (codes "e")) ≡ record {
  outcome = answered (value nothing);
  made = None;
  touches = accessed (reads (var_at 2 (codes "e"))) ∷ accessed (sets (var_at 2 (codes "e")) (var_is None)) ∷ [];
}
unbind_at_end = refl

with_open : does (begin_with (object 6)) ≡ record { outcome = answered (value (object 6)); made = None; touches = accessed (reads (closed_at 6)) ∷ [] }
with_open = refl

with_closed : does (begin_with (object 5)) ≡ record {
  outcome = answered (raised 7);
  made = Some (an_instance (exception_class 10));
  touches = accessed (reads (closed_at 5)) ∷ thrown_text (codes "file is closed");
}
with_closed = refl

close_at_end : accesses_in (does (end_with (object 6))).touches ≡ sets (closed_at 6) (closed_is true) ∷ []
close_at_end = refl

-- more attributes: what each kind of value refuses
abbrev refuses : Plan → ℕ → List ℕ → Type 0
refuses plan number words = does plan ≡ raises_in store [] number (text words)

getattr_of_text : refuses (getattr (codes "upper") (text [])) 13 (codes "not in this profile")
getattr_of_text = refl

getattr_of_tuple : refuses (getattr (codes "x") (tuple no_parts)) 13 (codes "not in this profile")
getattr_of_tuple = refl

getattr_of_list : refuses (getattr (codes "append") (object 0)) 13 (codes "not in this profile")
getattr_of_list = refl

getattr_of_file : refuses (getattr (codes "read") (object 6)) 13 (codes "not in this profile")
getattr_of_file = refl

getattr_of_module : refuses (getattr (codes "time_ns") (builtin 23)) 13 (codes "not in this profile")
getattr_of_module = refl

getattr_of_argv_elsewhere : refuses (getattr (codes "argv") (builtin 24)) 13 (codes "not in this profile")
getattr_of_argv_elsewhere = refl

getattr_of_function : refuses (getattr (codes "x") (function (place 2))) 11 (codes "no attribute 'x'")
getattr_of_function = refl

getattr_of_range : refuses (getattr (codes "x") (range (pos 0) (pos 1) (pos 1))) 11 (codes "no attribute 'x'")
getattr_of_range = refl

getattr_of_builtin : refuses (getattr (codes "x") (builtin 21)) 11 (codes "no attribute 'x'")
getattr_of_builtin = refl

getattr_of_exception_class : refuses (getattr (codes "args") (exception_class 0)) 11 (codes "no attribute 'args'")
getattr_of_exception_class = refl

getattr_of_class : does (getattr (codes "m") (class (place 5))) ≡
    raises_in store (r (method_at (place 5) (codes "m")) ∷ r (base_at (place 5)) ∷ r (method_at (place 1) (codes "m")) ∷ []) 13 (text (codes "not in this profile"))
getattr_of_class = refl

find_entry : does (find (codes "x") (object 1)) ≡ answers_with (int (pos 4)) (r (entry_at 1 (text (codes "x"))) ∷ [])
find_entry = refl

find_missing : does (find (codes "y") (object 4)) ≡ raises_in store (r (entry_at 4 (text (codes "y"))) ∷ []) 11 (text (codes "no attribute 'y'"))
find_missing = refl

find_write : (does (find (codes "write") (object 6))).outcome ≡ answered (value (builtin 107))
find_write = refl

find_time : (does (find (codes "time_ns") (builtin 23))).outcome ≡ answered (value (builtin 109))
find_time = refl

find_of_list : refuses (find (codes "keys") (object 0)) 13 (codes "not in this profile")
find_of_list = refl

find_of_module : refuses (find (codes "randint") (builtin 22)) 13 (codes "not in this profile")
find_of_module = refl

find_of_builtin : refuses (find (codes "m") (builtin 0)) 11 (codes "no attribute 'm'")
find_of_builtin = refl

setattr_there : does (setattr (codes "x") (object 1) nothing) ≡
    answers_with nothing (r (entry_at 1 (text (codes "x"))) ∷ s (entry_at 1 (text (codes "x"))) (entry_is (Some (text (codes "x"), nothing))) ∷ [])
setattr_there = refl

setattr_of_list : refuses (setattr (codes "x") (object 0) nothing) 13 (codes "not in this profile")
setattr_of_list = refl

setattr_of_module : refuses (setattr (codes "argv") (builtin 22) nothing) 13 (codes "not in this profile")
setattr_of_module = refl

setattr_of_exception_class : refuses (setattr (codes "x") (exception_class 0) nothing) 13 (codes "not in this profile")
setattr_of_exception_class = refl

setattr_of_builtin : refuses (setattr (codes "x") (builtin 8) nothing) 11 (codes "no attribute 'x'")
setattr_of_builtin = refl

setattr_of_int : refuses (setattr (codes "x") (int (pos 1)) nothing) 11 (codes "no attribute 'x'")
setattr_of_int = refl

-- a class of the language reads nothing when it is made
make_key_error : does (make (exception_class 6) []) ≡ record {
  outcome = answered (value (object 7));
  made = Some (an_instance (exception_class 6));
  touches = thrown_with (tuple no_parts);
}
make_key_error = refl

-- kinds of values
abbrev is : Contents → Contents → Effect
is v kind = does (isinstance v kind)

an_int_is_no_bool : is (int (pos 1)) (builtin 1) ≡ answers_with (truth false) []
an_int_is_no_bool = refl

a_truth_is_bool : is (truth false) (builtin 1) ≡ answers_with (truth true) []
a_truth_is_bool = refl

a_list_is_list : is (object 0) (builtin 9) ≡ answers_with (truth true) []
a_list_is_list = refl

a_list_is_no_dict : is (object 0) (builtin 3) ≡ answers_with (truth false) []
a_list_is_no_dict = refl

an_instance_is_no_list : is (object 1) (builtin 9) ≡ answers_with (truth false) []
an_instance_is_no_list = refl

a_text_is_str : is (text []) (builtin 18) ≡ answers_with (truth true) []
a_text_is_str = refl

a_tuple_is_tuple : is (tuple no_parts) (builtin 20) ≡ answers_with (truth true) []
a_tuple_is_tuple = refl

none_is_of_no_class : is nothing (class (place 1)) ≡ answers_with (truth false) []
none_is_of_no_class = refl

of_no_kind : is (int (pos 1)) (tuple no_parts) ≡ answers_with (truth false) []
of_no_kind = refl

of_its_own_class : is (object 1) (class (place 5)) ≡ answers_with (truth true) []
of_its_own_class = refl

of_another_class : is (object 1) (class (place 9)) ≡ answers_with (truth false) (r (base_at (place 5)) ∷ r (base_at (place 1)) ∷ [])
of_another_class = refl

of_a_base_of_the_language : is (object 3) (exception_class 0) ≡ answers_with (truth true) (r (base_at (place 9)) ∷ [])
of_a_base_of_the_language = refl

of_none_of_two : is (object 0) (tuple (part (builtin 3) (part (builtin 18) no_parts))) ≡ answers_with (truth false) (looked 1 ∷ looked 1 ∷ [])
of_none_of_two = refl

len_names_no_kind : is (int (pos 1)) (builtin 8) ≡ raises_in store [] 9 (text (codes "wrong kind of value"))
len_names_no_kind = refl

-- a tuple in the tuple is no class
tuple_in_tuple : is (int (pos 1)) (tuple (part (builtin 6) (part (tuple (part (builtin 6) no_parts)) no_parts))) ≡ raises_in store [] 9 (text (codes "wrong kind of value"))
tuple_in_tuple = refl

class_without_base : does (begin_class (codes "C") (class (place 3)) None) ≡ answers_with (class (place 3)) (noted (place 3) (codes "C") ∷ s (base_at (place 3)) (base_is None) ∷ [])
class_without_base = refl

class_of_int_notes_nothing : does (begin_class (codes "C") (class (place 3)) (Some (builtin 6))) ≡ raises_in store [] 9 (text (codes "wrong kind of value"))
class_of_int_notes_nothing = refl

-- an inherited `__init__` counts too; where the class is no exception it is not looked for
abbrev heirs : RunStore
heirs = record store { at = put (base_at (place 13)) (base_is (Some (class (place 9)))) store.at }

raise_with_inherited_init : effect heirs nobody (raise (class (place 13))) ≡ raises_in heirs
    (r (base_at (place 13)) ∷ r (base_at (place 9)) ∷ r (method_at (place 13) (codes "__init__")) ∷ r (base_at (place 13)) ∷ r (method_at (place 9) (codes "__init__")) ∷ [])
    13 (text (codes "not in this profile"))
raise_with_inherited_init = refl

-- a base on the same line, before its class and behind it
abbrev inline : Pos → RunStore
inline base = record store { at = put (base_at (record { line = 20; col = 5 })) (base_is (Some (class base))) store.at }

raise_of_base_before : effect (inline (record { line = 20; col = 1 })) nobody (raise (class (record { line = 20; col = 5 }))) ≡ raises_in store
    (r (base_at (record { line = 20; col = 5 })) ∷ r (base_at (record { line = 20; col = 1 })) ∷ []) 9 (text (codes "wrong kind of value"))
raise_of_base_before = refl

raise_of_base_behind : effect (inline (record { line = 20; col = 9 })) nobody (raise (class (record { line = 20; col = 5 }))) ≡ raises_in store
    (r (base_at (record { line = 20; col = 5 })) ∷ []) 9 (text (codes "wrong kind of value"))
raise_of_base_behind = refl

raise_of_no_exception_class : does (raise (class (place 5))) ≡ raises_in store (r (base_at (place 5)) ∷ r (base_at (place 1)) ∷ []) 9 (text (codes "wrong kind of value"))
raise_of_no_exception_class = refl

raise_of_the_language : does (raise (object 4)) ≡ record { outcome = answered (raised 4); made = None; touches = [] }
raise_of_the_language = refl

raise_list : does (raise (object 0)) ≡ raises_in store [] 9 (text (codes "wrong kind of value"))
raise_list = refl

-- a class that is no exception matches nothing, behind a walk to the end; one that is no class is refused before any
match_no_exception : does (matches (object 3) (class (place 5))) ≡ answers_with (truth false) (r (base_at (place 9)) ∷ [])
match_no_exception = refl

match_lookup_error : does (matches (object 4) (exception_class 4)) ≡ answers_with (truth true) []
match_lookup_error = refl

match_no_derived : does (matches (object 4) (exception_class 5)) ≡ answers_with (truth false) []
match_no_derived = refl

match_wrong_item : does (matches (object 4) (tuple (part (exception_class 6) (part (builtin 6) no_parts)))) ≡ raises_in store [] 9 (text (codes "wrong kind of value"))
match_wrong_item = refl

match_none : does (matches (object 3) (tuple no_parts)) ≡ answers_with (truth false) []
match_none = refl

assertion_with_message : does (assertion_failed (int (pos 1) ∷ [])) ≡ raises_in store [] 18 (int (pos 1))
assertion_with_message = refl

too_many_open_text : (does (call_failed (int (pos 2)))).touches ≡ thrown_text (codes "nested too deep")
too_many_open_text = refl

-- a name of the language that the module binds
shadowed : effect (record store { at = put (var_at 0 (codes "len")) (var_is (Some nothing)) store.at }) nobody (load 0 (codes "len")) ≡ answers_with nothing (r (var_at 0 (codes "len")) ∷ [])
shadowed = refl

-- and one that it has unbound again is the language's
abbrev unbound : RunStore
unbound = record store { at = put (var_at 2 (codes "y")) (var_is None) (put (var_at 0 (codes "len")) (var_is None) store.at) }

no_longer_shadowed : effect unbound nobody (load 0 (codes "len")) ≡ answers_with (builtin 8) (r (var_at 0 (codes "len")) ∷ [])
no_longer_shadowed = refl

unbind_twice : effect unbound nobody (unbind false 2 (codes "y")) ≡ raises_in unbound (r (var_at 2 (codes "y")) ∷ []) 8 (text (codes "local name 'y' is not set"))
unbind_twice = refl

load_module_name : does (load 0 (codes "sys")) ≡ raises_in store (r (var_at 0 (codes "sys")) ∷ []) 7 (text (codes "name 'sys' is not defined"))
load_module_name = refl

with_int : does (begin_with (int (pos 1))) ≡ raises_in store [] 9 (text (codes "wrong kind of value"))
with_int = refl

with_list : does (begin_with (object 0)) ≡ raises_in store [] 9 (text (codes "wrong kind of value"))
with_list = refl

-- the names of the language with their numbers, and the bases of its classes
known_classes : map known (codes "Exception" ∷ codes "ArithmeticError" ∷ codes "ZeroDivisionError" ∷ codes "OverflowError" ∷ codes "LookupError" ∷ codes "IndexError" ∷ codes "KeyError" ∷ codes "NameError" ∷ codes "UnboundLocalError"
    ∷ codes "TypeError" ∷ codes "ValueError" ∷ codes "AttributeError" ∷ codes "RuntimeError" ∷ codes "NotImplementedError" ∷ codes "RecursionError" ∷ codes "OSError" ∷ codes "FileNotFoundError" ∷ codes "EOFError" ∷ codes "AssertionError" ∷ []) ≡ map (λ n. Some (exception_class n)) (0 ∷ 1 ∷ 2 ∷ 3 ∷ 4 ∷ 5 ∷ 6 ∷ 7 ∷ 8 ∷ 9 ∷ 10 ∷ 11 ∷ 12 ∷ 13 ∷ 14 ∷ 15 ∷ 16 ∷ 17 ∷ 18 ∷ [])
known_classes = refl

bases : map base_class (0 ∷ 1 ∷ 2 ∷ 3 ∷ 4 ∷ 5 ∷ 6 ∷ 7 ∷ 8 ∷ 9 ∷ 10 ∷ 11 ∷ 12 ∷ 13 ∷ 14 ∷ 15 ∷ 16 ∷ 17 ∷ 18 ∷ []) ≡ None ∷ Some 0 ∷ Some 1 ∷ Some 1 ∷ Some 0 ∷ Some 4 ∷ Some 4 ∷ Some 0 ∷ Some 7 ∷ Some 0 ∷ Some 0 ∷ Some 0 ∷ Some 0 ∷ Some 12 ∷ Some 12 ∷ Some 0 ∷ Some 15 ∷ Some 0 ∷ Some 0 ∷ []
bases = refl

known_functions : map known (codes "abs" ∷ codes "bool" ∷ codes "chr" ∷ codes "dict" ∷ codes "enumerate" ∷ codes "input" ∷ codes "int" ∷ codes "isinstance" ∷ codes "len" ∷ codes "list" ∷ codes "max"
    ∷ codes "min" ∷ codes "open" ∷ codes "ord" ∷ codes "print" ∷ codes "range" ∷ codes "repr" ∷ codes "sorted" ∷ codes "str" ∷ codes "sum" ∷ codes "tuple" ∷ codes "zip" ∷ []) ≡ map (λ n. Some (builtin n)) (0 ∷ 1 ∷ 2 ∷ 3 ∷ 4 ∷ 5 ∷ 6 ∷ 7 ∷ 8 ∷ 9 ∷ 10 ∷ 11 ∷ 12 ∷ 13 ∷ 14 ∷ 15 ∷ 16 ∷ 17 ∷ 18 ∷ 19 ∷ 20 ∷ 21 ∷ [])
known_functions = refl

-- the names of methods with their numbers
abbrev found_in : Contents → List (List ℕ) → List Outcome
found_in v names = map (λ name. (does (find name v)).outcome) names

abbrev operations : List ℕ → List Outcome
operations numbers = map (λ n. answered (value (builtin n))) numbers

methods_of_lists : found_in (object 0) (codes "append" ∷ codes "extend" ∷ codes "insert" ∷ codes "pop" ∷ codes "index" ∷ codes "reverse" ∷ codes "sort" ∷ []) ≡ operations (80 ∷ 81 ∷ 82 ∷ 83 ∷ 84 ∷ 85 ∷ 86 ∷ [])
methods_of_lists = refl

methods_of_texts : found_in (text []) (codes "strip" ∷ codes "lstrip" ∷ codes "rstrip" ∷ codes "split" ∷ codes "join" ∷ codes "replace" ∷ codes "find"
    ∷ codes "startswith" ∷ codes "endswith" ∷ codes "upper" ∷ codes "lower" ∷ codes "isdigit" ∷ codes "ljust" ∷ codes "rjust" ∷ []) ≡ operations (91 ∷ 92 ∷ 93 ∷ 94 ∷ 95 ∷ 96 ∷ 97 ∷ 98 ∷ 99 ∷ 100 ∷ 101 ∷ 102 ∷ 103 ∷ 104 ∷ [])
methods_of_texts = refl

methods_of_files : found_in (object 5) (codes "read" ∷ codes "readline" ∷ codes "write" ∷ codes "close" ∷ []) ≡ operations (105 ∷ 106 ∷ 107 ∷ 108 ∷ [])
methods_of_files = refl

methods_of_random : found_in (builtin 24) (codes "randint" ∷ codes "randrange" ∷ []) ≡ operations (110 ∷ 111 ∷ [])
methods_of_random = refl

methods_of_dicts : map (λ name. (effect (record empty { kinds = a_dict ∷ [] }) nobody (find name (object 0))).outcome) (codes "get" ∷ codes "items" ∷ codes "keys" ∷ codes "values" ∷ []) ≡ operations (87 ∷ 88 ∷ 89 ∷ 90 ∷ [])
methods_of_dicts = refl
