-- Whether values are of a kind, by what values and objects are.
use Rattle.std.proofs.Common.{◌≡◌, refl, sym, ap, ◌∙◌, subst, ℕ, ℤ, Bool, false, List, Option, Some, None, Result}
use Rattle.prov_base.specs.declared.place.Pos.{Pos}
use Rattle.py_model.specs.Classes.{longest_chain, class_walk, value_is, object_is as plan_object_is}
use Rattle.py_model.specs.Plan.{Plan}
use Rattle.py_value.specs.Contents.{Contents, Parts, contents, nothing, truth, int, text, tuple, range, function, class, exception_class, builtin, object}
use Rattle.py_value.specs.Seen.{SeenKind, bytes_of, a_list, a_dict, an_instance, a_file}
use Rattle.py_value.specs.Values.{ValuesView}
use Rattle.py_value.specs.declared.access.Kind.{Kind}
use Rattle.py_value.specs.declared.access.Kind.TheVariants.{List as ListKind, Dict as DictKind, Instance, File as FileKind}
use Rattle.py_value.specs.declared.access.Mode.{Mode}
use Rattle.py_value.specs.declared.value.Value.{Value}
use Rattle.py_value.specs.declared.value.Value.TheVariants.{None as NoneValue, Bool as TruthValue, Int, Text, Tuple, Range, Fn, Class, Exc, Builtin, Object}
use Rattle.op_classes.specs.Kinds.{object_in, instance_of}
use Rattle.op_classes.proofs.WithFiles.{Known}
use Rattle.op_classes.specs.ObjectKinds.{builtin_in, kind_named, value_named, plain_named}
use Rattle.op_work.proofs.Going.{comes_then}
use Rattle.py_model.proofs.Tuples.{some_tuple}
use Rattle.op_work.specs.Work.{WorkView, Comes, is_any, as_is, seen_kind}
use Rattle.op_work.specs.declared.stop.Stop.{Stop}

-- what holds of all contents but functions and modules of the language
non_builtin : (P : Contents → Type 0) → P nothing → ((b : Bool) → P (truth b)) → ((i : ℤ) → P (int i)) → ((bytes : List ℕ) → P (text bytes)) → ((ps : Parts) → P (tuple ps))
    → ((a b d : ℤ) → P (range a b d)) → ((at : Pos) → P (function at)) → ((at : Pos) → P (class at)) → ((m : ℕ) → P (exception_class m)) → ((o : ℕ) → P (object o))
    → (table : ValuesView) (v : Value) → builtin_in v ≡ None → P (contents table v)
non_builtin P n b i t u r f c e o table NoneValue is = n
non_builtin P n b i t u r f c e o table (TruthValue x) is = b x
non_builtin P n b i t u r f c e o table (Int x) is = i x
non_builtin P n b i t u r f c e o table (Text id) is = t _
non_builtin P n b i t u r f c e o table (Tuple id) is = subst P (sym (some_tuple table id).1) (u (some_tuple table id).0)
non_builtin P n b i t u r f c e o table (Range x y z) is = r x y z
non_builtin P n b i t u r f c e o table (Fn at) is = f at
non_builtin P n b i t u r f c e o table (Class at) is = c at
non_builtin P n b i t u r f c e o table (Exc m) is = e m
non_builtin P n b i t u r f c e o table (Builtin m) is = cc
non_builtin P n b i t u r f c e o table (Object x) is = o x

-- an object that is no instance is of no class
module _ (go : Bool → Plan) where
  none_is : (table : ValuesView) (v : Value) → builtin_in v ≡ None → plan_object_is (contents table v) go None ≡ go false
  none_is = non_builtin (λ c. plan_object_is c go None ≡ go false) refl (λ x. refl) (λ x. refl) (λ x. refl) (λ x. refl) (λ x y z. refl) (λ x. refl) (λ x. refl) (λ x. refl) (λ x. refl)

  list_is : (table : ValuesView) (v : Value) → builtin_in v ≡ None → plan_object_is (contents table v) go (Some a_list) ≡ go false
  list_is = non_builtin (λ c. plan_object_is c go (Some a_list) ≡ go false) refl (λ x. refl) (λ x. refl) (λ x. refl) (λ x. refl) (λ x y z. refl) (λ x. refl) (λ x. refl) (λ x. refl) (λ x. refl)

  dict_is : (table : ValuesView) (v : Value) → builtin_in v ≡ None → plan_object_is (contents table v) go (Some a_dict) ≡ go false
  dict_is = non_builtin (λ c. plan_object_is c go (Some a_dict) ≡ go false) refl (λ x. refl) (λ x. refl) (λ x. refl) (λ x. refl) (λ x y z. refl) (λ x. refl) (λ x. refl) (λ x. refl) (λ x. refl)

  file_is : (path : List ℕ) (mode : Mode) (table : ValuesView) (v : Value) → builtin_in v ≡ None → plan_object_is (contents table v) go (Some (a_file path mode)) ≡ go false
  file_is path mode = non_builtin (λ c. plan_object_is c go (Some (a_file path mode)) ≡ go false) refl (λ x. refl) (λ x. refl) (λ x. refl) (λ x. refl) (λ x y z. refl) (λ x. refl) (λ x. refl) (λ x. refl) (λ x. refl)

  -- an instance walks from its class
  instance_is : (of : Contents) (table : ValuesView) (v : Value) → builtin_in v ≡ None → plan_object_is (contents table v) go (Some (an_instance of)) ≡ class_walk longest_chain (contents table v) of go
  instance_is of = non_builtin (λ c. plan_object_is c go (Some (an_instance of)) ≡ class_walk longest_chain c of go) refl (λ x. refl) (λ x. refl) (λ x. refl) (λ x. refl) (λ x y z. refl) (λ x. refl) (λ x. refl) (λ x. refl) (λ x. refl)

abbrev pub by_object : Value → ValuesView → Option SeenKind → (Bool → Plan) → Plan
by_object sought table kind go = plan_object_is (contents table sought) go kind

module _ (o : ℕ) (sought : Value) {a b : WorkView} {result : Result Bool Stop} (no_name : builtin_in sought ≡ None) where
  pub of_no_class : (kind : Option Kind) → instance_of kind ≡ None → Known o a kind → Comes is_any as_is (λ (table : ValuesView) (go : Bool → Plan). go false) a b result
      → Comes is_any as_is (λ table. value_is (contents table (Object o)) (contents table sought)) a b result
  of_no_class None is known comes = comes_then (by_object sought) known (λ table interned extends go. none_is go table sought no_name) comes
  of_no_class (Some ListKind) is known comes = comes_then (by_object sought) known (λ table interned extends go. list_is go table sought no_name) comes
  of_no_class (Some DictKind) is known comes = comes_then (by_object sought) known (λ table interned extends go. dict_is go table sought no_name) comes
  of_no_class (Some (Instance of)) is known comes = cc
  of_no_class (Some (FileKind path mode)) is known comes = comes_then (by_object sought) known (λ table interned extends go. file_is go _ mode table sought no_name) comes

  pub of_class : (kind : Option Kind) (of : Value) → instance_of kind ≡ Some of → Known o a kind
      → Comes is_any as_is (λ table. class_walk longest_chain (contents table sought) (contents table of)) a b result
      → Comes is_any as_is (λ table. value_is (contents table (Object o)) (contents table sought)) a b result
  of_class None of is known comes = cc
  of_class (Some ListKind) of is known comes = cc
  of_class (Some DictKind) of is known comes = cc
  of_class (Some (Instance other)) of is known comes = comes_then (by_object sought) known
      (λ table interned extends go. instance_is go (contents table other) table sought no_name ∙ ap (λ v. class_walk longest_chain (contents table sought) (contents table v) go) (one other of is)) comes
    where
      one : (v w : Value) → Some v ≡ Some w → v ≡ w
      one v w is = cc
  of_class (Some (FileKind path mode)) of is known comes = cc

-- an object is of the kind that is named
pub object_named : (table : ValuesView) (kind : Option Kind) (number : ℕ) (go : Bool → Plan) → plan_object_is (builtin number) go (seen_kind table kind) ≡ go (kind_named kind number)
object_named table None number go = refl
object_named table (Some ListKind) number go = refl
object_named table (Some DictKind) number go = refl
object_named table (Some (Instance of)) number go = refl
object_named table (Some (FileKind path mode)) number go = refl

pub builtin_is : (v : Value) (number : ℕ) → builtin_in v ≡ Some number → v ≡ Builtin number
builtin_is NoneValue number is = cc
builtin_is (TruthValue b) number is = cc
builtin_is (Int i) number is = cc
builtin_is (Text id) number is = cc
builtin_is (Tuple id) number is = cc
builtin_is (Range a b d) number is = cc
builtin_is (Fn place) number is = cc
builtin_is (Class place) number is = cc
builtin_is (Exc m) number is = cc
builtin_is (Builtin m) number is = cc
builtin_is (Object o) number is = cc

-- another value is of the kind that is named, and of no class
named_is : (table : ValuesView) (v : Value) (number : ℕ) (go : Bool → Plan) → object_in v ≡ None → value_is (contents table v) (builtin number) go ≡ go (value_named v number)
named_is table NoneValue number go is = refl
named_is table (TruthValue b) number go is = refl
named_is table (Int i) number go is = refl
named_is table (Text id) number go is = refl
named_is table (Tuple id) number go is = ap (λ c. value_is c (builtin number) go) (some_tuple table id).1
named_is table (Range a b d) number go is = refl
named_is table (Fn at) number go is = refl
named_is table (Class at) number go is = refl
named_is table (Exc m) number go is = refl
named_is table (Builtin m) number go is = refl
named_is table (Object o) number go is = cc

other_is : (table : ValuesView) (v sought : Value) (go : Bool → Plan) → object_in v ≡ None → builtin_in sought ≡ None → value_is (contents table v) (contents table sought) go ≡ go false
other_is table NoneValue sought go is no_name = refl
other_is table (TruthValue b) sought go is no_name = non_builtin (λ c. value_is (truth b) c go ≡ go false) refl (λ x. refl) (λ x. refl) (λ x. refl) (λ x. refl) (λ x y z. refl) (λ x. refl) (λ x. refl) (λ x. refl) (λ x. refl) table sought no_name
other_is table (Int i) sought go is no_name = non_builtin (λ c. value_is (int i) c go ≡ go false) refl (λ x. refl) (λ x. refl) (λ x. refl) (λ x. refl) (λ x y z. refl) (λ x. refl) (λ x. refl) (λ x. refl) (λ x. refl) table sought no_name
other_is table (Text id) sought go is no_name = text_is (bytes_of table id) table sought no_name
  where
    text_is : (bytes : List ℕ) (table : ValuesView) (sought : Value) → builtin_in sought ≡ None → value_is (text bytes) (contents table sought) go ≡ go false
    text_is bytes = non_builtin (λ c. value_is (text bytes) c go ≡ go false) refl (λ x. refl) (λ x. refl) (λ x. refl) (λ x. refl) (λ x y z. refl) (λ x. refl) (λ x. refl) (λ x. refl) (λ x. refl)
other_is table (Tuple id) sought go is no_name = ap (λ c. value_is c (contents table sought) go) (some_tuple table id).1 ∙ tuple_is (some_tuple table id).0 table sought no_name
  where
    tuple_is : (ps : Parts) (table : ValuesView) (sought : Value) → builtin_in sought ≡ None → value_is (tuple ps) (contents table sought) go ≡ go false
    tuple_is ps = non_builtin (λ c. value_is (tuple ps) c go ≡ go false) refl (λ x. refl) (λ x. refl) (λ x. refl) (λ x. refl) (λ x y z. refl) (λ x. refl) (λ x. refl) (λ x. refl) (λ x. refl)
other_is table (Range a b d) sought go is no_name = refl
other_is table (Fn at) sought go is no_name = refl
other_is table (Class at) sought go is no_name = refl
other_is table (Exc m) sought go is no_name = refl
other_is table (Builtin m) sought go is no_name = refl
other_is table (Object o) sought go is no_name = cc

pub plain_is : (table : ValuesView) (v sought : Value) (go : Bool → Plan) → object_in v ≡ None → (name : Option ℕ) → builtin_in sought ≡ name
    → value_is (contents table v) (contents table sought) go ≡ go (plain_named v name)
plain_is table v sought go is (Some number) name_is = ap (λ s. value_is (contents table v) (contents table s) go) (builtin_is sought number name_is) ∙ named_is table v number go is
plain_is table v sought go is None name_is = other_is table v sought go is name_is
