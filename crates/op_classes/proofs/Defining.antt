-- What definitions are as plans, by what values are.
use Rattle.std.proofs.Common.{◌≡◌, refl, ap, ◌∙◌, arith, ℕ, List, [], ◌∷◌, map, length, ◌<◌, Option, Some, None}
use Rattle.std.proofs.lemmas.List.{length-map}
use Rattle.prov_base.specs.declared.place.Pos.{Pos}
use Rattle.py_model.specs.Classes.{define, define_method, class_begun, begin_class, is_class}
use Rattle.py_model.specs.Faults.{wrong_kind, wrong_number}
use Rattle.py_model.specs.Operations.{Op, def_plan, class_plan}
use Rattle.py_model.specs.Plan.{Plan}
use Rattle.py_value.specs.Contents.{Contents, contents, function}
use Rattle.py_value.specs.Named.{IsNamedContent}
use Rattle.py_value.specs.Values.{ValuesView}
use Rattle.py_value.specs.declared.access.Content.TheVariants.{Base as BaseContent}
use Rattle.py_value.specs.declared.value.Value.{Value}
use Rattle.py_value.specs.declared.value.Value.TheVariants.{None as NoneValue, Bool as TruthValue, Int, Text, Tuple, Range, Fn, Class, Exc, Builtin, Object}
use Rattle.op_classes.specs.Kinds.{class_in}
use Rattle.op_classes.specs.Matching.{is_class_value}
use Rattle.op_classes.specs.ObjectKinds.{function_in}
use Rattle.op_work.proofs.EntryReads.{named_on}
use Rattle.py_model.proofs.Tuples.{some_tuple}
use Rattle.op_work.specs.Work.{IsNamedMaybe, Extends}
use Rattle.op_classes.proofs.OfClasses.{when_class}

pub function_is : (v : Value) (place : Pos) → function_in v ≡ Some place → v ≡ Fn place
function_is NoneValue place is = cc
function_is (TruthValue b) place is = cc
function_is (Int i) place is = cc
function_is (Text id) place is = cc
function_is (Tuple id) place is = cc
function_is (Range a b d) place is = cc
function_is (Fn at) place is = cc
function_is (Class at) place is = cc
function_is (Exc m) place is = cc
function_is (Builtin m) place is = cc
function_is (Object o) place is = cc

-- a function is defined alone
pub define_other : (table : ValuesView) (name : List ℕ) (v : Value) → function_in v ≡ None → define name (contents table v) ≡ wrong_kind
define_other table name NoneValue is = refl
define_other table name (TruthValue b) is = refl
define_other table name (Int i) is = refl
define_other table name (Text id) is = refl
define_other table name (Tuple id) is = ap (define name) (some_tuple table id).1
define_other table name (Range a b d) is = refl
define_other table name (Fn at) is = cc
define_other table name (Class at) is = refl
define_other table name (Exc m) is = refl
define_other table name (Builtin m) is = refl
define_other table name (Object o) is = refl

pub method_other : (table : ValuesView) (name : List ℕ) (v : Value) (of : Contents) → function_in v ≡ None → define_method name (contents table v) of ≡ wrong_kind
method_other table name NoneValue of is = refl
method_other table name (TruthValue b) of is = refl
method_other table name (Int i) of is = refl
method_other table name (Text id) of is = refl
method_other table name (Tuple id) of is = ap (λ c. define_method name c of) (some_tuple table id).1
method_other table name (Range a b d) of is = refl
method_other table name (Fn at) of is = cc
method_other table name (Class at) of is = refl
method_other table name (Exc m) of is = refl
method_other table name (Builtin m) of is = refl
method_other table name (Object o) of is = refl

-- a method is one of a class alone
pub owner_other : (table : ValuesView) (name : List ℕ) (place : Pos) (of : Value) → class_in of ≡ None → define_method name (function place) (contents table of) ≡ wrong_kind
owner_other table name place NoneValue is = refl
owner_other table name place (TruthValue b) is = refl
owner_other table name place (Int i) is = refl
owner_other table name place (Text id) is = refl
owner_other table name place (Tuple id) is = ap (define_method name (function place)) (some_tuple table id).1
owner_other table name place (Range a b d) is = refl
owner_other table name place (Fn at) is = refl
owner_other table name place (Class at) is = cc
owner_other table name place (Exc m) is = refl
owner_other table name place (Builtin m) is = refl
owner_other table name place (Object o) is = refl

-- a class begins alone
pub begun_other : (table : ValuesView) (name : List ℕ) (v : Value) (base : Option Contents) → class_in v ≡ None → class_begun name (contents table v) base ≡ wrong_kind
begun_other table name NoneValue base is = refl
begun_other table name (TruthValue b) base is = refl
begun_other table name (Int i) base is = refl
begun_other table name (Text id) base is = refl
begun_other table name (Tuple id) base is = ap (λ c. class_begun name c base) (some_tuple table id).1
begun_other table name (Range a b d) base is = refl
begun_other table name (Fn at) base is = refl
begun_other table name (Class at) base is = cc
begun_other table name (Exc m) base is = refl
begun_other table name (Builtin m) base is = refl
begun_other table name (Object o) base is = refl

-- a base is a class
abbrev when_base : List ℕ → Contents → Contents → Plan
when_base name v base = when_class (class_begun name v (Some base)) (is_class base)

pub base_is : (table : ValuesView) (name : List ℕ) (v : Contents) (base : Value) → begin_class name v (Some (contents table base)) ≡ when_class (class_begun name v (Some (contents table base))) (is_class_value base)
base_is table name v NoneValue = refl
base_is table name v (TruthValue b) = refl
base_is table name v (Int i) = refl
base_is table name v (Text id) = refl
base_is table name v (Tuple id) = ap (λ c. when_base name v c) (some_tuple table id).1
base_is table name v (Range a b d) = refl
base_is table name v (Fn at) = refl
base_is table name v (Class at) = refl
base_is table name v (Exc m) = refl
base_is table name v (Builtin m) = refl
base_is table name v (Object o) = refl

-- one operand, none, and more
pub def_one : (op : Op) (of : Contents) (rest : List Contents) → length rest ≡ 0 → def_plan op (of ∷ rest) ≡ define_method op.name op.value of
def_one op of [] is = refl
def_one op of (other ∷ rest) is = absurd (omega (arith, is))

pub def_none : (op : Op) (values : List Contents) → length values ≡ 0 → def_plan op values ≡ define op.name op.value
def_none op [] is = refl
def_none op (v ∷ values) is = absurd (omega (arith, is))

pub def_more : (op : Op) (of : Contents) (rest : List Contents) → 0 < length rest → def_plan op (of ∷ rest) ≡ wrong_number
def_more op of [] more = absurd (omega (arith, more))
def_more op of (other ∷ rest) more = refl

pub class_one : (op : Op) (base : Contents) (rest : List Contents) → length rest ≡ 0 → class_plan op (base ∷ rest) ≡ begin_class op.name op.value (Some base)
class_one op base [] is = refl
class_one op base (other ∷ rest) is = absurd (omega (arith, is))

pub class_none : (op : Op) (values : List Contents) → length values ≡ 0 → class_plan op values ≡ begin_class op.name op.value None
class_none op [] is = refl
class_none op (v ∷ values) is = absurd (omega (arith, is))

pub class_more : (op : Op) (base : Contents) (rest : List Contents) → 0 < length rest → class_plan op (base ∷ rest) ≡ wrong_number
class_more op base [] more = absurd (omega (arith, more))
class_more op base (other ∷ rest) more = refl

-- a base that is named
pub base_named : (values : ValuesView) (base : Option Value) → IsNamedMaybe values base → IsNamedContent values (BaseContent base)
base_named values (Some v) named = named
base_named values None named = tt

pub maybe_on : {old table : ValuesView} → Extends old table → (v : Option Value) → IsNamedMaybe old v → IsNamedMaybe table v
maybe_on extends (Some v) named = named_on extends v named
maybe_on extends None named = tt

-- none, and some, of what values mean
pub none_mapped : (table : ValuesView) (vs : List Value) → length vs ≡ 0 → length (map (contents table) vs) ≡ 0
none_mapped table vs is = length-map vs (contents table) ∙ is

pub some_mapped : (table : ValuesView) (vs : List Value) → 0 < length vs → 0 < length (map (contents table) vs)
some_mapped table vs more = let same = length-map vs (contents table) in omega (arith, more, same)
