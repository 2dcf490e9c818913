-- What operations on classes are as plans, by what a value is.
use Rattle.std.proofs.Common.{◌≡◌, refl, ap, arith, ℕ, Bool, List, [], ◌∷◌, map, length, Option, None, if◌then◌else◌}
use Rattle.prov_base.specs.declared.place.Pos.{Pos}
use Rattle.py_model.specs.Classes.{make, make_of, end_of_chain, instance_begun}
use Rattle.py_model.specs.Faults.{wrong_kind, wrong_number}
use Rattle.py_model.specs.Operations.{make_plan}
use Rattle.py_model.specs.Plan.{Plan, makes}
use Rattle.py_model.specs.Raising.{raise, raise_class}
use Rattle.py_value.specs.Contents.{Contents, contents}
use Rattle.py_value.specs.Seen.{an_instance}
use Rattle.py_value.specs.Values.{ValuesView}
use Rattle.py_value.specs.declared.value.Value.{Value}
use Rattle.py_value.specs.declared.value.Value.TheVariants.{None as NoneValue, Bool as TruthValue, Int, Text, Tuple, Range, Fn, Class, Exc, Builtin, Object}
use Rattle.op_classes.specs.Kinds.{object_in}
use Rattle.op_classes.specs.Matching.{is_class_value}
use Rattle.py_model.proofs.Tuples.{some_tuple}

-- by whether a value is a class
abbrev pub when_class : Plan → Bool → Plan
when_class plan b = if b then plan else wrong_kind

pub make_is : (table : ValuesView) (v : Value) (items : List Contents) → make (contents table v) items ≡ when_class (make_of (contents table v) items) (is_class_value v)
make_is table NoneValue items = refl
make_is table (TruthValue b) items = refl
make_is table (Int i) items = refl
make_is table (Text id) items = refl
make_is table (Tuple id) items = ap (λ c. make c items) (some_tuple table id).1
make_is table (Range a b d) items = refl
make_is table (Fn at) items = refl
make_is table (Class at) items = refl
make_is table (Exc m) items = refl
make_is table (Builtin m) items = refl
make_is table (Object o) items = refl

-- how the making of an instance goes on
abbrev pub behind_end : Value → List Value → ValuesView → Option ℕ → Plan
behind_end of given table end = makes (an_instance (contents table of)) (instance_begun (map (contents table) given) end)

abbrev pub behind_method : Value → List Value → ValuesView → Option Pos → Plan
behind_method of given table method = end_of_chain (contents table of) (λ end. behind_end of given table end)

-- no operand at all
pub make_none : (table : ValuesView) (vs : List Value) → length vs ≡ 0 → make_plan (map (contents table) vs) ≡ wrong_number
make_none table [] is = refl
make_none table (v ∷ vs) is = absurd (omega (arith, is))

-- what is raised, by what a value is
pub raise_other : (table : ValuesView) (v : Value) → object_in v ≡ None → raise (contents table v) ≡ when_class (raise_class (contents table v)) (is_class_value v)
raise_other table NoneValue is = refl
raise_other table (TruthValue b) is = refl
raise_other table (Int i) is = refl
raise_other table (Text id) is = refl
raise_other table (Tuple id) is = ap raise (some_tuple table id).1
raise_other table (Range a b d) is = refl
raise_other table (Fn at) is = refl
raise_other table (Class at) is = refl
raise_other table (Exc m) is = refl
raise_other table (Builtin m) is = refl
raise_other table (Object o) is = cc
