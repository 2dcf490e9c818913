-- What operands of methods are as plans.
use Rattle.std.proofs.Common.{◌≡◌, refl, ap, arith, ℕ, List, [], ◌∷◌, map, length, slice_index_or, Option, Some, None}
use Rattle.op_dicts.specs.Operands.{first_object}
use Rattle.py_model.proofs.Tuples.{some_tuple}
use Rattle.py_model.specs.Dicts.{get_method}
use Rattle.py_model.specs.Faults.{wrong_kind, wrong_number}
use Rattle.py_model.specs.Plan.{Plan, read_len, read_order}
use Rattle.py_value.specs.Contents.{contents, object}
use Rattle.py_value.specs.Seen.{SeenKind, a_list, a_dict}
use Rattle.py_value.specs.Values.{ValuesView, IsNamed, AreNamed}
use Rattle.py_value.specs.declared.value.Value.{Value}
use Rattle.py_value.specs.declared.value.Value.TheVariants.{None as NoneValue, Bool as TruthValue, Int, Text, Tuple, Range, Fn, Class, Exc, Builtin, Object}

abbrev length_found : ℕ → (ℕ → Plan) → Option SeenKind → Plan
length_found o go (Some a_list) = read_len o go
length_found o go (Some a_dict) = read_order o (λ keys. go (length keys))
length_found o go other = wrong_kind

abbrev pub length_by : ℕ → ValuesView → Option SeenKind → (ℕ → Plan) → Plan
length_by o table kind go = length_found o go kind

pub none_of : (m : Option ℕ) → ((o : ℕ) → m ≡ Some o → ⊥) → m ≡ None
none_of None other = refl
none_of (Some o) other = absurd (other o refl)

pub no_dict : (table : ValuesView) (operands : List Value) → first_object operands ≡ None → get_method (map (contents table) operands) ≡ wrong_kind
no_dict table [] is = refl
no_dict table (NoneValue ∷ more) is = refl
no_dict table (TruthValue b ∷ more) is = refl
no_dict table (Int i ∷ more) is = refl
no_dict table (Text id ∷ more) is = refl
no_dict table (Tuple id ∷ more) is = ap (λ c. get_method (c ∷ map (contents table) more)) (some_tuple table id).1
no_dict table (Range a b c ∷ more) is = refl
no_dict table (Fn place ∷ more) is = refl
no_dict table (Class place ∷ more) is = refl
no_dict table (Exc number ∷ more) is = refl
no_dict table (Builtin number ∷ more) is = refl
no_dict table (Object o ∷ more) is = cc

first_is : (v : Value) (more : List Value) (o : ℕ) → first_object (v ∷ more) ≡ Some o → v ≡ Object o
first_is NoneValue more o is = cc
first_is (TruthValue b) more o is = cc
first_is (Int i) more o is = cc
first_is (Text id) more o is = cc
first_is (Tuple id) more o is = cc
first_is (Range a b c) more o is = cc
first_is (Fn place) more o is = cc
first_is (Class place) more o is = cc
first_is (Exc number) more o is = cc
first_is (Builtin number) more o is = cc
first_is (Object p) more o is = cc

pub get_one : (table : ValuesView) (operands : List Value) (o : ℕ) → first_object operands ≡ Some o → length operands ≡ 2
    → get_method (map (contents table) operands) ≡ get_method (object o ∷ contents table (slice_index_or operands 1 NoneValue) ∷ [])
get_one table [] o is two = absurd (omega (arith, two))
get_one table (v ∷ []) o is two = absurd (omega (arith, two))
get_one table (v ∷ w ∷ []) o is two = ap (λ x. get_method (contents table x ∷ contents table w ∷ [])) (first_is v (w ∷ []) o is)
get_one table (v ∷ w ∷ x ∷ more) o is two = absurd (omega (arith, two))

pub get_two : (table : ValuesView) (operands : List Value) (o : ℕ) → first_object operands ≡ Some o → length operands ≡ 3
    → get_method (map (contents table) operands)
    ≡ get_method (object o ∷ contents table (slice_index_or operands 1 NoneValue) ∷ contents table (slice_index_or operands 2 NoneValue) ∷ [])
get_two table [] o is three = absurd (omega (arith, three))
get_two table (v ∷ []) o is three = absurd (omega (arith, three))
get_two table (v ∷ w ∷ []) o is three = absurd (omega (arith, three))
get_two table (v ∷ w ∷ x ∷ []) o is three = ap (λ y. get_method (contents table y ∷ contents table w ∷ contents table x ∷ [])) (first_is v (w ∷ x ∷ []) o is)
get_two table (v ∷ w ∷ x ∷ y ∷ more) o is three = absurd (omega (arith, three))

pub get_other : (table : ValuesView) (operands : List Value) (o : ℕ) → first_object operands ≡ Some o → (length operands ≡ 2 → ⊥) → (length operands ≡ 3 → ⊥)
    → get_method (map (contents table) operands) ≡ wrong_number
get_other table [] o is two three = cc
get_other table (v ∷ []) o is two three = ap (λ x. get_method (contents table x ∷ [])) (first_is v [] o is)
get_other table (v ∷ w ∷ []) o is two three = absurd (two refl)
get_other table (v ∷ w ∷ x ∷ []) o is two three = absurd (three refl)
get_other table (v ∷ w ∷ x ∷ y ∷ more) o is two three = ap (λ z. get_method (contents table z ∷ contents table w ∷ contents table x ∷ contents table y ∷ map (contents table) more)) (first_is v (w ∷ x ∷ y ∷ more) o is)

-- an operand is named
pub named_at_1 : (values : ValuesView) (operands : List Value) → AreNamed values operands → IsNamed values (slice_index_or operands 1 NoneValue)
named_at_1 values [] named = tt
named_at_1 values (v ∷ []) named = tt
named_at_1 values (v ∷ w ∷ more) named = named 1 w refl

pub named_at_2 : (values : ValuesView) (operands : List Value) → AreNamed values operands → IsNamed values (slice_index_or operands 2 NoneValue)
named_at_2 values [] named = tt
named_at_2 values (v ∷ []) named = tt
named_at_2 values (v ∷ w ∷ []) named = tt
named_at_2 values (v ∷ w ∷ x ∷ more) named = named 2 x refl
