-- Methods of lists as plans of their operands.
use Rattle.std.proofs.Common.{◌≡◌, ◌∙◌, refl, sym, ap, arith, eqb-true, eq-eqb, ℕ, suc, ◌==◌, Bool, true, false, Some, None, List, [], ◌∷◌, map, length, slice_index_or, if◌then◌else◌}
use Rattle.std.proofs.lemmas.List.{length-map}
use Rattle.py_model.specs.Faults.{wrong_kind, wrong_number}
use Rattle.py_model.specs.Lists.{when_list, extend}
use Rattle.py_model.specs.Plan.{Plan, kind_of}
use Rattle.py_value.specs.Contents.{Contents, contents, object, nothing}
use Rattle.py_value.specs.Values.{ValuesView}
use Rattle.py_value.specs.declared.value.Value.{Value}
use Rattle.py_value.specs.declared.value.Value.TheVariants.{None as NoneValue, Bool as TruthValue, Int, Text, Tuple, Range, Fn, Class, Exc, Builtin, Object}
use Rattle.py_model.proofs.Tuples.{some_tuple}
use Rattle.op_joins.specs.Extended.{extended}
use Rattle.op_joins.specs.Receivers.{with_list}
use Rattle.op_lists.specs.Operands.{object_first}

by_true : (b : Bool) (one other : Plan) → b ≡ true → (if b then one else other) ≡ one
by_true true one other is = refl
by_true false one other is = absurd (cc)

pub by_false : (b : Bool) (one other : Plan) → (b ≡ true → ⊥) → (if b then one else other) ≡ other
by_false true one other apart = absurd (apart refl)
by_false false one other apart = refl

-- no object comes first
pub no_list : (table : ValuesView) (operands : List Value) (count : ℕ) (go : ℕ → Plan) → object_first operands ≡ None → with_list count (map (contents table) operands) go ≡ wrong_kind
no_list table [] count go is = refl
no_list table (NoneValue ∷ rest) count go is = refl
no_list table (TruthValue b ∷ rest) count go is = refl
no_list table (Int i ∷ rest) count go is = refl
no_list table (Text id ∷ rest) count go is = refl
no_list table (Tuple id ∷ rest) count go is = ap (λ c. with_list count (c ∷ map (contents table) rest) go) (some_tuple table id).1
no_list table (Range a b c ∷ rest) count go is = refl
no_list table (Fn place ∷ rest) count go is = refl
no_list table (Class place ∷ rest) count go is = refl
no_list table (Exc number ∷ rest) count go is = refl
no_list table (Builtin number ∷ rest) count go is = refl
no_list table (Object o ∷ rest) count go is = absurd (cc)

-- an object comes first
abbrev with_count : List Value → ℕ → Plan → Plan
with_count operands count next = if length operands == count then next else wrong_number

one_object : (p o : ℕ) → Some p ≡ Some o → p ≡ o
one_object p o is = cc

some_list : (table : ValuesView) (operands : List Value) (count : ℕ) (go : ℕ → Plan) (o : ℕ) → object_first operands ≡ Some o
    → with_list count (map (contents table) operands) go ≡ with_count operands count (kind_of o (when_list (go o)))
some_list table [] count go o is = absurd (cc)
some_list table (NoneValue ∷ rest) count go o is = absurd (cc)
some_list table (TruthValue b ∷ rest) count go o is = absurd (cc)
some_list table (Int i ∷ rest) count go o is = absurd (cc)
some_list table (Text id ∷ rest) count go o is = absurd (cc)
some_list table (Tuple id ∷ rest) count go o is = absurd (cc)
some_list table (Range a b c ∷ rest) count go o is = absurd (cc)
some_list table (Fn place ∷ rest) count go o is = absurd (cc)
some_list table (Class place ∷ rest) count go o is = absurd (cc)
some_list table (Exc number ∷ rest) count go o is = absurd (cc)
some_list table (Builtin number ∷ rest) count go o is = absurd (cc)
some_list table (Object p ∷ rest) count go o is = ap (λ n. if n == count then kind_of p (when_list (go p)) else wrong_number) (length-map (Object p ∷ rest) (contents table))
    ∙ ap (λ q. with_count (Object p ∷ rest) count (kind_of q (when_list (go q)))) (one_object p o is)

pub list_is : (table : ValuesView) (operands : List Value) (count : ℕ) (go : ℕ → Plan) (o : ℕ) → object_first operands ≡ Some o → length operands ≡ count
    → with_list count (map (contents table) operands) go ≡ kind_of o (when_list (go o))
list_is table operands count go o first is = some_list table operands count go o first
    ∙ by_true (length operands == count) (kind_of o (when_list (go o))) wrong_number (eq-eqb (length operands) count is)

pub other_count : (table : ValuesView) (operands : List Value) (count : ℕ) (go : ℕ → Plan) (o : ℕ) → object_first operands ≡ Some o → (length operands ≡ count → ⊥)
    → with_list count (map (contents table) operands) go ≡ wrong_number
other_count table operands count go o first apart = some_list table operands count go o first
    ∙ by_false (length operands == count) (kind_of o (when_list (go o))) wrong_number (λ is. apart (eqb-true (length operands) count is))

-- the operand behind the list
abbrev pub second : List Contents → Contents
second (v ∷ w ∷ rest) = w
second other = nothing

pub second_is : (f : Value → Contents) (operands : List Value) → length operands ≡ 2 → second (map f operands) ≡ f (slice_index_or operands 1 NoneValue)
second_is f [] is = absurd (omega (arith, is))
second_is f (v ∷ []) is = absurd (omega (arith, is))
second_is f (v ∷ w ∷ rest) is = refl

too_many : (n : ℕ) → suc (suc (suc n)) ≡ 2 → ⊥
too_many n is = omega (arith, is)

pub extend_is : (operands : List Contents) → extend operands ≡ with_list 2 operands (λ o. extended o (second operands) nothing)
extend_is [] = refl
extend_is (object o ∷ []) = refl
extend_is (object o ∷ w ∷ []) = refl
extend_is (object o ∷ w ∷ x ∷ more) = sym (by_false (length (object o ∷ w ∷ x ∷ more) == 2) (kind_of o (when_list (extended o w nothing))) wrong_number
    (λ is. too_many (length more) (eqb-true (length (object o ∷ w ∷ x ∷ more)) 2 is)))
extend_is (other ∷ more) = refl
