-- Methods of dictionaries as plans of their operands.
use Rattle.std.proofs.Common.{◌≡◌, ◌∙◌, refl, ap, eqb-true, eq-eqb, ℕ, ◌==◌, Bool, true, false, Some, None, List, [], ◌∷◌, map, length, if◌then◌else◌}
use Rattle.std.proofs.lemmas.List.{length-map}
use Rattle.py_model.specs.Faults.{wrong_kind, wrong_number}
use Rattle.py_model.specs.Dicts.{when_dict}
use Rattle.py_model.specs.Plan.{Plan, kind_of}
use Rattle.py_value.specs.Contents.{contents}
use Rattle.py_value.specs.Values.{ValuesView}
use Rattle.py_value.specs.declared.value.Value.{Value}
use Rattle.py_value.specs.declared.value.Value.TheVariants.{None as NoneValue, Bool as TruthValue, Int, Text, Tuple, Range, Fn, Class, Exc, Builtin, Object}
use Rattle.py_model.proofs.Tuples.{some_tuple}
use Rattle.op_dicts.specs.Receivers.{with_dict}
use Rattle.op_lists.specs.Operands.{object_first}

by_true : (b : Bool) (one other : Plan) → b ≡ true → (if b then one else other) ≡ one
by_true true one other is = refl
by_true false one other is = absurd (cc)

pub by_false : (b : Bool) (one other : Plan) → (b ≡ true → ⊥) → (if b then one else other) ≡ other
by_false true one other apart = absurd (apart refl)
by_false false one other apart = refl

-- no object comes first
pub no_dict : (table : ValuesView) (operands : List Value) (count : ℕ) (go : ℕ → Plan) → object_first operands ≡ None → with_dict count (map (contents table) operands) go ≡ wrong_kind
no_dict table [] count go is = refl
no_dict table (NoneValue ∷ rest) count go is = refl
no_dict table (TruthValue b ∷ rest) count go is = refl
no_dict table (Int i ∷ rest) count go is = refl
no_dict table (Text id ∷ rest) count go is = refl
no_dict table (Tuple id ∷ rest) count go is = ap (λ c. with_dict count (c ∷ map (contents table) rest) go) (some_tuple table id).1
no_dict table (Range a b c ∷ rest) count go is = refl
no_dict table (Fn place ∷ rest) count go is = refl
no_dict table (Class place ∷ rest) count go is = refl
no_dict table (Exc number ∷ rest) count go is = refl
no_dict table (Builtin number ∷ rest) count go is = refl
no_dict table (Object o ∷ rest) count go is = absurd (cc)

-- an object comes first
abbrev with_count : List Value → ℕ → Plan → Plan
with_count operands count next = if length operands == count then next else wrong_number

one_object : (p o : ℕ) → Some p ≡ Some o → p ≡ o
one_object p o is = cc

some_dict : (table : ValuesView) (operands : List Value) (count : ℕ) (go : ℕ → Plan) (o : ℕ) → object_first operands ≡ Some o
    → with_dict count (map (contents table) operands) go ≡ with_count operands count (kind_of o (when_dict (go o)))
some_dict table [] count go o is = absurd (cc)
some_dict table (NoneValue ∷ rest) count go o is = absurd (cc)
some_dict table (TruthValue b ∷ rest) count go o is = absurd (cc)
some_dict table (Int i ∷ rest) count go o is = absurd (cc)
some_dict table (Text id ∷ rest) count go o is = absurd (cc)
some_dict table (Tuple id ∷ rest) count go o is = absurd (cc)
some_dict table (Range a b c ∷ rest) count go o is = absurd (cc)
some_dict table (Fn place ∷ rest) count go o is = absurd (cc)
some_dict table (Class place ∷ rest) count go o is = absurd (cc)
some_dict table (Exc number ∷ rest) count go o is = absurd (cc)
some_dict table (Builtin number ∷ rest) count go o is = absurd (cc)
some_dict table (Object p ∷ rest) count go o is = ap (λ n. if n == count then kind_of p (when_dict (go p)) else wrong_number) (length-map (Object p ∷ rest) (contents table))
    ∙ ap (λ q. with_count (Object p ∷ rest) count (kind_of q (when_dict (go q)))) (one_object p o is)

pub dict_is : (table : ValuesView) (operands : List Value) (count : ℕ) (go : ℕ → Plan) (o : ℕ) → object_first operands ≡ Some o → length operands ≡ count
    → with_dict count (map (contents table) operands) go ≡ kind_of o (when_dict (go o))
dict_is table operands count go o first is = some_dict table operands count go o first
    ∙ by_true (length operands == count) (kind_of o (when_dict (go o))) wrong_number (eq-eqb (length operands) count is)

pub other_count : (table : ValuesView) (operands : List Value) (count : ℕ) (go : ℕ → Plan) (o : ℕ) → object_first operands ≡ Some o → (length operands ≡ count → ⊥)
    → with_dict count (map (contents table) operands) go ≡ wrong_number
other_count table operands count go o first apart = some_dict table operands count go o first
    ∙ by_false (length operands == count) (kind_of o (when_dict (go o))) wrong_number (λ is. apart (eqb-true (length operands) count is))
