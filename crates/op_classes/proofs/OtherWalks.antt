-- The walk to the end of a chain and the method walk as plans, step by step.
use Rattle.std.proofs.Common.{◌≡◌, refl, ap, ◌∙◌, arith, ℕ, suc, ◌+◌, ◌-◌, ◌<◌, ◌≤◌, List, Option, Some, None}
use Rattle.prov_base.specs.declared.place.Pos.{Pos}
use Rattle.py_model.specs.Classes.{longest_chain, chain_end, method_walk}
use Rattle.py_model.specs.Plan.{Plan, read_method}
use Rattle.py_value.specs.Contents.{Contents, contents}
use Rattle.py_value.specs.Seen.{bytes_of}
use Rattle.py_value.specs.Values.{ValuesView}
use Rattle.py_value.specs.declared.value.Value.{Value}
use Rattle.py_value.specs.declared.value.Value.TheVariants.{None as NoneValue, Bool as TruthValue, Int, Text, Tuple, Range, Fn, Class, Exc, Builtin, Object}
use Rattle.py_model.proofs.Tuples.{some_tuple}
use Rattle.op_classes.specs.Chains.{next_step, exception_in}
use Rattle.op_classes.specs.Kinds.{class_in}
use Rattle.op_classes.proofs.ClassWalks.{class_is, one_step}

chain_ends : (table : ValuesView) (n : ℕ) (end : Value) (go : Option ℕ → Plan) → class_in end ≡ None → chain_end (suc n) (contents table end) go ≡ go (exception_in end)
chain_ends table n NoneValue go is = refl
chain_ends table n (TruthValue b) go is = refl
chain_ends table n (Int i) go is = refl
chain_ends table n (Text id) go is = refl
chain_ends table n (Tuple id) go is = ap (λ c. chain_end (suc n) c go) (some_tuple table id).1
chain_ends table n (Range a b d) go is = refl
chain_ends table n (Fn at) go is = refl
chain_ends table n (Class at) go is = cc
chain_ends table n (Exc m) go is = refl
chain_ends table n (Builtin m) go is = refl
chain_ends table n (Object o) go is = refl

method_ends : (table : ValuesView) (n : ℕ) (name : List ℕ) (end : Value) (go : Option Pos → Plan) → class_in end ≡ None → method_walk (suc n) name (contents table end) go ≡ go None
method_ends table n name NoneValue go is = refl
method_ends table n name (TruthValue b) go is = refl
method_ends table n name (Int i) go is = refl
method_ends table n name (Text id) go is = refl
method_ends table n name (Tuple id) go is = ap (λ c. method_walk (suc n) name c go) (some_tuple table id).1
method_ends table n name (Range a b d) go is = refl
method_ends table n name (Fn at) go is = refl
method_ends table n name (Class at) go is = cc
method_ends table n name (Exc m) go is = refl
method_ends table n name (Builtin m) go is = refl
method_ends table n name (Object o) go is = refl

-- the walks go on behind what was read
abbrev pub end_onwards : ℕ → ValuesView → Option Contents → (Option ℕ → Plan) → Plan
end_onwards n table base go = elim base [ None ↦ go None | Some next ↦ chain_end n next go ]

abbrev pub method_onwards : ℕ → ℕ → ValuesView → Option Contents → (Option Pos → Plan) → Plan
method_onwards n name table base go = elim base [ None ↦ go None | Some next ↦ method_walk n (bytes_of table name) next go ]

abbrev pub behind_method : ℕ → ℕ → Pos → ValuesView → Option Pos → (Option Pos → Plan) → Plan
behind_method n name place table method go = elim method [ Some at ↦ go (Some at) | None ↦ next_step place (λ x. method_onwards n name table x go) ]

-- what is left behind so many steps
abbrev pub end_left : ℕ → Value → ValuesView → (Option ℕ → Plan) → Plan
end_left i at table go = chain_end (longest_chain - i) (contents table at) go

abbrev pub method_left : ℕ → ℕ → Value → ValuesView → (Option Pos → Plan) → Plan
method_left i name at table go = method_walk (longest_chain - i) (bytes_of table name) (contents table at) go

pub end_here : (i : ℕ) (at : Value) → i < longest_chain → class_in at ≡ None → (table : ValuesView) (go : Option ℕ → Plan) → end_left i at table go ≡ go (exception_in at)
end_here i at less is table go = ap (λ n. chain_end n (contents table at) go) (one_step i less) ∙ chain_ends table (longest_chain - (i + 1)) at go is

pub end_on : (i : ℕ) (at : Value) (place : Pos) → i < longest_chain → class_in at ≡ Some place → (table : ValuesView) (go : Option ℕ → Plan)
    → end_left i at table go ≡ next_step place (λ x. end_onwards (longest_chain - (i + 1)) table x go)
end_on i at place less is table go = ap (λ n. chain_end n (contents table at) go) (one_step i less)
    ∙ ap (λ v. chain_end (suc (longest_chain - (i + 1))) (contents table v) go) (class_is at place is)

pub method_here : (i name : ℕ) (at : Value) → i < longest_chain → class_in at ≡ None → (table : ValuesView) (go : Option Pos → Plan) → method_left i name at table go ≡ go None
method_here i name at less is table go = ap (λ n. method_walk n (bytes_of table name) (contents table at) go) (one_step i less)
    ∙ method_ends table (longest_chain - (i + 1)) (bytes_of table name) at go is

pub method_on : (i name : ℕ) (at : Value) (place : Pos) → i < longest_chain → class_in at ≡ Some place → (table : ValuesView) (go : Option Pos → Plan)
    → method_left i name at table go ≡ read_method place (bytes_of table name) (λ x. behind_method (longest_chain - (i + 1)) name place table x go)
method_on i name at place less is table go = ap (λ n. method_walk n (bytes_of table name) (contents table at) go) (one_step i less)
    ∙ ap (λ v. method_walk (suc (longest_chain - (i + 1))) (bytes_of table name) (contents table v) go) (class_is at place is)

-- no step is left behind all of them
pub none_left : (i : ℕ) → longest_chain ≤ i → longest_chain - i ≡ 0
none_left i more = omega (arith, more)
