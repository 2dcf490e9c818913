-- The class walk as a plan, step by step.
use Rattle.std.proofs.Common.{◌≡◌, refl, ap, ◌∙◌, arith, ℕ, suc, ◌+◌, ◌-◌, ◌<◌, Bool, true, false, Option, Some, None, if◌then◌else◌}
use Rattle.prov_base.specs.declared.place.Pos.{Pos}
use Rattle.py_model.specs.Classes.{longest_chain, class_walk}
use Rattle.py_model.specs.Plan.{Plan}
use Rattle.py_value.specs.Contents.{Contents, contents, class, exception_class}
use Rattle.py_value.specs.Same.{same_value}
use Rattle.py_value.specs.Values.{ValuesView}
use Rattle.py_value.specs.declared.value.Value.{Value}
use Rattle.py_value.specs.declared.value.Value.TheVariants.{None as NoneValue, Bool as TruthValue, Int, Text, Tuple, Range, Fn, Class, Exc, Builtin, Object}
use Rattle.py_model.proofs.Tuples.{some_tuple}
use Rattle.op_classes.specs.Chains.{next_step, is_class_at, ends_so}
use Rattle.op_classes.specs.Kinds.{class_in}

pub class_is : (v : Value) (place : Pos) → class_in v ≡ Some place → v ≡ Class place
class_is NoneValue place is = cc
class_is (TruthValue b) place is = cc
class_is (Int i) place is = cc
class_is (Text id) place is = cc
class_is (Tuple id) place is = cc
class_is (Range a b d) place is = cc
class_is (Fn at) place is = cc
class_is (Class at) place is = cc
class_is (Exc m) place is = cc
class_is (Builtin m) place is = cc
class_is (Object o) place is = cc

-- what is left of a walk of so many steps behind some of them
pub one_step : (i : ℕ) → i < longest_chain → longest_chain - i ≡ suc (longest_chain - (i + 1))
one_step i less = omega (arith, less)

ends_here : (table : ValuesView) (n number : ℕ) (sought : Value) (go : Bool → Plan) → class_walk (suc n) (contents table sought) (exception_class number) go ≡ go (ends_so sought (Exc number))
ends_here table n number NoneValue go = refl
ends_here table n number (TruthValue b) go = refl
ends_here table n number (Int i) go = refl
ends_here table n number (Text id) go = refl
ends_here table n number (Tuple id) go = ap (λ c. class_walk (suc n) c (exception_class number) go) (some_tuple table id).1
ends_here table n number (Range a b d) go = refl
ends_here table n number (Fn at) go = refl
ends_here table n number (Class at) go = refl
ends_here table n number (Exc m) go = refl
ends_here table n number (Builtin m) go = refl
ends_here table n number (Object o) go = refl

pub walk_ends : (table : ValuesView) (n : ℕ) (sought end : Value) (go : Bool → Plan) → class_in end ≡ None → class_walk (suc n) (contents table sought) (contents table end) go ≡ go (ends_so sought end)
walk_ends table n sought NoneValue go is = refl
walk_ends table n sought (TruthValue b) go is = refl
walk_ends table n sought (Int i) go is = refl
walk_ends table n sought (Text id) go is = refl
walk_ends table n sought (Tuple id) go is = ap (λ c. class_walk (suc n) (contents table sought) c go) (some_tuple table id).1
walk_ends table n sought (Range a b d) go is = refl
walk_ends table n sought (Fn at) go is = refl
walk_ends table n sought (Class at) go is = cc
walk_ends table n sought (Exc m) go is = ends_here table n m sought go
walk_ends table n sought (Builtin m) go is = refl
walk_ends table n sought (Object o) go is = refl

same_is : (table : ValuesView) (sought : Value) (place : Pos) → same_value (contents table sought) (class place) ≡ is_class_at sought place
same_is table NoneValue place = refl
same_is table (TruthValue b) place = refl
same_is table (Int i) place = refl
same_is table (Text id) place = refl
same_is table (Tuple id) place = ap (λ c. same_value c (class place)) (some_tuple table id).1
same_is table (Range a b d) place = refl
same_is table (Fn at) place = refl
same_is table (Class at) place = refl
same_is table (Exc m) place = refl
same_is table (Builtin m) place = refl
same_is table (Object o) place = refl

-- the walk goes on behind the class that was read
abbrev pub onwards : ℕ → Value → ValuesView → Option Contents → (Bool → Plan) → Plan
onwards n sought table base go = elim base [ None ↦ go false | Some next ↦ class_walk n (contents table sought) next go ]

abbrev here : ℕ → Value → ValuesView → Pos → (Bool → Plan) → Bool → Plan
here n sought table place go b = if b then go true else next_step place (λ x. onwards n sought table x go)

pub walk_found : (table : ValuesView) (n : ℕ) (sought : Value) (place : Pos) (go : Bool → Plan) → is_class_at sought place ≡ true → class_walk (suc n) (contents table sought) (class place) go ≡ go true
walk_found table n sought place go is = ap (here n sought table place go) (same_is table sought place ∙ is)

pub walk_on : (table : ValuesView) (n : ℕ) (sought : Value) (place : Pos) (go : Bool → Plan) → is_class_at sought place ≡ false
    → class_walk (suc n) (contents table sought) (class place) go ≡ next_step place (λ x. onwards n sought table x go)
walk_on table n sought place go is = ap (here n sought table place go) (same_is table sought place ∙ is)

-- what is left of the walk behind so many steps, by what stands there
abbrev pub left : ℕ → Value → Value → ValuesView → (Bool → Plan) → Plan
left i sought at table go = class_walk (longest_chain - i) (contents table sought) (contents table at) go

pub left_ends : (i : ℕ) (sought at : Value) → i < longest_chain → class_in at ≡ None → (table : ValuesView) (go : Bool → Plan) → left i sought at table go ≡ go (ends_so sought at)
left_ends i sought at less is table go = ap (λ n. class_walk n (contents table sought) (contents table at) go) (one_step i less) ∙ walk_ends table (longest_chain - (i + 1)) sought at go is

at_class : (i : ℕ) (sought at : Value) (place : Pos) → i < longest_chain → class_in at ≡ Some place → (table : ValuesView) (go : Bool → Plan)
    → left i sought at table go ≡ class_walk (suc (longest_chain - (i + 1))) (contents table sought) (class place) go
at_class i sought at place less is table go = ap (λ n. class_walk n (contents table sought) (contents table at) go) (one_step i less)
    ∙ ap (λ v. class_walk (suc (longest_chain - (i + 1))) (contents table sought) (contents table v) go) (class_is at place is)

pub left_found : (i : ℕ) (sought at : Value) (place : Pos) → i < longest_chain → class_in at ≡ Some place → is_class_at sought place ≡ true → (table : ValuesView) (go : Bool → Plan)
    → left i sought at table go ≡ go true
left_found i sought at place less is found table go = at_class i sought at place less is table go ∙ walk_found table (longest_chain - (i + 1)) sought place go found

pub left_on : (i : ℕ) (sought at : Value) (place : Pos) → i < longest_chain → class_in at ≡ Some place → is_class_at sought place ≡ false → (table : ValuesView) (go : Bool → Plan)
    → left i sought at table go ≡ next_step place (λ x. onwards (longest_chain - (i + 1)) sought table x go)
left_on i sought at place less is other table go = at_class i sought at place less is table go ∙ walk_on table (longest_chain - (i + 1)) sought place go other
