-- Whether a value is of one of several kinds.
use Rattle.std.proofs.Common.{◌≡◌, refl, ap, ◌∙◌, ℕ, ◌+◌, ◌<◌, ◌≤◌, Bool, true, false, ◌&&◌, List, [], ◌∷◌, length, drop, get_or, Some, None, if◌then◌else◌}
use Rattle.std.proofs.lemmas.List.{drop_all}
use Rattle.py_model.specs.Classes.{is_kind, value_is, isinstance, each_part, first_hit, answers_truth}
use Rattle.py_model.specs.Faults.{wrong_kind}
use Rattle.py_model.specs.Plan.{Plan, looks}
use Rattle.py_value.specs.Contents.{Contents, contents, parts_by, tuple}
use Rattle.py_value.specs.Values.{ValuesView}
use Rattle.py_value.specs.declared.value.Value.{Value}
use Rattle.py_value.specs.declared.value.Value.TheVariants.{None as NoneValue, Bool as TruthValue, Int, Text, Tuple, Range, Fn, Class, Exc, Builtin, Object}
use Rattle.py_model.proofs.Tuples.{some_tuple}
use Rattle.op_classes.specs.Kinds.{tuple_in}
use Rattle.op_classes.specs.ObjectKinds.{are_kinds, is_kind_value}
use Rattle.op_classes.proofs.MatchedKinds.{next_left}

kind_same : (table : ValuesView) (v : Value) → is_kind (contents table v) ≡ is_kind_value v
kind_same table NoneValue = refl
kind_same table (TruthValue b) = refl
kind_same table (Int i) = refl
kind_same table (Text id) = refl
kind_same table (Tuple id) = ap is_kind (some_tuple table id).1
kind_same table (Range a b d) = refl
kind_same table (Fn at) = refl
kind_same table (Class at) = refl
kind_same table (Exc m) = refl
kind_same table (Builtin m) = refl
kind_same table (Object o) = refl

each_seen : (table : ValuesView) (vs : List Value) → each_part is_kind (parts_by (contents table) vs) ≡ are_kinds vs
each_seen table [] = refl
each_seen table (v ∷ vs) = ap (λ b. b && each_part is_kind (parts_by (contents table) vs)) (kind_same table v) ∙ ap (λ b. is_kind_value v && b) (each_seen table vs)

-- by whether what is sought is all kinds
abbrev pub when_all : Plan → Bool → Plan
when_all plan b = if b then plan else wrong_kind

pub tuple_plan : (table : ValuesView) (v : Contents) (id : ℕ) (vs : List Value) → contents table (Tuple id) ≡ tuple (parts_by (contents table) vs) → (b : Bool) → are_kinds vs ≡ b
    → isinstance v (contents table (Tuple id)) ≡ when_all (first_hit (value_is v) (parts_by (contents table) vs) answers_truth) b
tuple_plan table v id vs is b all = ap (isinstance v) is ∙ ap (when_all (first_hit (value_is v) (parts_by (contents table) vs) answers_truth)) (each_seen table vs ∙ all)

pub kind_plan : (table : ValuesView) (v : Contents) (sought : Value) → tuple_in sought ≡ None → (b : Bool) → is_kind_value sought ≡ b
    → isinstance v (contents table sought) ≡ when_all (value_is v (contents table sought) answers_truth) b
kind_plan table v sought single b is = one table v sought single ∙ ap (when_all (value_is v (contents table sought) answers_truth)) (kind_same table sought ∙ is)
  where
    one : (table : ValuesView) (v : Contents) (sought : Value) → tuple_in sought ≡ None → isinstance v (contents table sought) ≡ when_all (value_is v (contents table sought) answers_truth) (is_kind (contents table sought))
    one table v NoneValue single = refl
    one table v (TruthValue b) single = refl
    one table v (Int i) single = refl
    one table v (Text id) single = refl
    one table v (Tuple id) single = cc
    one table v (Range a b d) single = refl
    one table v (Fn at) single = refl
    one table v (Class at) single = refl
    one table v (Exc m) single = refl
    one table v (Builtin m) single = refl
    one table v (Object o) single = refl

pub tuple_is : (v : Value) (id : ℕ) → tuple_in v ≡ Some id → v ≡ Tuple id
tuple_is NoneValue n is = cc
tuple_is (TruthValue b) n is = cc
tuple_is (Int i) n is = cc
tuple_is (Text id) n is = cc
tuple_is (Tuple id) n is = cc
tuple_is (Range a b d) n is = cc
tuple_is (Fn at) n is = cc
tuple_is (Class at) n is = cc
tuple_is (Exc m) n is = cc
tuple_is (Builtin m) n is = cc
tuple_is (Object o) n is = cc

-- what is left behind so many kinds, and behind the next of them
abbrev pub left : Value → List Value → ℕ → ValuesView → (Bool → Plan) → Plan
left v vs i table go = first_hit (value_is (contents table v)) (parts_by (contents table) (drop i vs)) go

abbrev pub behind_hit : Value → List Value → ℕ → ValuesView → Bool → (Bool → Plan) → Plan
behind_hit v vs i table hit go = elim hit [ true ↦ go true | false ↦ left v vs (i + 1) table go ]

abbrev pub behind_look : Value → List Value → ℕ → Value → ValuesView → Unit {0} → (Bool → Plan) → Plan
behind_look v vs i x table done go = value_is (contents table v) (contents table x) (λ hit. behind_hit v vs i table hit go)

pub left_is : (v : Value) (vs : List Value) (i : ℕ) (d : Value) → i < length vs → (table : ValuesView) (go : Bool → Plan) → left v vs i table go ≡ looks 1 (behind_look v vs i (get_or vs i d) table tt go)
left_is v vs i d within table go = ap (λ rest. first_hit (value_is (contents table v)) (parts_by (contents table) rest) go) (next_left vs i d within)

pub left_none : (v : Value) (vs : List Value) (i : ℕ) → length vs ≤ i → (table : ValuesView) (go : Bool → Plan) → left v vs i table go ≡ go false
left_none v vs i past table go = ap (λ rest. first_hit (value_is (contents table v)) (parts_by (contents table) rest) go) (drop_all i vs past)
