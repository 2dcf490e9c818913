-- What indexes are as plans.
use Rattle.std.proofs.Common.{◌≡◌, refl, ap, ℕ, ℤ, true, false, Option, Some, None}
use Rattle.py_value.specs.Contents.{contents}
use Rattle.py_value.specs.Values.{ValuesView}
use Rattle.py_value.specs.declared.value.Value.{Value}
use Rattle.py_value.specs.declared.value.Value.TheVariants.{None as NoneValue, Bool as TruthValue, Int, Text, Tuple, Range, Fn, Class, Exc, Builtin, Object}
use Rattle.py_model.specs.Faults.{wrong_kind, bad_index}
use Rattle.py_model.specs.Lists.{with_place}
use Rattle.py_model.specs.Places.{with_index, place_in}
use Rattle.py_model.specs.Plan.{Plan}
use Rattle.py_model.proofs.Tuples.{some_tuple}
use Rattle.py_value.specs.Numbers.{number_of_value}

abbrev pub or_wrong : Option ℤ → (ℤ → Plan) → Plan
or_wrong (Some i) go = go i
or_wrong None go = wrong_kind

pub index_is : (table : ValuesView) (v : Value) (go : ℤ → Plan) → with_index (contents table v) go ≡ or_wrong (number_of_value v) go
index_is table NoneValue go = refl
index_is table (TruthValue true) go = refl
index_is table (TruthValue false) go = refl
index_is table (Int i) go = refl
index_is table (Text id) go = refl
index_is table (Tuple id) go = ap (λ c. with_index c go) (some_tuple table id).1
index_is table (Range a b c) go = refl
index_is table (Fn place) go = refl
index_is table (Class place) go = refl
index_is table (Exc number) go = refl
index_is table (Builtin number) go = refl
index_is table (Object o) go = refl

abbrev pub or_bad : Option ℕ → (ℕ → Plan) → Plan
or_bad (Some p) go = go p
or_bad None go = bad_index

by_place : (go : ℕ → Plan) (p : Option ℕ) → (elim p [ None ↦ bad_index | Some q ↦ go q ]) ≡ or_bad p go
by_place go None = refl
by_place go (Some p) = refl

pub place_is : (i : ℤ) (n : ℕ) (go : ℕ → Plan) → with_place i n go ≡ or_bad (place_in i n) go
place_is i n go = by_place go (place_in i n)
