-- Identity as a plan.
use Rattle.std.proofs.Common.{◌≡◌, refl, sym, ap, subst, ℕ, Bool}
use Rattle.py_model.specs.Arithmetic.{identical}
use Rattle.py_model.specs.Plan.{Plan}
use Rattle.py_value.specs.Contents.{Parts, contents, tuple}
use Rattle.py_value.specs.Values.{ValuesView}
use Rattle.py_value.specs.declared.value.Value.{Value}
use Rattle.py_value.specs.declared.value.Value.TheVariants.{Tuple}
use Rattle.py_model.proofs.Tuples.{some_tuple}
use Rattle.op_numbers.specs.Identity.{identity_of, or_not_there}

module _ (table : ValuesView) (go : Bool → Plan) where
  tuple_first : (id : ℕ) (ps : Parts) (w : Value) → identical (tuple ps) (contents table w) go ≡ or_not_there (identity_of (Tuple id) w) go
  tuple_first id ps (Tuple other) = ap (λ c. identical (tuple ps) c go) (some_tuple table other).1
  tuple_first id ps w = refl

  pub identity_is : (v w : Value) → identical (contents table v) (contents table w) go ≡ or_not_there (identity_of v w) go
  identity_is (Tuple id) w = subst (λ c. identical c (contents table w) go ≡ or_not_there (identity_of (Tuple id) w) go) (sym (some_tuple table id).1) (tuple_first id (some_tuple table id).0 w)
  identity_is v (Tuple id) = subst (λ c. identical (contents table v) c go ≡ or_not_there (identity_of v (Tuple id)) go) (sym (some_tuple table id).1) refl
  identity_is v w = refl
