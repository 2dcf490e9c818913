-- Values that are named stay so, and so does a list with one more.
use Rattle.std.proofs.Common.{◌≡◌, subst, arith, zero, suc, ◌≤◌, length, List, [], ◌∷◌, ◌++◌, Some}
use Rattle.py_value.specs.Values.{ValuesView, IsNamed, AreNamed}
use Rattle.py_value.specs.declared.value.Value.{Value}
use Rattle.py_value.specs.declared.value.Value.TheVariants.{None as NoneValue, Bool, Int, Text, Tuple, Range, Fn, Class, Exc, Builtin, Object}

module _ (old new : ValuesView) (few : (length old.texts ≤ length new.texts) × (length old.tuples ≤ length new.tuples)) where
  pub named_stays : (v : Value) → IsNamed old v → IsNamed new v
  named_stays (Text id) named = omega (arith, named, few.0)
  named_stays (Tuple id) named = omega (arith, named, few.1)
  named_stays NoneValue named = tt
  named_stays (Bool b) named = tt
  named_stays (Int i) named = tt
  named_stays (Range a b c) named = tt
  named_stays (Fn place) named = tt
  named_stays (Class place) named = tt
  named_stays (Exc number) named = tt
  named_stays (Builtin number) named = tt
  named_stays (Object o) named = tt

  pub all_named_stay : (vs : List Value) → AreNamed old vs → AreNamed new vs
  all_named_stay vs named = λ i v is. named_stays v (named i v is)

same : (v w : Value) → Some v ≡ Some w → v ≡ w
same v w is = cc

pub named_behind : (values : ValuesView) (vs : List Value) (v : Value) → AreNamed values vs → IsNamed values v → AreNamed values (vs ++ v ∷ [])
named_behind values [] v named one zero w is = subst (IsNamed values) (same v w is) one
named_behind values [] v named one (suc i) w is = cc
named_behind values (first ∷ vs) v named one zero w is = named zero w is
named_behind values (first ∷ vs) v named one (suc i) w is = named_behind values vs v (λ j x at. named (suc j) x at) one i w is
