-- The start of a `for`, as a plan.
use Rattle.std.proofs.Common.{◌≡◌, refl, ap, ℕ, ℤ, List, [], ◌∷◌}
use Rattle.py_model.proofs.Tuples.{some_tuple}
use Rattle.py_model.specs.Faults.{wrong_kind}
use Rattle.py_model.specs.Lists.{iter}
use Rattle.py_model.specs.Operands.{of_one, gives}
use Rattle.py_model.specs.Plan.{Plan}
use Rattle.py_value.specs.Contents.{Contents, contents, nothing, text, tuple, range, object}
use Rattle.py_value.specs.Values.{ValuesView}
use Rattle.py_value.specs.declared.value.Value.{Value}
use Rattle.py_value.specs.declared.value.Value.TheVariants.{None as NoneValue, Bool, Int, Text, Tuple, Range, Fn, Class, Exc, Builtin, Object}

abbrev pub start_of : Contents → Plan
start_of v = iter (v ∷ [])

pub iter_is : (operands : List Contents) → iter operands ≡ of_one start_of operands
iter_is [] = refl
iter_is (v ∷ []) = refl
iter_is (tuple parts ∷ w ∷ more) = refl
iter_is (range a b c ∷ w ∷ more) = refl
iter_is (text bytes ∷ w ∷ more) = refl
iter_is (object o ∷ w ∷ more) = refl
iter_is (other ∷ w ∷ more) = refl

pub tuple_start : (table : ValuesView) (id : ℕ) → start_of (contents table (Tuple id)) ≡ gives nothing
tuple_start table id = ap start_of (some_tuple table id).1

pub no_start : (table : ValuesView) (v : Value) → ((id : ℕ) → v ≡ Text id → ⊥) → ((id : ℕ) → v ≡ Tuple id → ⊥) → ((a b c : ℤ) → v ≡ Range a b c → ⊥)
    → ((o : ℕ) → v ≡ Object o → ⊥) → start_of (contents table v) ≡ wrong_kind
no_start table (Text id) not_text not_tuple not_range not_object = absurd (not_text id refl)
no_start table (Tuple id) not_text not_tuple not_range not_object = absurd (not_tuple id refl)
no_start table (Range a b c) not_text not_tuple not_range not_object = absurd (not_range a b c refl)
no_start table (Object o) not_text not_tuple not_range not_object = absurd (not_object o refl)
no_start table NoneValue not_text not_tuple not_range not_object = refl
no_start table (Bool b) not_text not_tuple not_range not_object = refl
no_start table (Int i) not_text not_tuple not_range not_object = refl
no_start table (Fn place) not_text not_tuple not_range not_object = refl
no_start table (Class place) not_text not_tuple not_range not_object = refl
no_start table (Exc number) not_text not_tuple not_range not_object = refl
no_start table (Builtin number) not_text not_tuple not_range not_object = refl
