-- Values that have no length.
use Rattle.std.proofs.Common.{◌≡◌, refl, ℕ, ℤ}
use Rattle.py_model.specs.Arithmetic.{length_of}
use Rattle.py_model.specs.Faults.{wrong_kind}
use Rattle.py_model.specs.Plan.{Plan}
use Rattle.py_value.specs.Contents.{contents}
use Rattle.py_value.specs.Values.{ValuesView}
use Rattle.py_value.specs.declared.value.Value.{Value}
use Rattle.py_value.specs.declared.value.Value.TheVariants.{None as NoneValue, Bool, Int, Text, Tuple, Range, Fn, Class, Exc, Builtin, Object}

pub no_length : (table : ValuesView) (v : Value) → ((id : ℕ) → v ≡ Text id → ⊥) → ((id : ℕ) → v ≡ Tuple id → ⊥) → ((a b c : ℤ) → v ≡ Range a b c → ⊥)
    → ((o : ℕ) → v ≡ Object o → ⊥) → (go : ℕ → Plan) → length_of (contents table v) go ≡ wrong_kind
no_length table (Text id) text tuple range object go = absurd (text id refl)
no_length table (Tuple id) text tuple range object go = absurd (tuple id refl)
no_length table (Range a b c) text tuple range object go = absurd (range a b c refl)
no_length table (Object o) text tuple range object go = absurd (object o refl)
no_length table NoneValue text tuple range object go = refl
no_length table (Bool b) text tuple range object go = refl
no_length table (Int i) text tuple range object go = refl
no_length table (Fn place) text tuple range object go = refl
no_length table (Class place) text tuple range object go = refl
no_length table (Exc number) text tuple range object go = refl
no_length table (Builtin number) text tuple range object go = refl
