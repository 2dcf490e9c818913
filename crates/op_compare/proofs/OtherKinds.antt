-- Values in which nothing is sought.
use Rattle.std.proofs.Common.{◌≡◌, refl, ℕ, ℤ, Bool}
use Rattle.py_model.specs.Arithmetic.{contained}
use Rattle.py_model.specs.Faults.{wrong_kind}
use Rattle.py_model.specs.Plan.{Plan}
use Rattle.py_value.specs.Contents.{Contents, contents}
use Rattle.py_value.specs.Values.{ValuesView}
use Rattle.py_value.specs.declared.value.Value.{Value}
use Rattle.py_value.specs.declared.value.Value.TheVariants.{Text, Tuple, Range, Object}

pub not_sought : (table : ValuesView) (v : Contents) (w : Value) → ((a : ℕ) → w ≡ Text a → ⊥) → ((a : ℕ) → w ≡ Tuple a → ⊥) → ((a b d : ℤ) → w ≡ Range a b d → ⊥)
    → ((a : ℕ) → w ≡ Object a → ⊥) → (go : Bool → Plan) → contained v (contents table w) go ≡ wrong_kind
not_sought table v (Text a) text tuple range object go = absurd (text a refl)
not_sought table v (Tuple a) text tuple range object go = absurd (tuple a refl)
not_sought table v (Range a b d) text tuple range object go = absurd (range a b d refl)
not_sought table v (Object a) text tuple range object go = absurd (object a refl)
not_sought table v w text tuple range object go = refl
