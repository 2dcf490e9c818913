-- Values that cannot be walked.
use Rattle.std.proofs.Common.{◌≡◌, refl, ℕ, ℤ, List}
use Rattle.py_model.specs.Faults.{wrong_kind}
use Rattle.py_model.specs.Plan.{Plan}
use Rattle.py_model.specs.Walks.{walk, if_walked}
use Rattle.py_value.specs.Contents.{Contents, contents}
use Rattle.py_value.specs.Values.{ValuesView}
use Rattle.py_value.specs.declared.value.Value.{Value}
use Rattle.py_value.specs.declared.value.Value.TheVariants.{None as NoneValue, Bool, Int, Text, Tuple, Range, Fn, Class, Exc, Builtin, Object}

module _ (table : ValuesView) where
  pub no_sequence : (v : Value) → ((id : ℕ) → v ≡ Text id → ⊥) → ((id : ℕ) → v ≡ Tuple id → ⊥) → ((a b c : ℤ) → v ≡ Range a b c → ⊥) → ((o : ℕ) → v ≡ Object o → ⊥)
      → (next : Plan) → if_walked (contents table v) next ≡ wrong_kind
  no_sequence (Text id) text tuple range object next = absurd (text id refl)
  no_sequence (Tuple id) text tuple range object next = absurd (tuple id refl)
  no_sequence (Range a b c) text tuple range object next = absurd (range a b c refl)
  no_sequence (Object o) text tuple range object next = absurd (object o refl)
  no_sequence NoneValue text tuple range object next = refl
  no_sequence (Bool b) text tuple range object next = refl
  no_sequence (Int i) text tuple range object next = refl
  no_sequence (Fn place) text tuple range object next = refl
  no_sequence (Class place) text tuple range object next = refl
  no_sequence (Exc number) text tuple range object next = refl
  no_sequence (Builtin number) text tuple range object next = refl

  pub no_walk : (v : Value) → ((id : ℕ) → v ≡ Text id → ⊥) → ((id : ℕ) → v ≡ Tuple id → ⊥) → ((a b c : ℤ) → v ≡ Range a b c → ⊥) → ((o : ℕ) → v ≡ Object o → ⊥)
      → (go : List Contents → Plan) → walk (contents table v) go ≡ wrong_kind
  no_walk (Text id) text tuple range object go = absurd (text id refl)
  no_walk (Tuple id) text tuple range object go = absurd (tuple id refl)
  no_walk (Range a b c) text tuple range object go = absurd (range a b c refl)
  no_walk (Object o) text tuple range object go = absurd (object o refl)
  no_walk NoneValue text tuple range object go = refl
  no_walk (Bool b) text tuple range object go = refl
  no_walk (Int i) text tuple range object go = refl
  no_walk (Fn place) text tuple range object go = refl
  no_walk (Class place) text tuple range object go = refl
  no_walk (Exc number) text tuple range object go = refl
  no_walk (Builtin number) text tuple range object go = refl
