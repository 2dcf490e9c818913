-- What is refused of a value as a key is what is refused of its contents.
use Rattle.std.proofs.Common.{◌≡◌, ℕ, zero, suc, List, [], ◌∷◌, length, unwrap_or, Option, refl, sym, ap, ◌∙◌, arith}
use Rattle.std.specs.Option.{option_or}
use Rattle.py_value.proofs.Interning.{below_more}
use Rattle.py_value.proofs.SameContents.{item_at}
use Rattle.py_value.proofs.NormalForms.{tuple_contents}
use Rattle.py_value.specs.declared.key.KeyFault.{KeyFault}
use Rattle.py_value.specs.declared.value.Value.{Value}
use Rattle.py_value.specs.declared.value.Value.TheVariants.{None as Nothing, Bool as Truth, Int, Text, Tuple, Range, Fn, Class, Exc, Builtin, Object}
use Rattle.py_value.specs.Values.{ValuesView, AreInterned, AreNamed, IsNamed}
use Rattle.py_value.specs.Contents.{parts_by, contents}
use Rattle.py_value.specs.KeyOf.{first_fault, fault_within, key_fault, parts_fault}

module _ (view : ValuesView) (interned : AreInterned view) where
  faults_are : (n : ℕ) → ((v : Value) → IsNamed view v → fault_within n view v ≡ key_fault n (contents view v))
      → (vs : List Value) → AreNamed view vs → first_fault (fault_within n view) vs ≡ parts_fault n (parts_by (contents view) vs)
  faults_are n one [] named = refl
  faults_are n one (v ∷ vs) named =
      ap (λ (fault : Option KeyFault). option_or fault (first_fault (fault_within n view) vs)) (one v (named 0 v refl))
      ∙ ap (option_or (key_fault n (contents view v))) (faults_are n one vs (λ i item at. named (suc i) item at))

  pub fault_is : (n : ℕ) (v : Value) → IsNamed view v → fault_within n view v ≡ key_fault n (contents view v)
  fault_is zero (Tuple id) named =
      let x = item_at view.tuples id named in
      sym (ap (key_fault zero) (tuple_contents view interned id x.0 x.1))
  fault_is (suc n) (Tuple id) named =
      let x = item_at view.tuples id named in
      ap (λ found. first_fault (fault_within n view) (unwrap_or found [])) x.1
      ∙ faults_are n (fault_is n) x.0 (λ i item at. below_more (length view.texts) id (length view.texts) (length view.tuples) item (omega arith) (omega (arith, named)) (interned.parts id x.0 x.1 i item at))
      ∙ sym (ap (key_fault (suc n)) (tuple_contents view interned id x.0 x.1))
  fault_is n Nothing named = refl
  fault_is n (Truth t) named = refl
  fault_is n (Int k) named = refl
  fault_is n (Text i) named = refl
  fault_is n (Range start end step) named = refl
  fault_is n (Fn place) named = refl
  fault_is n (Class place) named = refl
  fault_is n (Exc number) named = refl
  fault_is n (Builtin number) named = refl
  fault_is n (Object number) named = refl
