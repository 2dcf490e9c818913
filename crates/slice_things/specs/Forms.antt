-- The forms of keys: one for all that are equal.
use Rattle.std.specs.Prelude.{◌≡◌, ◌++◌, ℕ, true, false, List, ◌∷◌, [], length, map, slice_get, unwrap_or, Some, pos}
use Rattle.py_value.specs.declared.value.Value.{Value}
use Rattle.py_value.specs.declared.value.Value.TheVariants.{None as Nothing, Bool as Truth, Int, Text, Tuple, Range, Fn, Class, Exc, Builtin, Object}
use Rattle.py_value.specs.KeyOf.{IsNormalOf}
use Rattle.py_value.specs.Values.{ValuesView, AreInterned, IsBelow, Keeps}
use Rattle.slice_things.specs.declared.forms.Forms.{Forms}

-- the form of a value, where tuples have these forms
abbrev pub form_in : List ℕ → Value → Value
form_in numbers (Truth true) = Int (pos 1)
form_in numbers (Truth false) = Int (pos 0)
form_in numbers (Tuple n) = Tuple (unwrap_or (slice_get numbers n) n)
form_in numbers Nothing = Nothing
form_in numbers (Int i) = Int i
form_in numbers (Text n) = Text n
form_in numbers (Range start end step) = Range start end step
form_in numbers (Fn at) = Fn at
form_in numbers (Class at) = Class at
form_in numbers (Exc n) = Exc n
form_in numbers (Builtin n) = Builtin n
form_in numbers (Object n) = Object n

-- The first tuples have their forms: these are the normal forms, in a table of their own that has the same texts.
pub record AreFormsOf (view : ValuesView) (n : ℕ) (forms : Forms) : Type 0 where
  pub texts : forms.values.texts ≡ view.texts
  pub interned : AreInterned forms.values
  pub many : length forms.numbers.items ≡ n
  pub each : (v : Value) → IsBelow (length view.texts) n v → IsNormalOf view forms.values v (form_in forms.numbers.items v)

-- all tuples have
abbrev pub AreForms : ValuesView → Forms → Type 0
AreForms view forms = AreFormsOf view (length view.tuples) forms

-- one tuple more has its form
pub record IsFormed (old new : Forms) (items : List Value) : Type 0 where
  pub texts : new.values.texts ≡ old.values.texts
  pub keeps : Keeps old.values.tuples new.values.tuples
  pub interned : AreInterned new.values
  pub number : ℕ
  pub numbers : new.numbers.items ≡ old.numbers.items ++ number ∷ []
  pub formed : slice_get new.values.tuples number ≡ Some (map (form_in old.numbers.items) items)
