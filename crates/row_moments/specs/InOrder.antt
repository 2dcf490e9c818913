-- Texts and tuples that rows bring one after the other.
use Rattle.std.specs.Prelude.{◌≡◌, ℕ, List, length, slice_get, Some}
use Rattle.py_value.specs.declared.value.Value.{Value}
use Rattle.py_value.specs.Values.{ValuesView, StandOnce, AreBelow}

-- No text and no tuple stands twice, and a tuple's parts stand before it. How many there are is not said: a table of numbers with 32 bits
-- that takes all of them shows that they are few.
pub record StandInOrder (view : ValuesView) : Type 0 where
  pub texts_once : StandOnce view.texts
  pub tuples_once : StandOnce view.tuples
  pub parts : (tuple : ℕ) (items : List Value) → slice_get view.tuples tuple ≡ Some items → AreBelow (length view.texts) tuple items
