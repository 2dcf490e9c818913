-- What a contract sees of the texts and tuples of a run (this project's profile), and what holds of them.
use Rattle.std.specs.Prelude.{◌≡◌, ℕ, ◌<◌, ◌≤◌, ◌⊎◌, ⊤, List, [], ◌∷◌, ◌++◌, length, Some, slice_get, Contains}
use Rattle.py_value.specs.declared.value.Value.{Value}
use Rattle.py_value.specs.declared.value.Value.TheVariants.{None, Bool, Int, Text, Tuple, Range, Fn, Class, Exc, Builtin, Object}

-- the texts, as their UTF-8 bytes, and the tuples, each at its number
pub record ValuesView : Type 0 where
  pub texts : List (List ℕ)
  pub tuples : List (List Value)

-- the number of a text or tuple is one of so many
abbrev pub IsBelow : ℕ → ℕ → Value → Type 0
IsBelow texts tuples (Text text) = text < texts
IsBelow texts tuples (Tuple tuple) = tuple < tuples
IsBelow texts tuples None = ⊤
IsBelow texts tuples (Bool b) = ⊤
IsBelow texts tuples (Int i) = ⊤
IsBelow texts tuples (Range start end step) = ⊤
IsBelow texts tuples (Fn place) = ⊤
IsBelow texts tuples (Class place) = ⊤
IsBelow texts tuples (Exc number) = ⊤
IsBelow texts tuples (Builtin number) = ⊤
IsBelow texts tuples (Object object) = ⊤

-- each value of the list is so
abbrev pub AreBelow : ℕ → ℕ → List Value → Type 0
AreBelow texts tuples items = (i : ℕ) (item : Value) → slice_get items i ≡ Some item → IsBelow texts tuples item

-- the texts and tuples that the value names were named before
abbrev pub IsNamed : ValuesView → Value → Type 0
IsNamed view value = IsBelow (length view.texts) (length view.tuples) value

abbrev pub AreNamed : ValuesView → List Value → Type 0
AreNamed view items = AreBelow (length view.texts) (length view.tuples) items

module _ {A : Type 0} where
  -- no item stands at two places
  abbrev pub StandOnce : List A → Type 0
  StandOnce xs = (i j : ℕ) (x : A) → slice_get xs i ≡ Some x → slice_get xs j ≡ Some x → i ≡ j

  -- the new list is the old one where the item is there, and else has it behind the others
  abbrev pub Adds : List A → List A → A → Type 0
  Adds old new x = (Contains old x × (new ≡ old)) ⊎ ((Contains old x → ⊥) × (new ≡ old ++ x ∷ []))

  -- each item stays where it was
  abbrev pub Keeps : List A → List A → Type 0
  Keeps old new = (i : ℕ) (x : A) → slice_get old i ≡ Some x → slice_get new i ≡ Some x

-- Equal texts have one number, and so have equal tuples. The numbers have 32 bits. A tuple's parts were named before it.
pub record AreInterned (view : ValuesView) : Type 0 where
  pub texts_once : StandOnce view.texts
  pub tuples_once : StandOnce view.tuples
  pub texts_few : length view.texts ≤ 4294967296
  pub tuples_few : length view.tuples ≤ 4294967296
  pub parts : (tuple : ℕ) (items : List Value) → slice_get view.tuples tuple ≡ Some items → AreBelow (length view.texts) tuple items
