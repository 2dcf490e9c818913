-- What is reached from a value, where these are the values that objects hold.
use Rattle.std.specs.Prelude.{◌≡◌, ◌↔◌, ℕ, ◌<◌, ◌⊎◌, Bool, true, false, List, [], slice_get, unwrap_or, Some}
use Rattle.py_value.specs.declared.value.Value.{Value}
use Rattle.py_value.specs.declared.value.Value.TheVariants.{None as Nothing, Bool as Truth, Int, Text, Tuple, Range, Fn, Class, Exc, Builtin, Object}
use Rattle.py_value.specs.Contents.{contents}
use Rattle.py_value.specs.Values.{ValuesView, Keeps}
use Rattle.slice_law.specs.Closed.{IsIn}
use Rattle.slice_law.specs.Reached.{StandsIn}
use Rattle.slice_things.specs.Children.{HoldsChild}
use Rattle.slicer.specs.Groups.{group_in}

-- an object stands in the value, or in a value that a reached object holds
pub data Reaches (view : ValuesView) (children : List (ℕ × Value)) (v : Value) : ℕ → Type 0 where
  in_value : {o : ℕ} → StandsIn o (contents view v) → Reaches view children v o
  in_child : {p : ℕ} (o : ℕ) → Reaches view children v o → HoldsChild view children o p → Reaches view children v p

-- objects may stand in a value
abbrev pub leads : Value → Bool
leads (Tuple t) = true
leads (Object o) = true
leads Nothing = false
leads (Truth b) = false
leads (Int i) = false
leads (Text n) = false
leads (Range start end step) = false
leads (Fn at) = false
leads (Class at) = false
leads (Exc n) = false
leads (Builtin n) = false

-- the parts of a tuple, and the values that an object holds
abbrev pub inside : List (List Value) → List (ℕ × List Value) → Value → List Value
inside tuples groups (Tuple t) = unwrap_or (slice_get tuples t) []
inside tuples groups (Object o) = group_in groups o
inside tuples groups Nothing = []
inside tuples groups (Truth b) = []
inside tuples groups (Int i) = []
inside tuples groups (Text n) = []
inside tuples groups (Range start end step) = []
inside tuples groups (Fn at) = []
inside tuples groups (Class at) = []
inside tuples groups (Exc n) = []
inside tuples groups (Builtin n) = []

-- the values in which objects may stand are put behind the others, each once
pub record Grows (old vs new : List Value) : Type 0 where
  pub keeps : Keeps old new
  pub comes : (u : Value) → IsIn new u → IsIn old u ⊎ IsIn vs u
  pub goes : (u : Value) → IsIn vs u → leads u ≡ true → IsIn new u

-- what is found so far: the value, only what is reached from it, and all that stands in the first
pub record IsWalked (view : ValuesView) (tuples : List (List Value)) (children : List (ℕ × Value)) (groups : List (ℕ × List Value)) (v : Value) (n : ℕ) (found : List Value) : Type 0 where
  pub starts : leads v ≡ true → IsIn found v
  pub sound : (u : Value) → IsIn found u → (p : ℕ) → StandsIn p (contents view u) → Reaches view children v p
  pub closed : (i : ℕ) (u : Value) → i < n → slice_get found i ≡ Some u → (w : Value) → IsIn (inside tuples groups u) w → leads w ≡ true → IsIn found w

-- the objects that are found are those that are reached
abbrev pub AreReached : ValuesView → List (ℕ × Value) → Value → List Value → Type 0
AreReached view children v found = (p : ℕ) → IsIn found (Object p) ↔ Reaches view children v p
