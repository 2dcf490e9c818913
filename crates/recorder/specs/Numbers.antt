-- No public clause cites this file.
-- What it is that something was named, and is written with numbers. It is the proof's means; no clause of the recorder speaks of it.
use Rattle.std.specs.Prelude.{◌≡◌, ℕ, List, [], ◌∷◌, ◌++◌, map, slice_get, Option, Some}
use Rattle.std.specs.Option.{option_map, option_and_then}
use Rattle.std.specs.Str.{bytes_eq}
use Rattle.py_value.specs.declared.value.Value.{Value}
use Rattle.py_value.specs.Contents.{Contents, Parts, text, tuple, contents}
use Rattle.py_value.specs.Seen.{value_at, values_at, number_by, bytes_of}
use Rattle.py_value.specs.Values.{ValuesView, Keeps, AreInterned}
use Rattle.recorder.specs.Naming.{Naming, named_in, named_in_each, name, name_all}

-- what has a number keeps it, and equal texts and tuples have one number afterwards
pub record Extends (old new : ValuesView) : Type 0 where
  pub texts : Keeps old.texts new.texts
  pub tuples : Keeps old.tuples new.tuples
  pub interned : AreInterned new

-- What it names was named in order. From then on x is seen as the item, and the item is written as x.
pub record Numbers {X B : Type 0} (seen : ValuesView → X → B) (written : ValuesView → B → Option X) (names : B → List Contents) (b : B) (old new : Naming) (x : X) : Type 0 where
  pub named : new ≡ name_all (names b) old
  pub extends : Extends old.view new.view
  pub reads : (later : ValuesView) → Extends new.view later → seen later x ≡ b
  pub writes : (later : ValuesView) → Extends new.view later → written later b ≡ Some x

abbrev pub all_of : {X B : Type 0} → (B → Option X) → List B → Option (List X)
all_of write [] = Some []
all_of write (b ∷ bs) = option_and_then (λ x. option_map (λ xs. x ∷ xs) (all_of write bs)) (write b)

abbrev pub NumbersAll : {X B : Type 0} → (ValuesView → X → B) → (ValuesView → B → Option X) → (B → List Contents) → List B → Naming → Naming → List X → Type 0
NumbersAll seen written names bs old new xs = Numbers (λ view. map (seen view)) (λ view. all_of (written view)) (named_in_each names) bs old new xs

abbrev pub NumbersValue : Contents → Naming → Naming → Value → Type 0
NumbersValue c old new v = Numbers contents value_at named_in c old new v

abbrev pub NumbersValues : List Contents → Naming → Naming → List Value → Type 0
NumbersValues cs old new vs = NumbersAll contents value_at named_in cs old new vs

abbrev pub NumbersText : List ℕ → Naming → Naming → ℕ → Type 0
NumbersText bytes old new n = Numbers bytes_of (λ view b. number_by (bytes_eq b) view.texts) (λ b. text b ∷ []) bytes old new n

-- the tuple of these values was named, whichever contents they are the values of
pub record NumbersTuple (items : List Value) (old new : Naming) (id : ℕ) : Type 0 where
  pub named : (parts : Parts) → values_at old.view parts ≡ Some items → new ≡ name (tuple parts) old
  pub extends : Extends old.view new.view
  pub at : slice_get new.view.tuples id ≡ Some items

-- what is left to number, and numbers what was left, numbers all
abbrev pub Goes : {X B : Type 0} → (ValuesView → X → B) → (ValuesView → B → Option X) → (B → List Contents) → List B → List B → Naming → Naming → List X → Type 0
Goes {X} seen written names all left old now done =
    (rest : List X) (end : Naming) → NumbersAll seen written names left now end rest → NumbersAll seen written names all old end (done ++ rest)
