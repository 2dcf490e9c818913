-- No public clause cites this file.
-- What one moment knows of the tuples that it has walked. It is the proof's means; no clause of the recorder speaks of it.
use Rattle.std.specs.Prelude.{◌≡◌, ℕ, nat_eq, List, Option, Some}
use Rattle.std.specs.Map.{lookup}
use Rattle.py_value.specs.declared.value.Value.TheVariants.{Tuple}
use Rattle.py_value.specs.Contents.{contents}
use Rattle.py_value.specs.Values.{ValuesView, AreInterned, IsNamed}

-- the number in rows of a tuple of the run, where it was noted
abbrev pub number_in : List (ℕ × ℕ) → ℕ → Option ℕ
number_in noted id = lookup (nat_eq id) noted

-- the tuple of the run has a number in rows: the tuple with that number has its contents
pub record IsWalked (values view : ValuesView) (id number : ℕ) : Type 0 where
  pub named : IsNamed view (Tuple number)
  pub same : contents view (Tuple number) ≡ contents values (Tuple id)

-- Equal texts and tuples have one number in rows, and what is noted of tuples of the run is so.
pub record IsReady (values view : ValuesView) (noted : List (ℕ × ℕ)) : Type 0 where
  pub interned : AreInterned view
  pub walked : (id number : ℕ) → number_in noted id ≡ Some number → IsWalked values view id number
