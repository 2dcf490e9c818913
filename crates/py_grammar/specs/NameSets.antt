-- What is known of a set of names: which names are in it.
use Rattle.std.specs.Prelude.{◌≡◌, ℕ, ◌||◌, List}
use Rattle.std.specs.Str.{bytes_eq}
use Rattle.py_grammar.specs.WellPlaced.{is_in}

-- the set has the names of the list
pub record Agrees (set names : List (List ℕ)) : Type 0 where
  pub alike : (x : List ℕ) → is_in x set ≡ is_in x names

-- the name was added
pub record AddsName (old new : List (List ℕ)) (name : List ℕ) : Type 0 where
  pub added : (x : List ℕ) → is_in x new ≡ (is_in x old || bytes_eq x name)
