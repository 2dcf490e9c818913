-- Keys of orders, each with its entry.
use Rattle.std.specs.Prelude.{◌≡◌, ⊤, ℕ, true, List, [], ◌∷◌, is_some}
use Rattle.py_value.specs.Contents.{Contents}
use Rattle.py_model.specs.Store.{RunStore, entry_of}

-- each of these keys has an entry in the object
abbrev pub HaveEntries : RunStore → ℕ → List Contents → Type 0
HaveEntries store o [] = ⊤
HaveEntries store o (key ∷ keys) = (is_some (entry_of store o key) ≡ true) × HaveEntries store o keys
