-- No public clause cites this file.
-- The distinct keys of a dictionary's display, each with its first form and its last value.
use Rattle.std.specs.Prelude.{⊤, List, [], ◌∷◌, map, Bool, if◌then◌else◌}
use Rattle.op_mutations.specs.declared.pairs.Pair.{Pair}
use Rattle.op_work.specs.Entries.{IsKeyOf}
use Rattle.py_model.specs.Dicts.{with_pair}
use Rattle.py_model.specs.Faults.{wrong_number}
use Rattle.py_model.specs.Keys.{with_key_of}
use Rattle.py_model.specs.Plan.{Plan, Writes, write}
use Rattle.py_value.specs.Contents.{Contents, contents}
use Rattle.py_value.specs.Seen.{entry_at, entry_is}
use Rattle.py_value.specs.Values.{ValuesView, IsNamed}
use Rattle.py_value.specs.contracts.value.ValuePartialEq.TheImpl.{ghosts as values_eq}
use Rattle.py_value.specs.declared.key.Key.{Key}
use Rattle.py_value.specs.declared.value.Value.{Value}
use Rattle.std.specs.Prelude.{ℕ, Some}

-- the pairs of a display, key and value in turn, as a plan that goes on with all of them
abbrev pub pairs_behind : List Contents → List (Contents × Contents) → (List (Contents × Contents) → Plan) → Plan
pairs_behind [] pairs go = go pairs
pairs_behind (key ∷ []) pairs go = wrong_number
pairs_behind (key ∷ (item ∷ rest)) pairs go = with_key_of key (λ k. pairs_behind rest (with_pair k item pairs) go)

abbrev pub has_key : Key → Pair → Bool
has_key key pair = values_eq.eq pair.key.value key.value

-- the pairs with a value for a key: a key that is there keeps its place and its first form
abbrev pub with_value : Key → Value → Value → List Pair → List Pair
with_value key first item [] = record { key = key; first = first; item = item } ∷ []
with_value key first item (pair ∷ pairs) = if has_key key pair then record pair { item = item } ∷ pairs else pair ∷ with_value key first item pairs

abbrev pub IsPair : ValuesView → Pair → Type 0
IsPair values pair = IsKeyOf pair.first values pair.key × IsNamed values pair.item

abbrev pub ArePairs : ValuesView → List Pair → Type 0
ArePairs values [] = ⊤
ArePairs values (pair ∷ pairs) = IsPair values pair × ArePairs values pairs

abbrev pub pair_seen : ValuesView → Pair → Contents × Contents
pair_seen table pair = (contents table pair.first, contents table pair.item)

abbrev pub pairs_seen : ValuesView → List Pair → List (Contents × Contents)
pairs_seen table pairs = map (pair_seen table) pairs

abbrev pub firsts : List Pair → List Value
firsts pairs = map (λ (pair : Pair). pair.first) pairs

-- the entries of an object are set at these keys
abbrev pub entries_set : ℕ → ValuesView → List Pair → Writes → Writes
entries_set o table [] end = end
entries_set o table (pair ∷ pairs) end = write (entry_at o (contents table pair.key.value)) (entry_is (Some (pair_seen table pair))) (entries_set o table pairs end)
