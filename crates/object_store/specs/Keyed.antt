-- A map over contents in which the keys of orders have their entries (this project's profile).
use Rattle.std.specs.Prelude.{◌≡◌, ℕ, ⊤, List, [], ◌∷◌, Option, Some}
use Rattle.py_value.specs.Contents.{Contents}
use Rattle.py_value.specs.KeyOf.{normal}
use Rattle.py_value.specs.Seen.{SeenLocation, SeenContent, SeenAccess, entry_at, order_at, file_at, entry_is, file_is, reads, sets, updates}
use Rattle.object_store.specs.Performing.{AreApart, keys_among}

abbrev pub SeenMap : Type 0
SeenMap = SeenLocation → Option SeenContent

-- an entry has this key as its first, where there is one
abbrev pub HasFirst : Contents → Option SeenContent → Type 0
HasFirst key (Some (entry_is (Some pair))) = pair.0 ≡ key
HasFirst key other = ⊤

-- there is an entry, and it has this key as its first
abbrev pub IsUnder : Contents → Option SeenContent → Type 0
IsUnder key (Some (entry_is (Some pair))) = pair.0 ≡ key
IsUnder key other = ⊥

abbrev pub AreUnder : SeenMap → ℕ → List Contents → Type 0
AreUnder map o [] = ⊤
AreUnder map o (key ∷ keys) = IsUnder key (map (entry_at o (normal key))) × AreUnder map o keys

-- No two keys of an order are equal as keys, each has its entry, and an entry stands at the normal form of its first key.
pub record IsKeyed (map : SeenMap) : Type 0 where
  pub apart : (o : ℕ) → AreApart (keys_among (map (order_at o)))
  pub entries : (o : ℕ) → AreUnder map o (keys_among (map (order_at o)))
  pub forms : (o : ℕ) (form : Contents) (pair : Contents × Contents) → map (entry_at o form) ≡ Some (entry_is (Some pair)) → normal pair.0 ≡ form

-- a location that is no entry and no order
abbrev pub IsPlainPlace : SeenLocation → Type 0
IsPlainPlace (entry_at o form) = ⊥
IsPlainPlace (order_at o) = ⊥
IsPlainPlace place = ⊤

-- an access that writes no entry and no order, and sets a file empty
abbrev pub IsPlain : SeenAccess → Type 0
IsPlain (reads place) = ⊤
IsPlain (sets (file_at path) (file_is bytes)) = bytes ≡ []
IsPlain (sets place content) = IsPlainPlace place
IsPlain (updates place change) = IsPlainPlace place

abbrev pub ArePlain : List SeenAccess → Type 0
ArePlain [] = ⊤
ArePlain (access ∷ plan) = IsPlain access × ArePlain plan

-- the entries of an object are set to these pairs, one after another
abbrev pub firsts : List (Contents × Contents) → List Contents
firsts [] = []
firsts (pair ∷ pairs) = pair.0 ∷ firsts pairs

abbrev pub entries_set : ℕ → List (Contents × Contents) → List SeenAccess
entries_set o [] = []
entries_set o (pair ∷ pairs) = sets (entry_at o (normal pair.0)) (entry_is (Some pair)) ∷ entries_set o pairs
