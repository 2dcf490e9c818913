-- The pieces of a list of bytes between separators.
use Rattle.std.specs.Prelude.{ℕ, ◌==◌, Bool, not, List, [], ◌∷◌, if◌then◌else◌}
use Rattle.std.specs.List.{list_all}

-- no byte of the list is this one
abbrev pub is_free : ℕ → List ℕ → Bool
is_free byte bytes = list_all (λ other. not (other == byte)) bytes

abbrev pub with_first : ℕ → List (List ℕ) → List (List ℕ)
with_first byte [] = (byte ∷ []) ∷ []
with_first byte (piece ∷ pieces) = (byte ∷ piece) ∷ pieces

-- what stands before the first separator, between each two, and behind the last: one piece more than separators
abbrev pub pieces_at : ℕ → List ℕ → List (List ℕ)
pieces_at separator [] = [] ∷ []
pieces_at separator (byte ∷ bytes) = if byte == separator then [] ∷ pieces_at separator bytes else with_first byte (pieces_at separator bytes)
