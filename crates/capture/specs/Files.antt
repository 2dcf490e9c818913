-- Kept files (this project's profile): what was found at each path, in ascending order of the paths' bytes.
use Rattle.std.specs.Prelude.{◌≡◌, ℕ, Bool, List, [], ◌∷◌, true, Option, Some, None, bytes_eq, if◌then◌else◌}
use Rattle.std.specs.Cmp.Lexicographic.{slice_cmp}
use Rattle.std.specs.Ordering.{is_lt, nat_cmp}
use Rattle.prov_outside.specs.declared.folder.Found.{Found}

-- what is kept as found at the path
abbrev pub file_at : List (List ℕ × Found) → List ℕ → Option Found
file_at [] path = None
file_at (file ∷ files) path = if bytes_eq file.0 path then Some file.1 else file_at files path

-- the path stands before the other, byte by byte
abbrev pub is_before : List ℕ → List ℕ → Bool
is_before path other = is_lt (slice_cmp nat_cmp path other)

-- the path stands before those of all the files
abbrev pub IsBeforeAll : List ℕ → List (List ℕ × Found) → Type 0
IsBeforeAll path [] = Unit {0}
IsBeforeAll path (file ∷ files) = (is_before path file.0 ≡ true) × IsBeforeAll path files

-- the paths ascend, and no two are the same
abbrev pub IsAscending : List (List ℕ × Found) → Type 0
IsAscending [] = Unit {0}
IsAscending (file ∷ files) = IsBeforeAll file.0 files × IsAscending files

-- the files with one more, which is new, at its place in the order
abbrev pub with_file : List ℕ → Found → List (List ℕ × Found) → List (List ℕ × Found)
with_file path found [] = (path, found) ∷ []
with_file path found (file ∷ files) = if is_before path file.0 then (path, found) ∷ file ∷ files else file ∷ with_file path found files
