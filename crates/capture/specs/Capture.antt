-- The capture of a run (this project's profile): the answers that the devices gave, the files that were found, and the
-- paths that were opened for writing.
use Rattle.std.specs.Prelude.{ℕ, Bool, ◌||◌, List, ◌∷◌, [], ◌++◌, bytes_eq, is_some, if◌then◌else◌}
use Rattle.std.specs.List.{list_any}
use Rattle.prov_outside.specs.declared.folder.Found.{Found}
use Rattle.capture.specs.declared.answer.Asked.{Asked}
use Rattle.capture.specs.Files.{file_at}

-- the answers in the order in which they were kept, the files by path, and the paths that were noted as written in order of
-- first opening
pub record CaptureView : Type 0 where
  pub answers : List Asked
  pub files : List (List ℕ × Found)
  pub written : List (List ℕ)

-- the path is one of these
abbrev pub is_among : List ℕ → List (List ℕ) → Bool
is_among path paths = list_any (bytes_eq path) paths

-- the paths with one more, where it is not among them yet
abbrev pub with_path : List ℕ → List (List ℕ) → List (List ℕ)
with_path path paths = if is_among path paths then paths else paths ++ path ∷ []

-- what was found at the path is kept, or the path was noted as written
abbrev pub is_known : CaptureView → List ℕ → Bool
is_known capture path = is_some (file_at capture.files path) || is_among path capture.written
