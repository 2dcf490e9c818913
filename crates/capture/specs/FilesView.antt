-- No public clause cites this file.
-- What is seen of a capture's files by the capture: with the room for more.
use Rattle.std.specs.Prelude.{◌≡◌, ℕ, ◌<◌, ◌≤◌, List, length, slice_get, Some}
use Rattle.std.specs.Ordering.{nat_cmp}
use Rattle.std.specs.Cmp.Lexicographic.{slice_cmp}
use Rattle.std.specs.declared.cmp.Ordering.TheVariants.{Less, Greater}
use Rattle.prov_outside.specs.declared.folder.Found.{Found}

-- the files by path, and for how many more there is room
pub record FilesView : Type 0 where
  pub kept : List (List ℕ × Found)
  pub room : ℕ

-- the path has this place
abbrev pub IsPlaceOf : List (List ℕ × Found) → List ℕ → ℕ → Type 0
IsPlaceOf files path i = (found : Found) × (slice_get files i ≡ Some (path, found))

-- the path stands between the files before this place and those from it on
pub record IsGapFor (files : List (List ℕ × Found)) (path : List ℕ) (i : ℕ) : Type 0 where
  pub within : i ≤ length files
  pub before : (j : ℕ) (file : List ℕ × Found) → j < i → slice_get files j ≡ Some file → slice_cmp nat_cmp file.0 path ≡ Less
  pub after : (j : ℕ) (file : List ℕ × Found) → i ≤ j → slice_get files j ≡ Some file → slice_cmp nat_cmp file.0 path ≡ Greater
