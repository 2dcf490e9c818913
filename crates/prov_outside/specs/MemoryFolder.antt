-- What a folder in memory holds (this project's profile).
use Rattle.std.specs.Prelude.{ℕ, List, [], ◌∷◌, Some, None, bytes_eq, if◌then◌else◌}
use Rattle.std.specs.Option.{option_or}
use Rattle.prov_outside.specs.Numbering.{Numbering}
use Rattle.prov_outside.specs.Folder.{Files}

-- pairs of a path and what was put there, the oldest first, with the numbering of the calls and the counts of faults
pub record MemoryFolderView : Type 0 where
  pub files : List (List ℕ × List ℕ)
  pub calls : Numbering
  pub get_faults : ℕ
  pub source_faults : ℕ
  pub put_faults : ℕ

-- what stands at a path: what the last pair with that path has
abbrev pub last_of : List (List ℕ × List ℕ) → Files
last_of [] path = None
last_of (file ∷ later) path = option_or (last_of later path) (if bytes_eq file.0 path then Some file.1 else None)
