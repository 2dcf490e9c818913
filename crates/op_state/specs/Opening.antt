-- What a device has at each path, by a list of files (this project's profile).
use Rattle.std.specs.Prelude.{ℕ, List, [], ◌∷◌, Some, None, if◌then◌else◌}
use Rattle.std.specs.Str.{bytes_eq}
use Rattle.op_state.specs.Holding.{Found}

-- the bytes of the first file at the path
abbrev pub first_of : List (List ℕ × List ℕ) → Found
first_of [] path = None
first_of (file ∷ files) path = if bytes_eq file.0 path then Some file.1 else first_of files path
