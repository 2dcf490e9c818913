-- A map with other files.
use Rattle.std.proofs.Common.{List, ℕ, Option}
use Rattle.object_store.specs.Keyed.{SeenMap}
use Rattle.py_value.specs.Seen.{SeenContent, file_at}

abbrev pub Files : Type 0
Files = List ℕ → Option SeenContent

abbrev pub mixed : Files → SeenMap → SeenMap
mixed files at (file_at path) = files path
mixed files at place = at place
