-- The files that a run leaves (this project's profile): each path that was opened for writing, with its bytes.
use Rattle.std.specs.Prelude.{◌≡◌, ℕ, List, map, length, slice_get, Some}
use Rattle.capture.specs.declared.ended.FileOut.{FileOut}
use Rattle.object_store.specs.Store.{file_at as held_file}
use Rattle.op_state.specs.Holding.{Found}
use Rattle.op_state.specs.Held.{HeldView, StandsHeld}
use Rattle.op_work.specs.Work.{WorkView, Extends}
use Rattle.py_model.specs.Meaning.{final_files}
use Rattle.py_model.specs.Store.{RunStore}
use Rattle.py_value.specs.Seen.{bytes_of}
use Rattle.py_value.specs.Values.{ValuesView}

-- the file that stands at the path with this number
pub record IsFileOf (work : WorkView) (path : ℕ) (file : FileOut) : Type 0 where
  pub path_is : file.path ≡ bytes_of work.values path
  pub bytes_are : held_file work.store path ≡ Some file.bytes

-- one for each of the paths, in their order
abbrev pub AreFilesOf : WorkView → List ℕ → List FileOut → Type 0
AreFilesOf work paths files = (length files ≡ length paths) × ((i path : ℕ) (file : FileOut) → slice_get paths i ≡ Some path → slice_get files i ≡ Some file → IsFileOf work path file)

abbrev pub file_out : FileOut → List ℕ × List ℕ
file_out file = (file.path, file.bytes)

-- in each store of a run for which what is held stands, these are the files that it leaves
abbrev pub AreFinals : HeldView → List FileOut → Type 0
AreFinals held files = (found : Found) (table : ValuesView) (run : RunStore) → Extends held.work.values table → StandsHeld found table held run
    → final_files run run.opened ≡ map file_out files
