-- No public clause cites this file.
-- What is told of an operation, and what was found at a path (this project's profile).
use Rattle.std.specs.Prelude.{◌≡◌, ◌⊎◌, ℕ, List, Option, Some, None, IsSome}
use Rattle.object_store.specs.Store.{StoreView, file_at as held_file}
use Rattle.prov_outside.specs.declared.folder.Found.{Found as FoundThere}
use Rattle.prov_outside.specs.declared.folder.Found.TheVariants.{Bytes, Absent, TooLarge as FoundTooLarge, Failed as Unfound}
use Rattle.py_model.specs.declared.doer.Deed.{Deed}
use Rattle.py_model.specs.declared.doer.Done.{Done}
use Rattle.py_model.specs.declared.doer.Done.TheVariants.{Did, TooDear}

-- it happened, or costs more than is left
abbrev pub done_of : Option Deed → Done
done_of (Some deed) = Did deed
done_of None = TooDear

-- the bytes that were found
abbrev pub bytes_found : FoundThere → Option (List ℕ)
bytes_found (Bytes bytes) = Some bytes
bytes_found Absent = None
bytes_found FoundTooLarge = None
bytes_found Unfound = None

-- no bytes were found, or a file is held at the path
abbrev pub HasBytes : FoundThere → StoreView → ℕ → Type 0
HasBytes found held path = (bytes_found found ≡ None) ⊎ IsSome (held_file held path)
