-- What was found at FILE, as what its reading answers.
use Rattle.std.proofs.Common.{◌≡◌, refl, sym, ap, subst, ℕ, zero, suc, ◌<◌, List, [], ◌∷◌, length, Option, Some, None, Result, Ok}
use Rattle.delivery.specs.Ending.{Ending}
use Rattle.prov_outside.specs.Folder.{Files, largest_file, IsFound, Gets}
use Rattle.prov_outside.specs.Tells.{Tells}
use Rattle.prov_outside.specs.declared.folder.Found.{Found}
use Rattle.prov_outside.specs.declared.folder.Found.TheVariants.{Bytes, Absent, TooLarge}
use Rattle.now_top.specs.Reading.{IsReadAs, ReadsFile}

-- what stands whatever the files are
pub read_always : (file : List ℕ) (told : Option Files) (was is : ℕ) (read : Result (List ℕ) Ending) → ((files : Files) → IsReadAs file files was is read) → ReadsFile file told was is read
read_always file None was is read because = record { files = λ path. None; agrees = tt; because = because (λ path. None) }
read_always file (Some files) was is read because = record { files = files; agrees = refl; because = because files }

-- what rests on what was found: some files explain it, those of the folder where it tells them
pub read_found : (file : List ℕ) (old new : Option Files) (found : Found) (was is : ℕ) (read : Result (List ℕ) Ending) → Tells old new (Gets file (Ok found)) → (some : Files) → IsFound (some file) found
    → ((files : Files) → IsFound (files file) found → IsReadAs file files was is read) → ReadsFile file new was is read
read_found file old None found was is read tells some fits because = record { files = some; agrees = tt; because = because some fits }
read_found file None (Some files) found was is read tells some fits because = absurd tells
read_found file (Some before) (Some files) found was is read tells some fits because = record {
  files = files;
  agrees = refl;
  because = because files (subst (λ (f : Files). IsFound (f file) found) (sym tells.1) tells.0);
}

-- what was found, as the content
pub found_bytes : (content : Option (List ℕ)) (bytes : List ℕ) → IsFound content (Bytes bytes) → content ≡ Some bytes
found_bytes None bytes found = absurd found
found_bytes (Some content) bytes found = ap Some (sym found)

pub found_nothing : (content : Option (List ℕ)) → IsFound content Absent → content ≡ None
found_nothing None found = refl
found_nothing (Some content) found = absurd found

pub found_large : (content : Option (List ℕ)) → IsFound content TooLarge → (text : List ℕ) × (content ≡ Some text) × (largest_file < length text)
found_large None found = absurd found
found_large (Some content) found = (content, refl, found)

-- a list of any length
pub long_list : (n : ℕ) → (xs : List ℕ) × (length xs ≡ n)
long_list zero = ([], refl)
long_list (suc n) = let rest = long_list n in (0 ∷ rest.0, ap suc rest.1)
