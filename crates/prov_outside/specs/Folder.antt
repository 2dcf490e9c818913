-- What a folder tells, and what each of its calls does to that (this project's profile).
use Rattle.std.specs.Prelude.{◌≡◌, ◌≢◌, ℕ, ◌<◌, ◌≤◌, List, length, Option, Some, None, Result, Ok, Err}
use Rattle.prov_outside.specs.declared.trouble.Trouble.{Trouble}
use Rattle.prov_outside.specs.declared.folder.Found.{Found}
use Rattle.prov_outside.specs.declared.folder.Found.TheVariants.{Bytes, Absent, TooLarge, Failed}

-- what stands at each path, the path as its UTF-8 bytes
abbrev pub Files : Type 0
Files = List ℕ → Option (List ℕ)

-- the bytes of the largest file that is fetched
abbrev pub largest_file : ℕ
largest_file = 16777216

-- what a folder may answer of a path
abbrev pub IsAnswer : Found → Type 0
IsAnswer (Bytes bytes) = length bytes ≤ largest_file
IsAnswer Absent = Unit {0}
IsAnswer TooLarge = Unit {0}
IsAnswer Failed = ⊥

-- what is answered of a path where this stands
abbrev pub IsFound : Option (List ℕ) → Found → Type 0
IsFound (Some content) (Bytes bytes) = bytes ≡ content
IsFound None Absent = Unit {0}
IsFound (Some content) TooLarge = largest_file < length content
IsFound None (Bytes bytes) = ⊥
IsFound None TooLarge = ⊥
IsFound (Some content) Absent = ⊥
IsFound content Failed = ⊥

abbrev pub Gets : List ℕ → Result Found Trouble → Files → Files → Type 0
Gets path (Ok found) before after = IsFound (before path) found × (after ≡ before)
Gets path (Err trouble) before after = after ≡ before

-- every other path has what it had
abbrev pub OthersStay : List ℕ → Files → Files → Type 0
OthersStay path before after = (other : List ℕ) → other ≢ path → after other ≡ before other

abbrev pub Puts : {T : Type 0} → List ℕ → List ℕ → Result T Trouble → Files → Files → Type 0
Puts path bytes (Ok done) before after = (after path ≡ Some bytes) × OthersStay path before after
Puts path bytes (Err trouble) before after = OthersStay path before after
