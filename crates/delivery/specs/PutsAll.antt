-- What puts of files in their order come to (this project's profile).
use Rattle.std.specs.Prelude.{◌≡◌, ℕ, List, [], ◌∷◌, Bool, true, false, if◌then◌else◌, Option, Some, None, Result, Ok, Err}
use Rattle.prov_outside.specs.Count.{faults_after}
use Rattle.prov_outside.specs.Folder.{Files, Puts}
use Rattle.prov_outside.specs.declared.trouble.Trouble.{Trouble}
use Rattle.prov_outside.specs.declared.trouble.Trouble.TheVariants.{Failed, Memory}
use Rattle.capture.specs.declared.ended.FileOut.{FileOut}
use Rattle.delivery.specs.Ending.{Ending, folder_failed, out_of_memory, tells_of_store}

-- a path and the bytes for it
abbrev pub OutFile : Type 0
OutFile = List ℕ × List ℕ

abbrev pub file_out : FileOut → OutFile
file_out file = (file.path, file.bytes)

-- what a put or a write answered
abbrev pub Outcome : Type 0
Outcome = Result (Unit {0}) Trouble

-- Each file is put, whatever became of those before it: one outcome for each.
abbrev pub PutsAll : List OutFile → List Outcome → Files → Files → Type 0
PutsAll [] [] before after = after ≡ before
PutsAll (file ∷ files) (outcome ∷ outcomes) before after = (between : Files) × Puts file.0 file.1 outcome before between × PutsAll files outcomes between after
PutsAll [] (outcome ∷ outcomes) before after = ⊥
PutsAll (file ∷ files) [] before after = ⊥

-- a count of faults after calls with these outcomes
abbrev pub faults_of : List Outcome → ℕ → ℕ
faults_of [] count = count
faults_of (outcome ∷ outcomes) count = faults_of outcomes (faults_after outcome count)

-- the path of the first file whose put failed
abbrev pub first_failed : List OutFile → List Outcome → Option (List ℕ)
first_failed (file ∷ files) (Err Failed ∷ outcomes) = Some file.0
first_failed (file ∷ files) (Ok all ∷ outcomes) = first_failed files outcomes
first_failed (file ∷ files) (Err Memory ∷ outcomes) = first_failed files outcomes
first_failed (file ∷ files) [] = None
first_failed [] outcomes = None

-- one of the calls lacked memory
abbrev pub lacks_memory : List Outcome → Bool
lacks_memory [] = false
lacks_memory (Ok all ∷ outcomes) = lacks_memory outcomes
lacks_memory (Err Failed ∷ outcomes) = lacks_memory outcomes
lacks_memory (Err Memory ∷ outcomes) = true

-- the ending where this is the path of the first file whose put failed: what befell the store came first
abbrev pub or_failed : Ending → Option (List ℕ) → Ending
or_failed planned None = planned
or_failed planned (Some path) = if tells_of_store planned then planned else folder_failed path

-- How a command ends by its puts: out of memory stands over a fault, and the first fault over what was planned, where that is no fault itself.
abbrev pub ending_after_puts : Ending → List OutFile → List Outcome → Ending
ending_after_puts planned files outcomes = if lacks_memory outcomes then out_of_memory else or_failed planned (first_failed files outcomes)
