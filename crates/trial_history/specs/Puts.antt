-- Files that are put into a folder in their order, up to the first put that is refused (this project's profile).
use Rattle.std.specs.Prelude.{◌≡◌, ◌≢◌, ℕ, List, [], ◌∷◌, ◌++◌, codes, Option, Result, Ok, Err}
use Rattle.std.specs.Option.{option_or}
use Rattle.prov_outside.specs.Count.{one_more}
use Rattle.prov_outside.specs.Folder.{Files}
use Rattle.prov_outside.specs.MemoryFolder.{last_of}
use Rattle.prov_outside.specs.Tells.{Tells}
use Rattle.prov_outside.specs.declared.trouble.Trouble.{Trouble}
use Rattle.prov_outside.specs.declared.trouble.Trouble.TheVariants.{Failed, Memory as NoMemory}
use Rattle.trial_keeping.specs.declared.fault.TrialFault.TheVariants.{NoTrial, Damaged, Keeper, Collision, Full, Memory}
use Rattle.trial_history.specs.declared.fault.RestoreFault.{RestoreFault}
use Rattle.trial_history.specs.declared.fault.RestoreFault.TheVariants.{Trial, Folder}

-- a path and the bytes for it
abbrev pub OneFile : Type 0
OneFile = List ℕ × List ℕ

-- What ended the puts: all files were put, the put of the file at a path was refused, or memory ran out before the next put.
pub data End : Type 0 where
  all_put : End
  refused : (path : List ℕ) → (trouble : Trouble) → End
  short : End

-- The files begin with those that were put, and the puts ended so behind them.
abbrev pub EndsBehind : List OneFile → List OneFile → End → Type 0
EndsBehind files put all_put = files ≡ put
EndsBehind files put (refused path trouble) = (bytes : List ℕ) × (rest : List OneFile) × (files ≡ put ++ (path, bytes) ∷ rest)
EndsBehind files put short = (rest : List OneFile) × (files ≡ put ++ rest)

-- what is answered by that: the path of the file at which the folder failed, or that memory ran out, also for a copy of this path
abbrev pub Answers : End → Result (Unit {0}) RestoreFault → Type 0
Answers all_put (Ok done) = Unit {0}
Answers all_put (Err fault) = ⊥
Answers (refused path trouble) (Ok done) = ⊥
Answers (refused path Failed) (Err (Folder told)) = told ≡ path
Answers (refused path NoMemory) (Err (Folder told)) = ⊥
Answers (refused path trouble) (Err (Trial fault)) = fault ≡ Memory
Answers short (Ok done) = ⊥
Answers short (Err (Folder path)) = ⊥
Answers short (Err (Trial fault)) = fault ≡ Memory

-- the files of a folder with these put over them, of which a later one stands over an earlier one
abbrev pub with_files : List OneFile → Files → Files
with_files put before path = option_or (last_of put path) (before path)

-- What stands in the folder then: those that were put, and all else as before, but for the path of a refused put.
abbrev pub Stands : List OneFile → End → Files → Files → Type 0
Stands put all_put before after = (path : List ℕ) → after path ≡ with_files put before path
Stands put (refused other trouble) before after = (path : List ℕ) → path ≢ other → after path ≡ with_files put before path
Stands put short before after = (path : List ℕ) → after path ≡ with_files put before path

-- the count of puts that failed
abbrev pub faults_by : End → ℕ → ℕ
faults_by all_put count = count
faults_by (refused path Failed) count = one_more count
faults_by (refused path NoMemory) count = count
faults_by short count = count

-- what is told of a file that was put at a path
abbrev pub restored_line : List ℕ → List ℕ
restored_line path = codes "restored " ++ path ++ 10 ∷ []

abbrev pub restored_lines : List OneFile → List ℕ
restored_lines [] = []
restored_lines (file ∷ files) = restored_line file.0 ++ restored_lines files

-- The files are put in their order. Those that were put are told, in their order, whatever ended the puts.
pub record Puts (files : List OneFile) (result : Result (Unit {0}) RestoreFault) (told told' : List ℕ) (count count' : ℕ) (was is : Option Files) : Type 0 where
  pub put : List OneFile
  pub ended : End
  pub behind : EndsBehind files put ended
  pub answers : Answers ended result
  pub lines : told' ≡ told ++ restored_lines put
  pub faults : count' ≡ faults_by ended count
  pub folder : Tells was is (Stands put ended)
