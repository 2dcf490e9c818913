-- Why a part of a trial is not read, and which of that is counted (this project's profile).
use Rattle.std.specs.Prelude.{Bool, true, false, Result, Ok, Err}
use Rattle.keeper.specs.declared.fault.KeepFault.{KeepFault}
use Rattle.keeper.specs.declared.fault.KeepFault.TheVariants.{Failed, Memory}
use Rattle.trial_tables.specs.declared.read_fault.ReadFault.{ReadFault}
use Rattle.trial_tables.specs.declared.read_fault.ReadFault.TheVariants.{Damaged, Keeper, Memory as ReadMemory}

-- a refusal of the keeper, handed on
abbrev pub of_keeper : KeepFault → ReadFault
of_keeper Failed = Keeper
of_keeper Memory = ReadMemory

-- the answer is that the keeper failed
abbrev pub has_failed : {T : Type 0} → Result T ReadFault → Bool
has_failed (Ok done) = false
has_failed (Err (Damaged damage)) = false
has_failed (Err Keeper) = true
has_failed (Err ReadMemory) = false
