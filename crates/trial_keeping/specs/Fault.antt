-- Why a trial is not kept, and which of that is counted (this project's profile).
use Rattle.std.specs.Prelude.{Bool, true, false, Result, Ok, Err}
use Rattle.keeper.specs.declared.fault.KeepFault.{KeepFault}
use Rattle.keeper.specs.declared.fault.KeepFault.TheVariants.{Failed, Memory}
use Rattle.trial_tables.specs.declared.write_fault.WriteFault.{WriteFault}
use Rattle.trial_tables.specs.declared.write_fault.WriteFault.TheVariants.{Collision as WriteCollision, Keeper as WriteKeeper, Memory as WriteMemory}
use Rattle.trial_keeping.specs.declared.fault.TrialFault.{TrialFault}
use Rattle.trial_keeping.specs.declared.fault.TrialFault.TheVariants.{NoTrial, Damaged, Keeper, Collision, Full, Memory as TrialMemory}

-- a refusal of the keeper, handed on
abbrev pub of_keeper : KeepFault → TrialFault
of_keeper Failed = Keeper
of_keeper Memory = TrialMemory

-- a refusal of a writing, handed on
abbrev pub of_writing : WriteFault → TrialFault
of_writing (WriteCollision digest kept_len given_len) = Collision digest kept_len given_len
of_writing WriteKeeper = Keeper
of_writing WriteMemory = TrialMemory

-- the answer is that the keeper failed
abbrev pub has_failed : {T : Type 0} → Result T TrialFault → Bool
has_failed (Ok done) = false
has_failed (Err (NoTrial number)) = false
has_failed (Err (Damaged number damage)) = false
has_failed (Err Keeper) = true
has_failed (Err (Collision digest kept_len given_len)) = false
has_failed (Err Full) = false
has_failed (Err TrialMemory) = false
