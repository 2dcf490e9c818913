-- Why a trial is not written, and which of that is counted (this project's profile).
use Rattle.std.specs.Prelude.{Bool, true, false, Result, Ok, Err}
use Rattle.keeper.specs.declared.fault.KeepFault.{KeepFault}
use Rattle.keeper.specs.declared.fault.KeepFault.TheVariants.{Failed, Memory}
use Rattle.content_store.specs.declared.fault.ContentFault.{ContentFault}
use Rattle.content_store.specs.declared.fault.ContentFault.TheVariants.{Collision as ContentCollision, Keeper as ContentKeeper, Memory as ContentMemory}
use Rattle.trial_tables.specs.declared.write_fault.WriteFault.{WriteFault}
use Rattle.trial_tables.specs.declared.write_fault.WriteFault.TheVariants.{Collision, Keeper, Memory as WriteMemory}

-- a refusal of the keeper, handed on
abbrev pub of_keeper : KeepFault → WriteFault
of_keeper Failed = Keeper
of_keeper Memory = WriteMemory

-- a refusal of a content, handed on
abbrev pub of_content : ContentFault → WriteFault
of_content (ContentCollision digest kept_len given_len) = Collision digest kept_len given_len
of_content ContentKeeper = Keeper
of_content ContentMemory = WriteMemory

-- the answer is that the keeper failed
abbrev pub has_failed : {T : Type 0} → Result T WriteFault → Bool
has_failed (Ok done) = false
has_failed (Err (Collision digest kept_len given_len)) = false
has_failed (Err Keeper) = true
has_failed (Err WriteMemory) = false
