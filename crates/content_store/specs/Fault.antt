-- Why a content was not put, and which of that is counted (this project's profile).
use Rattle.std.specs.Prelude.{Bool, true, false, Result, Ok, Err}
use Rattle.keeper.specs.declared.fault.KeepFault.{KeepFault}
use Rattle.keeper.specs.declared.fault.KeepFault.TheVariants.{Failed, Memory}
use Rattle.content_store.specs.declared.fault.ContentFault.{ContentFault}
use Rattle.content_store.specs.declared.fault.ContentFault.TheVariants.{Collision, Keeper, Memory as MemoryFault}

-- a refusal of the keeper, handed on
abbrev pub fault_of : KeepFault → ContentFault
fault_of Failed = Keeper
fault_of Memory = MemoryFault

-- the answer is that the keeper failed
abbrev pub has_failed : {T : Type 0} → Result T ContentFault → Bool
has_failed (Ok done) = false
has_failed (Err (Collision digest kept given)) = false
has_failed (Err Keeper) = true
has_failed (Err MemoryFault) = false
