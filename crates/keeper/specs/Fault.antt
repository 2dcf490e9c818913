-- The text of a keeper's refusal, and which refusal is counted (this project's profile).
use Rattle.std.specs.Prelude.{ℕ, Bool, true, false, List, codes, Result, Ok, Err}
use Rattle.keeper.specs.declared.fault.KeepFault.{KeepFault}
use Rattle.keeper.specs.declared.fault.KeepFault.TheVariants.{Failed, Memory}

-- what is printed of a refusal
abbrev pub fault_text : KeepFault → List ℕ
fault_text Failed = codes "keeper failed"
fault_text Memory = codes "out of memory"

-- the call answers Failed
abbrev pub has_failed : {T : Type 0} → Result T KeepFault → Bool
has_failed (Ok done) = false
has_failed (Err Failed) = true
has_failed (Err Memory) = false
