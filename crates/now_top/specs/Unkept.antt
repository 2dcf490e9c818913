-- What a plan becomes by the keeping of its run (this project's profile): a fault there takes the place of how the run ended, and its output and files stay.
use Rattle.std.specs.Prelude.{ℕ, Result, Ok, Err}
use Rattle.delivery.specs.Ending.{Ending, store_failed, collision, store_full, out_of_memory}
use Rattle.trial_keeping.specs.declared.fault.TrialFault.{TrialFault}
use Rattle.trial_keeping.specs.declared.fault.TrialFault.TheVariants.{NoTrial, Damaged, Keeper, Collision, Full, Memory}
use Rattle.now_top.specs.World.{Plan, closing}

-- how a command ends by a fault in keeping; the last two come in no keeping
abbrev pub ending_without : TrialFault → Ending
ending_without Keeper = store_failed
ending_without (Collision digest kept given) = collision digest.bytes kept given
ending_without Full = store_full
ending_without Memory = out_of_memory
ending_without (NoTrial number) = store_failed
ending_without (Damaged number damage) = store_failed

-- the plan of a run that is not kept for this
abbrev pub unkept : TrialFault → Plan → Plan
unkept fault plan = record plan { ending = ending_without fault }

-- The plan by what came of the keeping. Where memory ran out in it, a closing line is all.
abbrev pub with_keeping : Result ℕ TrialFault → Plan → Plan
with_keeping (Ok number) plan = plan
with_keeping (Err Memory) plan = closing out_of_memory
with_keeping (Err Keeper) plan = unkept Keeper plan
with_keeping (Err (Collision digest kept given)) plan = unkept (Collision digest kept given) plan
with_keeping (Err Full) plan = unkept Full plan
with_keeping (Err (NoTrial number)) plan = unkept (NoTrial number) plan
with_keeping (Err (Damaged number damage)) plan = unkept (Damaged number damage) plan
