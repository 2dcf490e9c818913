-- No public clause cites this file.
-- What a question to the store comes to over any keeper (this project's profile).
use Rattle.std.specs.Prelude.{◌≡◌, ℕ, ◌⊎◌, List, Option, Some, None, Result, Ok, Err}
use Rattle.now_words.specs.declared.command.Query.{Query}
use Rattle.delivery.specs.Ending.{nothing_there, store_failed, out_of_memory, damaged_trial}
use Rattle.keeper.specs.Keeping.{KeeperView, LeavesAmong}
use Rattle.keeper.specs.Tables.{TablesView}
use Rattle.prov_outside.specs.Tells.{Tells}
use Rattle.trial_keeping.specs.declared.fault.TrialFault.{TrialFault}
use Rattle.trial_keeping.specs.declared.fault.TrialFault.TheVariants.{NoTrial, Damaged, Keeper, Collision, Full, Memory}
use Rattle.trial_show.specs.Details.{detail}
use Rattle.trial_slice.specs.declared.fault.EvaluationFault.{EvaluationFault}
use Rattle.trial_slice.specs.declared.fault.EvaluationFault.TheVariants.{Trial, NoEvaluation}
use Rattle.trial_tables.specs.declared.damage.Damage.{Damage}
use Rattle.now_top.specs.Kept.{Stored, IsRead, tables_told}
use Rattle.now_top.specs.Reply.{Reply, MayReply, telling}
use Rattle.now_top.specs.World.{Plan, closing}

-- The reply by the tables, where they are told; or the store failed, or memory ran out. Over a store that does not tell it is one that may be given.
pub data IsAnswer (query : Query) : Option TablesView → Plan → Type 0 where
  replied : (tables : TablesView) (plan : Plan) → Reply query tables plan → IsAnswer query (Some tables) plan
  untold : (plan : Plan) → MayReply query plan → IsAnswer query None plan
  failed : (tables : Option TablesView) → IsAnswer query tables (closing store_failed)
  lacking : (tables : Option TablesView) → IsAnswer query tables (closing out_of_memory)

-- it is answered so, and the store is as before
pub record AnswersQuery (query : Query) (was is : Stored) (may may' : TablesView → Type 0) (plan : Plan) : Type 0 where
  pub answer : IsAnswer query (tables_told was is) plan
  pub read : IsRead plan.ending was is
  pub stops : Tells was.told is.told (λ (old new : KeeperView). LeavesAmong may may')

-- a trial that is not well kept: what is amiss of it first, in words, or memory ran out for these
abbrev pub IsPlanOfDamage : ℕ → Damage → Plan → Type 0
IsPlanOfDamage number damage plan = (plan ≡ closing (damaged_trial number (detail damage))) ⊎ (plan ≡ closing out_of_memory)

-- the text of a trial, or why there is none; loading answers neither a collision nor a full store
abbrev pub IsPlanOfTrial : Result (List ℕ) TrialFault → Plan → Type 0
IsPlanOfTrial (Ok text) plan = plan ≡ telling text
IsPlanOfTrial (Err (NoTrial number)) plan = plan ≡ closing nothing_there
IsPlanOfTrial (Err (Damaged number damage)) plan = IsPlanOfDamage number damage plan
IsPlanOfTrial (Err Keeper) plan = plan ≡ closing store_failed
IsPlanOfTrial (Err Memory) plan = plan ≡ closing out_of_memory
IsPlanOfTrial (Err (Collision digest kept given)) plan = plan ≡ closing store_failed
IsPlanOfTrial (Err Full) plan = plan ≡ closing store_failed

-- why a question about an evaluation has no answer
abbrev pub IsPlanOfFault : EvaluationFault → Plan → Type 0
IsPlanOfFault NoEvaluation plan = plan ≡ closing nothing_there
IsPlanOfFault (Trial fault) plan = IsPlanOfTrial (Err fault) plan

-- the answer to a question about an evaluation, as it is told, or why there is none
abbrev pub IsPlanOfQuestion : {T : Type 0} → (T → Plan) → Result T EvaluationFault → Plan → Type 0
IsPlanOfQuestion tells (Ok it) plan = plan ≡ tells it
IsPlanOfQuestion tells (Err fault) plan = IsPlanOfFault fault plan
