-- No public clause cites this file.
-- Files that are opened over what is held of a run (this project's profile).
use Rattle.std.specs.Prelude.{ℕ, Bool, true, false, Option, Some, None, Result, Ok, Err}
use Rattle.std.specs.Option.{is_some}
use Rattle.object_store.specs.Keyed.{IsKeyed}
use Rattle.object_store.specs.Performing.{SuitInTurn}
use Rattle.op_devices.specs.Opening.{HasFile}
use Rattle.op_state.specs.Holding.{Found}
use Rattle.op_state.specs.Held.{HeldView, StandsHeld, IsFinished, GoesOn}
use Rattle.op_work.specs.Work.{WorkView, Extends, IsSeen, IsDear, under}
use Rattle.prov_base.specs.declared.refusal.Memory.{Memory}
use Rattle.prov_outside.specs.declared.folder.Found.{Found as FoundThere}
use Rattle.py_model.specs.Effect.{Answers, effect, accesses_in, after}
use Rattle.py_model.specs.Plan.{Plan}
use Rattle.py_model.specs.Store.{RunStore}
use Rattle.py_model.specs.declared.doer.Deed.{Deed}
use Rattle.py_value.specs.Values.{ValuesView}

-- it is known of a path that it was opened, or what was found there
abbrev pub is_told : Option ℕ → Bool → Option FoundThere → Bool
is_told None opened found = true
is_told (Some path) true found = true
is_told (Some path) false found = is_some found

-- a plan costs more than is left, in any store that is seen and has the file at a path where it is held
abbrev pub CostsMoreAt : Option ℕ → (ValuesView → Plan) → WorkView → WorkView → Type 0
CostsMoreAt path plan began new = (table : ValuesView) (store : RunStore) → Extends new.values table → IsSeen table began.store store → HasFile table store began.store path
    → IsDear began (under store (plan table))

-- It happened in each store of a run for which what is held stood and which has the file at a path where it is held; or it costs more than is
-- left there; or memory ran out. In both nothing has changed.
abbrev pub FinishesAt : Option ℕ → (ValuesView → Plan) → HeldView → HeldView → Result (Option Deed) Memory → Type 0
FinishesAt path plan began new (Ok (Some deed)) = (found : Found) (table : ValuesView) (run : RunStore) (answers : Answers) → Extends new.work.values table
    → StandsHeld found table began run → HasFile table run began.work.store path → SuitInTurn run.at (accesses_in (effect run answers (plan table)).touches)
    → IsKeyed (after (effect run answers (plan table)) run).at → IsFinished found table run (effect run answers (plan table)) deed began.work.left new
FinishesAt path plan began new (Ok None) = CostsMoreAt path plan began.work new.work × GoesOn began new
FinishesAt path plan began new (Err want) = GoesOn began new
