-- No public clause cites this file.
-- A run that is over, by what is held at its end (this project's profile).
use Rattle.std.specs.Prelude.{◌≡◌, ℕ, ⊤, map, Result, Ok, Err}
use Rattle.capture.specs.declared.ended.Ended.{Ended as EndedRun}
use Rattle.capture.specs.declared.ended.RunEnd.{RunEnd as EndTold}
use Rattle.capture.specs.declared.ended.RunEnd.TheVariants.{Finished as FinishedTold, Raised as RaisedTold, Spent as SpentTold}
use Rattle.flow_values.specs.declared.next.FlowNext.{FlowNext}
use Rattle.flow_values.specs.declared.next.FlowNext.TheVariants.{Finished, Raised, Spent}
use Rattle.op_state.specs.Holding.{Found}
use Rattle.op_state.specs.Finals.{file_out}
use Rattle.op_state.specs.Held.{HeldView, StandsHeld}
use Rattle.op_state.specs.Uncaught.{class_raised, text_raised}
use Rattle.op_work.specs.Work.{Extends}
use Rattle.prov_base.specs.declared.refusal.Memory.{Memory}
use Rattle.py_model.specs.Meaning.{final_files}
use Rattle.py_model.specs.Store.{RunStore}
use Rattle.py_value.specs.Values.{ValuesView, AreInterned}

-- how the last step of a run is told
abbrev pub IsEndTold : RunStore → FlowNext → EndTold → Type 0
IsEndTold run Finished FinishedTold = ⊤
IsEndTold run (Raised o line) (RaisedTold class at text) = (at ≡ line) × ((class_raised run o ≡ class) × (text_raised run o ≡ text))
IsEndTold run Spent SpentTold = ⊤
IsEndTold run other told = ⊥

-- the run has come to its end
abbrev pub CanEnd : FlowNext → Type 0
CanEnd Finished = ⊤
CanEnd (Raised o line) = ⊤
CanEnd Spent = ⊤
CanEnd other = ⊥

-- so in each store of a run for which what is held stands
abbrev pub IsToldBy : HeldView → FlowNext → EndTold → Type 0
IsToldBy held end told = (found : Found) (table : ValuesView) (run : RunStore) → Extends held.work.values table → StandsHeld found table held run → IsEndTold run end told

-- By a table of texts and tuples that has what is held: the end, the files and the output of each store of a run for which it stands.
pub record IsTold (held : HeldView) (end : FlowNext) (steps : ℕ) (over : EndedRun) : Type 0 where
  pub table : ValuesView
  pub interned : AreInterned table
  pub extends : Extends held.work.values table
  pub can_end : CanEnd end
  pub steps_are : over.steps ≡ steps
  pub output_is : (found : Found) (run : RunStore) → StandsHeld found table held run → run.printed ≡ over.output
  pub finals_are : (found : Found) (run : RunStore) → StandsHeld found table held run → final_files run run.opened ≡ map file_out over.finals.items
  pub end_is : (found : Found) (run : RunStore) → StandsHeld found table held run → IsEndTold run end over.end

abbrev pub IsOverOf : HeldView → Result FlowNext Memory → ℕ → EndedRun → Type 0
IsOverOf held (Ok end) steps over = IsTold held end steps over
IsOverOf held (Err want) steps over = ⊥
