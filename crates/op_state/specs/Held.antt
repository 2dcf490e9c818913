-- What is held of a run, and an operation that came to its end in it (this project's profile).
use Rattle.std.specs.Prelude.{◌≡◌, ◌≤◌, ℕ, List, [], map, Option, Some, None, Result, Ok, Err}
use Rattle.std.specs.Option.{option_map}
use Rattle.object_store.specs.Keyed.{IsKeyed}
use Rattle.object_store.specs.Performing.{SuitInTurn}
use Rattle.op_state.specs.Happening.{IsBegun}
use Rattle.op_state.specs.Holding.{Found, Holds}
use Rattle.op_state.specs.Settling.{CostsMore}
use Rattle.op_work.specs.Work.{WorkView, Extends, Ends}
use Rattle.prov_base.specs.declared.refusal.Memory.{Memory}
use Rattle.py_model.specs.Effect.{Answers, Effect, effect, answered, accesses_in, weight, cost, after}
use Rattle.py_model.specs.Plan.{Plan}
use Rattle.py_model.specs.Running.{method_found}
use Rattle.py_model.specs.Store.{RunStore}
use Rattle.py_model.specs.Told.{answer_seen, IsNamedAnswer, IsNamedKind, AreNamedAccesses}
use Rattle.py_model.specs.declared.doer.Deed.{Deed}
use Rattle.py_model.specs.declared.moment.Answer.{Answer as OneAnswer}
use Rattle.py_value.specs.Seen.{access_seen, kind_seen, bytes_of}
use Rattle.py_value.specs.Values.{ValuesView}
use Rattle.op_work.specs.declared.stop.Stop.{Stop}

-- The work of operations, the paths that were opened for writing by the numbers of their texts, and the bytes that were printed.
pub record HeldView : Type 0 where
  pub work : WorkView
  pub opened : List ℕ
  pub output : List ℕ

-- It is what is held of the store of a run: by a table of texts and tuples, and by what a device has.
pub record StandsHeld (found : Found) (table : ValuesView) (held : HeldView) (run : RunStore) : Type 0 where
  pub holds : Holds found table held.work.store run
  pub printed_is : run.printed ≡ held.output
  pub opened_are : run.opened ≡ map (bytes_of table) held.opened

-- what an operation came to in the store of a run is what is told of it, and what is held afterwards is the run's store then
pub record IsFinished (found : Found) (table : ValuesView) (run : RunStore) (e : Effect) (deed : Deed) (left : ℕ) (new : HeldView) : Type 0 where
  pub outcome_is : e.outcome ≡ answered (answer_seen table deed.answer)
  pub made_is : e.made ≡ option_map (kind_seen table) deed.made
  pub accesses_are : accesses_in e.touches ≡ map (access_seen table) deed.accesses
  pub weight_is : weight e ≡ deed.weight
  pub pays : cost e ≤ left
  pub method_is : method_found run (accesses_in e.touches) None ≡ deed.method
  pub named : IsNamedAnswer table deed.answer × (IsNamedKind table deed.made × AreNamedAccesses table deed.accesses)
  pub stands : StandsHeld found table new (after e run)

-- what stood for the store of a run goes on to do so
abbrev pub GoesOn : HeldView → HeldView → Type 0
GoesOn old new = (found : Found) (table : ValuesView) (run : RunStore) → Extends new.work.values table → StandsHeld found table old run → StandsHeld found table new run

-- It happened in each store of a run for which what is held stood; or it costs more than is left; or memory ran out. In both nothing has changed.
abbrev pub Finishes : (ValuesView → Plan) → HeldView → HeldView → Result (Option Deed) Memory → Type 0
Finishes plan began new (Ok (Some deed)) = (found : Found) (table : ValuesView) (run : RunStore) (answers : Answers) → Extends new.work.values table
    → StandsHeld found table began run → SuitInTurn run.at (accesses_in (effect run answers (plan table)).touches) → IsKeyed (after (effect run answers (plan table)) run).at
    → IsFinished found table run (effect run answers (plan table)) deed began.work.left new
Finishes plan began new (Ok None) = CostsMore plan began.work new.work × GoesOn began new
Finishes plan began new (Err want) = GoesOn began new

-- Whatever plan it came to the end of, since it began with what is held now.
abbrev pub FinishesAll : HeldView → HeldView → Result OneAnswer Stop → Result (Option Deed) Memory → Type 0
FinishesAll old new answer result = (plan : ValuesView → Plan) (began : WorkView) → IsBegun began → Ends plan began old.work answer
    → Finishes plan (record old { work = began }) new result

-- an operation begins, with so many steps left
abbrev pub begun : ℕ → WorkView → WorkView
begun left work = record work { touched = []; made = None; looks = 0; characters = 0; left = left; printed = []; note = None; opens = [] }
