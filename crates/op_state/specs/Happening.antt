-- An operation that happened: its effect on the store of a run is what is told of it, and what is held afterwards is the run's store then.
use Rattle.std.specs.Prelude.{◌≡◌, ◌≤◌, ℕ, List, [], ◌∷◌, ◌++◌, map, None, Ok}
use Rattle.std.specs.Option.{option_map}
use Rattle.object_store.specs.Keyed.{IsKeyed}
use Rattle.object_store.specs.Performing.{SuitInTurn}
use Rattle.op_state.specs.Holding.{Found, Holds}
use Rattle.op_work.specs.Finish.{HasItsFile}
use Rattle.op_work.specs.Work.{WorkView, Extends, Ends}
use Rattle.py_model.specs.Effect.{Answers, Effect, effect, answered, accesses_in, weight, cost, after}
use Rattle.py_model.specs.Plan.{Plan}
use Rattle.py_model.specs.Running.{method_found}
use Rattle.py_model.specs.Store.{RunStore, with_path}
use Rattle.py_model.specs.Told.{answer_seen, IsNamedAnswer, IsNamedKind, AreNamedAccesses}
use Rattle.py_model.specs.declared.doer.Deed.{Deed}
use Rattle.py_model.specs.declared.moment.Answer.{Answer as OneAnswer}
use Rattle.py_value.specs.Seen.{access_seen, kind_seen, bytes_of}
use Rattle.py_value.specs.Values.{ValuesView}

-- nothing is done yet
pub record IsBegun (w : WorkView) : Type 0 where
  pub touched : w.touched ≡ []
  pub made : w.made ≡ None
  pub looks : w.looks ≡ 0
  pub characters : w.characters ≡ 0
  pub printed : w.printed ≡ []
  pub note : w.note ≡ None
  pub opens : w.opens ≡ []

-- paths with others behind them, each once
abbrev pub with_paths : List (List ℕ) → List (List ℕ) → List (List ℕ)
with_paths [] paths = paths
with_paths (path ∷ more) paths = with_paths more (with_path path paths)

pub record IsHappened (found : Found) (table : ValuesView) (run : RunStore) (e : Effect) (deed : Deed) (old new : WorkView) : Type 0 where
  pub outcome_is : e.outcome ≡ answered (answer_seen table deed.answer)
  pub made_is : e.made ≡ option_map (kind_seen table) deed.made
  pub accesses_are : accesses_in e.touches ≡ map (access_seen table) deed.accesses
  pub weight_is : weight e ≡ deed.weight
  pub pays : cost e ≤ old.left
  pub method_is : method_found run (accesses_in e.touches) None ≡ deed.method
  pub named : IsNamedAnswer table deed.answer × (IsNamedKind table deed.made × AreNamedAccesses table deed.accesses)
  pub printed_is : (after e run).printed ≡ run.printed ++ old.printed
  pub opened_are : (after e run).opened ≡ with_paths (map (bytes_of table) old.opens) run.opened
  pub holds : HasItsFile old.store old.touched old.made → Holds found table new.store (after e run)

-- Whatever plan the operation has come to the end of, in whatever store it began, it happened: where the plan's writes suit that store.
abbrev pub Completes : WorkView → WorkView → OneAnswer → Deed → Type 0
Completes old new answer deed = (began : WorkView) (plan : ValuesView → Plan) → IsBegun began → Ends plan began old (Ok answer)
    → (found : Found) (table : ValuesView) (run : RunStore) (answers : Answers) → Extends old.values table → Holds found table began.store run
    → SuitInTurn run.at (accesses_in (effect run answers (plan table)).touches) → IsKeyed (after (effect run answers (plan table)) run).at
    → IsHappened found table run (effect run answers (plan table)) deed old new
