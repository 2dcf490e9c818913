-- An exception that is raised, behind what the operation did up to it.
use Rattle.std.proofs.Common.{sym, subst, ◌∙◌, Option, Some, None, Result, Ok, Err}
use Rattle.prov_base.specs.declared.refusal.Memory.{Memory as Want}
use Rattle.py_model.specs.Plan.{Plan}
use Rattle.py_model.specs.Store.{RunStore}
use Rattle.py_model.specs.declared.moment.Answer.{Answer as OneAnswer}
use Rattle.py_value.specs.Values.{ValuesView}
use Rattle.py_value.specs.declared.value.Value.{Value}
use Rattle.op_work.specs.declared.stop.Stop.{Stop}
use Rattle.op_work.specs.declared.stop.Stop.TheVariants.{Raises, TooDear, Memory}
use Rattle.op_work.specs.Work.{WorkView, IsSeen, under, raising, Goes, EndedSo, Ends}
use Rattle.op_work.proofs.Going.{extends_then, goes_then, dear_then}
use Rattle.op_state.specs.Settling.{Settled, IsRefusal}

pub ends_raised : (plan : ValuesView → Plan) {a b c : WorkView} (class : _) (argument : Value) (result : Result OneAnswer Stop) → Ends plan a b (Err (Raises class argument))
    → Ends (λ table. raising table class argument) b c result → Ends plan a c result
ends_raised plan {a} {b} {c} class argument result one other = record {
  store_is = other.store_is ∙ one.store_is;
  left_is = other.left_is ∙ one.left_is;
  extends = extends_then one.extends other.extends;
  is_named = other.is_named;
  came = λ table store extends seen. by_result table store result (one.came table store (extends_then other.extends extends) seen)
      (other.came table store extends (subst (λ held. IsSeen table held store) (sym one.store_is) seen));
}
  where
    by_result : (table : ValuesView) (store : RunStore) (result : Result OneAnswer Stop) → Goes table a b (under store (plan table)) (under store (raising table class argument))
        → EndedSo (λ table. raising table class argument) table store b c result → EndedSo plan table store a c result
    by_result table store (Ok answer) first then = goes_then first then
    by_result table store (Err (Raises k v)) first then = goes_then first then
    by_result table store (Err TooDear) first then = dear_then one.left_is first then
    by_result table store (Err Memory) first then = tt

-- what stopped is out of budget, or refused
pub settled_refusal : (plan : ValuesView → Plan) (a b : WorkView) (stop : Stop) (result : Result (Option OneAnswer) Want) → IsRefusal stop result → Ends plan a b (Err stop) → Settled plan a b result
settled_refusal plan a b TooDear (Ok None) is ends = λ table store extends seen. ends.came table store extends seen
settled_refusal plan a b TooDear (Ok (Some answer)) is ends = absurd is
settled_refusal plan a b TooDear (Err want) is ends = tt
settled_refusal plan a b (Raises class argument) (Ok answer) is ends = absurd is
settled_refusal plan a b (Raises class argument) (Err want) is ends = tt
settled_refusal plan a b Memory (Ok answer) is ends = absurd is
settled_refusal plan a b Memory (Err want) is ends = tt
