-- What is done now, as the step that it takes has it; and that a doer stands for a state after a step.
use Rattle.std.proofs.Common.{◌≡◌, ℕ, suc, Box, Global, List, Option, Result, Ok, Err, refl, ap, sym, ◌∙◌, arith}
use Rattle.prov_base.specs.declared.refusal.Memory.{Memory}
use Rattle.py_tree.specs.Tree.{ScriptTree}
use Rattle.py_value.specs.Values.{ValuesView}
use Rattle.py_model.specs.Act.{Act}
use Rattle.py_model.specs.Doing.{Standing, standing, Fits, Stands, Knew}
use Rattle.py_model.specs.Expressions.{Task}
use Rattle.py_model.specs.Meaning.{level}
use Rattle.py_model.specs.Moment.{Moment}
use Rattle.interp_eval.specs.Performing.{HasState}
use Rattle.interp_eval.proofs.Performed.{state_of}
use Rattle.flow_frames.specs.declared.control.Giving.{Giving}
use Rattle.flow_frames.specs.declared.control.Now.TheVariants.{Gives}
use Rattle.flow_frames.specs.declared.frames.FlowFrames.{FlowFrames}
use Rattle.flow_values.specs.declared.next.FlowNext.{FlowNext}
use Rattle.flow_values.specs.declared.next.FlowNext.TheVariants.{More, Finished, Raised, Spent, Unanswered}
use Rattle.flow_values.specs.Step.{Before, IsStep, StepsFrom, doing_now}
use Rattle.flow_values.specs.Value.{working}
use Rattle.flow_values.proofs.Fronts.{now_does}

-- a doer that stood for a state stands for one after a step
pub flow_state : (script : ScriptTree) (b : Before) (frames : FlowFrames) (left rest : ℕ) (first last : Fits) (stood stands : Stands) (was is : Option (List Moment)) (result : Result FlowNext Memory)
    → Knew first last → HasState first stood → StepsFrom {E = Memory} script b frames left rest last stood stands was is result → HasState last stands
flow_state script b frames left rest first last stood stands was is result knew state steps table capture fit =
    let s = state table capture (knew table capture fit) in
    some result (steps table capture fit (state_of s.0 left) s.1 refl (suc left) (omega arith))
  where
    some : (result : Result FlowNext Memory) → IsStep script (level script (suc left)) {E = Memory} (b table (level script (suc left))) frames rest (stands table capture) was is table capture
        (state_of (state table capture (knew table capture fit)).0 left) result → (t : Standing) × stands table capture t
    some (Ok More) d = (standing d.next, d.stands_so)
    some (Ok Finished) d = (_, d.stands_so)
    some (Ok (Raised o line)) d = (_, d.stands_so)
    some (Ok Spent) d = (standing d.next, d.stands_so)
    some (Ok Unanswered) d = (_, d.stands_so)
    some (Err want) d = (_, d.refused.stands)

-- what gives a value is what is done now
pub gives_so : (script : ScriptTree) (frames : FlowFrames) (giving : Box Giving Global) (inner : Giving) → inner ≡ giving.value → (table : ValuesView) (next : Task → Act)
    → doing_now script frames (Gives giving) table next ≡ working script frames inner.work inner.part table next
gives_so script frames giving inner same table next = now_does script next table frames (Gives giving) ∙ ap (λ (o : Giving). working script frames o.work o.part table next) (sym same)
