-- An expression that is evaluated now goes on by one step where it stands.
use Rattle.std.specs.Prelude.{◌≡◌, ℕ, Bool, true, false, List, Option, Some, None, Result, Ok, ⊤}
use Rattle.prov_base.specs.declared.refusal.Memory.{Memory}
use Rattle.py_tree.specs.Tree.{ScriptTree}
use Rattle.py_value.specs.Values.{ValuesView}
use Rattle.py_model.specs.Capture.{Capture}
use Rattle.py_model.specs.Doing.{Fits, Stands}
use Rattle.py_model.specs.Moment.{Moment}
use Rattle.py_model.specs.declared.moment.Answer.{Answer}
use Rattle.interp_eval.specs.Held.{AreHeld}
use Rattle.interp_eval.specs.Step.{HoldsNext as HoldsEvalNext, IsHeldNext as IsHeldEvalNext, Steps as EvalSteps}
use Rattle.interp_eval.specs.declared.frames.EvalNext.{EvalNext}
use Rattle.interp_eval.specs.declared.frames.Scope.{Scope}
use Rattle.flow_frames.specs.Held.{AreHeldFrames, IsHeldClass, IsHeldStage}
use Rattle.flow_frames.specs.declared.control.Now.{Now}
use Rattle.flow_frames.specs.declared.control.Now.TheVariants.{Gives}
use Rattle.flow_frames.specs.declared.control.Part.{Part}
use Rattle.flow_frames.specs.declared.control.Work.{Work}
use Rattle.flow_frames.specs.declared.control.Work.TheVariants.{Evaluates}
use Rattle.flow_frames.specs.declared.frames.FlowFrames.{FlowFrames}
use Rattle.flow_values.specs.Value.{GoesOnFrom, IsTaken, answering}
use Rattle.flow_values.specs.declared.next.FlowNext.{FlowNext}

abbrev pub is_expression : Work → Bool
is_expression (Evaluates e) = true
is_expression work = false

-- whether an expression is evaluated now
abbrev pub evaluates : Now → Bool
evaluates (Gives g) = is_expression g.value.work
evaluates now = false

-- what follows the value of what is done now
abbrev pub part_in : Now → Option Part
part_in (Gives g) = Some g.value.part
part_in now = None

-- the values of an expression are named
abbrev pub IsHeldExpression : ValuesView → Work → Type 0
IsHeldExpression table (Evaluates e) = AreHeld table e
IsHeldExpression table work = ⊤

abbrev pub IsHeldExpressionBy : Fits → Work → Type 0
IsHeldExpressionBy fits work = (table : ValuesView) (capture : Capture) → fits table capture → IsHeldExpression table work

abbrev pub IsHeldEvaluation : ValuesView → Now → Type 0
IsHeldEvaluation table (Gives g) = IsHeldExpression table g.value.work
IsHeldEvaluation table now = ⊤

abbrev pub IsHeldEvaluationBy : Fits → Now → Type 0
IsHeldEvaluationBy fits now = (table : ValuesView) (capture : Capture) → fits table capture → IsHeldEvaluation table now

-- The expression made one step, in its scope. Of other work nothing is said.
abbrev pub HasEvaluated : {E : Type 0} → ScriptTree → Work → Work → ℕ → ℕ → Fits → Stands → Stands → Option (List Moment) → Option (List Moment) → Result EvalNext E → Type 0
HasEvaluated script (Evaluates e) (Evaluates gone) left rest fits stood stands was is result =
    EvalSteps script e gone left rest fits stood stands was is result × ((gone.scope ≡ e.scope) × HoldsEvalNext fits gone result)
HasEvaluated script (Evaluates e) work left rest fits stood stands was is result = ⊥
HasEvaluated script before after left rest fits stood stands was is result = ⊤

-- so of what is done now, and what follows the value is the same
abbrev pub HasEvaluatedNow : {E : Type 0} → ScriptTree → Now → Now → ℕ → ℕ → Fits → Stands → Stands → Option (List Moment) → Option (List Moment) → Result EvalNext E → Type 0
HasEvaluatedNow script (Gives g) (Gives h) left rest fits stood stands was is result =
    HasEvaluated script g.value.work h.value.work left rest fits stood stands was is result × (h.value.part ≡ g.value.part)
HasEvaluatedNow script (Gives g) now left rest fits stood stands was is result = ⊥
HasEvaluatedNow script before after left rest fits stood stands was is result = ⊤

-- what a step of the expression that is evaluated came to is taken
abbrev pub IsTakenWork : {E : Type 0} → EvalNext → Work → Part → FlowFrames → FlowFrames → Result FlowNext E → Type 0
IsTakenWork next (Evaluates gone) p before after result = IsTaken next gone p before after result
IsTakenWork next work p before after result = ⊤

abbrev pub IsTakenNow : {E : Type 0} → EvalNext → Now → FlowFrames → FlowFrames → Result FlowNext E → Type 0
IsTakenNow next (Gives g) before after result = IsTakenWork next g.value.work g.value.part before after result
IsTakenNow next now before after result = ⊤

-- the part that waits for the value of what was done gets an answer
abbrev pub IsAnswered : {E : Type 0} → Answer → Now → FlowFrames → FlowFrames → Result FlowNext E → Type 0
IsAnswered answer (Gives g) before after result = GoesOnFrom (λ script. answering script before g.value.part answer) after result
IsAnswered answer now before after result = ⊤

-- the values around what is done now are named
abbrev pub AreHeldAround : ValuesView → FlowFrames → Type 0
AreHeldAround table frames = IsHeldClass table frames.spot.in_class × AreHeldFrames table frames.below.items

abbrev pub IsHeldPart : ValuesView → Now → Type 0
IsHeldPart table (Gives g) = IsHeldStage table g.value.part.stage
IsHeldPart table now = ⊤

-- the values of what a step of the expression came to are named, and it stands in this scope
abbrev pub IsHeldTakenWork : ValuesView → Scope → EvalNext → Work → Type 0
IsHeldTakenWork table scope next (Evaluates gone) = IsHeldEvalNext {E = Memory} table gone (Ok next) × (gone.scope ≡ scope)
IsHeldTakenWork table scope next work = ⊥

abbrev pub IsHeldTaken : ValuesView → Scope → EvalNext → Now → Type 0
IsHeldTaken table scope next (Gives g) = IsHeldTakenWork table scope next g.value.work × IsHeldStage table g.value.part.stage
IsHeldTaken table scope next now = ⊥
