-- An operation of a statement that is done now, with the part that follows its answer.
use Rattle.std.specs.Prelude.{◌≡◌, ℕ, List, map, true, Option, Result, Ok, Err, ⊤, unwrap_or}
use Rattle.std.specs.Option.{option_map}
use Rattle.prov_base.specs.declared.place.Pos.{Pos}
use Rattle.py_tree.specs.Erasure.{form_of}
use Rattle.py_tree.specs.Tree.{ScriptTree}
use Rattle.py_value.specs.Contents.{contents, nothing}
use Rattle.py_value.specs.Values.{ValuesView, IsNamed}
use Rattle.py_value.specs.declared.value.Value.{Value}
use Rattle.py_model.specs.Act.{Act, leave, normal, ret, threw, to}
use Rattle.py_model.specs.Capture.{Capture}
use Rattle.py_model.specs.Doing.{Standing, standing, Fits, Stands, ForEach}
use Rattle.py_model.specs.Expressions.{Here, Task, by_answer, doing, left_with}
use Rattle.py_model.specs.Running.{State}
use Rattle.py_model.specs.Told.{answer_seen, op_seen, is_operation}
use Rattle.py_model.specs.declared.moment.Answer.{Answer}
use Rattle.py_model.specs.declared.moment.Answer.TheVariants.{Value as ValueAnswer, Raised as RaisedAnswer, End as EndAnswer}
use Rattle.py_model.specs.declared.moment.Op.{Op}
use Rattle.interp_eval.specs.Held.{AreAllNamed}
use Rattle.interp_eval.specs.Scopes.{IsAt}
use Rattle.interp_eval.specs.Step.{given, remaining as eval_remaining}
use Rattle.interp_eval.specs.Seen.{machine_seen}
use Rattle.interp_eval.specs.declared.frames.EvalFrames.{EvalFrames}
use Rattle.interp_eval.specs.declared.frames.EvalNext.{EvalNext}
use Rattle.interp_eval.specs.declared.frames.EvalNext.TheVariants.{More, Value as TheValue, Call, Raised, Ended, Spent, Unanswered}
use Rattle.interp_eval.specs.declared.frames.Scope.{Scope}
use Rattle.flow_frames.specs.Codes.{code_number, code_value, code_want}
use Rattle.flow_frames.specs.Held.{IsHeldMade, IsHeldStage, IsHeldWork}
use Rattle.flow_frames.specs.Machine.{flow_op, gives_back, resumes, then_act, work_act}
use Rattle.flow_frames.specs.Seen.{end_seen, frame_seen, here_seen, stage_seen, work_seen}
use Rattle.flow_frames.specs.declared.codes.Code.{Code}
use Rattle.flow_frames.specs.declared.control.End.{End}
use Rattle.flow_frames.specs.declared.control.Part.{Part}
use Rattle.flow_frames.specs.declared.control.Stage.{Stage}
use Rattle.flow_frames.specs.declared.control.Work.{Work}
use Rattle.flow_frames.specs.declared.frames.FlowFrames.{FlowFrames}
use Rattle.flow_values.specs.Step.{Before, meant}
use Rattle.flow_values.specs.Calls.{IsHandedOver}
use Rattle.flow_values.specs.declared.next.FlowNext.{FlowNext}
use Rattle.flow_values.specs.declared.next.FlowNext.TheVariants.{More as FlowMore, Spent as FlowSpent, Unanswered as FlowUnanswered}

-- the operation is as the statement names it, at each place that the scope says
pub record IsCodeOp (script : ScriptTree) (scope : Scope) (code : Code) (op : Op) (after : Standing → Type 0) (table : ValuesView) (s : State) : Type 0 where
  pub means : (here : Here) → IsAt script scope here → op_seen table op ≡ flow_op here (code_number code) (code_want code) (code_value code)
  pub stands : after (standing s)

abbrev pub MakesCode : {E : Type 0} → ScriptTree → Scope → Code → Fits → Stands → Stands → Result Op E → Type 0
MakesCode script scope code fits before after (Ok op) = (is_operation op.no ≡ true) × ForEach fits before (λ table capture s. IsCodeOp script scope code op (after table capture) table s)
MakesCode script scope code fits before after (Err refused) = ForEach fits before (λ table capture s. after table capture (standing s))

-- what is still to be done where an operation is next, at the spot of frames
abbrev pub operating : ScriptTree → FlowFrames → Pos → Code → List Value → Part → Before
operating script frames at code values p table next =
    to (doing (here_seen script table frames.spot) at (flow_op (here_seen script table frames.spot) (code_number code) (code_want code) (code_value code)) (map (contents table) values)
    (then_act script next (here_seen script table frames.spot) p.stmt.now.pos (form_of p.stmt.now.form.value) (stage_seen table p.stage)))
    (resumes script next (map (frame_seen script table) frames.below.items) (λ how. ret how))

abbrev pub AreHeldValues : Fits → List Value → Type 0
AreHeldValues fits values = (table : ValuesView) (capture : Capture) → fits table capture → AreAllNamed table values

abbrev pub AreHeldStages : Fits → Stage → Type 0
AreHeldStages fits stage = (table : ValuesView) (capture : Capture) → fits table capture → IsHeldStage table stage

-- what is still to be done where an expression is evaluated, at the spot of frames
abbrev pub evaluating : ScriptTree → FlowFrames → EvalFrames → Part → Before
evaluating script frames eval p table next =
    to (eval_remaining script next (here_seen script table frames.spot) (then_act script next (here_seen script table frames.spot) p.stmt.now.pos (form_of p.stmt.now.form.value) (stage_seen table p.stage)) table eval)
    (resumes script next (map (frame_seen script table) frames.below.items) (λ how. ret how))

-- what is still to be done where a part has got an answer
abbrev pub answering : ScriptTree → FlowFrames → Part → Answer → Before
answering script frames p answer table next =
    to (by_answer (here_seen script table frames.spot) (ret normal) (then_act script next (here_seen script table frames.spot) p.stmt.now.pos (form_of p.stmt.now.form.value) (stage_seen table p.stage)) (answer_seen table answer))
    (resumes script next (map (frame_seen script table) frames.below.items) (λ how. ret how))

-- the run goes on, and as much remains
abbrev pub GoesOnFrom : {E : Type 0} → (ScriptTree → Before) → FlowFrames → Result FlowNext E → Type 0
GoesOnFrom b after (Ok FlowMore) = (script : ScriptTree) (table : ValuesView) (next : Task → Act) → b script table next ≡ meant script after table next
GoesOnFrom b after (Err want) = ⊤
GoesOnFrom b after result = ⊥

-- What a step of an expression came to is taken: the expression goes on, or the part that waits for its value gets an answer, or a call is
-- next. What ends the run is passed on.
abbrev pub IsTaken : {E : Type 0} → EvalNext → EvalFrames → Part → FlowFrames → FlowFrames → Result FlowNext E → Type 0
IsTaken More eval p before after result = GoesOnFrom (λ script. evaluating script before eval p) after result
IsTaken (TheValue v) eval p before after result = GoesOnFrom (λ script. answering script before p (ValueAnswer v)) after result
IsTaken (Raised o) eval p before after result = GoesOnFrom (λ script. answering script before p (RaisedAnswer o)) after result
IsTaken Ended eval p before after result = GoesOnFrom (λ script. answering script before p EndAnswer) after result
IsTaken Spent eval p before after result = result ≡ Ok FlowSpent
IsTaken Unanswered eval p before after result = result ≡ Ok FlowUnanswered
IsTaken (Call f args at) eval p before after result = IsHandedOver f args at eval p before after result

-- the expression stands in the scope of its statement
abbrev pub IsInScope : Fits → EvalFrames → FlowFrames → Type 0
IsInScope fits eval frames = (table : ValuesView) (capture : Capture) → fits table capture → eval.scope ≡ frames.spot.scope

-- what is still to be done where this gives a value
abbrev pub working : ScriptTree → FlowFrames → Work → Part → Before
working script frames work p table next =
    to (work_act script next (here_seen script table frames.spot) (work_seen table work) (then_act script next (here_seen script table frames.spot) p.stmt.now.pos (form_of p.stmt.now.form.value) (stage_seen table p.stage)))
    (resumes script next (map (frame_seen script table) frames.below.items) (λ how. ret how))

abbrev pub IsHeldWorkBy : Fits → FlowFrames → Work → Type 0
IsHeldWorkBy fits frames work = (table : ValuesView) (capture : Capture) → fits table capture → IsHeldWork table frames.spot.scope work

-- what is still to be done where an activation is left by an exception; where it is left with a value, which the expression that called it gets;
-- where it has ended so
abbrev pub throwing : ScriptTree → FlowFrames → ℕ → ℕ → Before
throwing script frames o line table next = leave nothing (resumes script next (map (frame_seen script table) frames.below.items) (λ how. ret how) (threw o line))

abbrev pub resuming : ScriptTree → FlowFrames → EvalFrames → Option Value → Part → Value → Before
resuming script frames eval made p v table next = leave (contents table v) (evaluating script frames (given (unwrap_or made v) eval) p table next)

abbrev pub returning : ScriptTree → FlowFrames → EvalFrames → Option Value → Part → End → Before
returning script frames eval made p end table next =
    to (left_with script next (gives_back script next (here_seen script table frames.spot) (machine_seen table eval) (then_act script next (here_seen script table frames.spot) p.stmt.now.pos (form_of p.stmt.now.form.value) (stage_seen table p.stage))
    (option_map (contents table) made)) (end_seen table end)) (resumes script next (map (frame_seen script table) frames.below.items) (λ how. ret how))

abbrev pub IsNamedBy : Fits → Value → Type 0
IsNamedBy fits v = (table : ValuesView) (capture : Capture) → fits table capture → IsNamed table v

abbrev pub IsHeldMadeBy : Fits → Option Value → Type 0
IsHeldMadeBy fits made = (table : ValuesView) (capture : Capture) → fits table capture → IsHeldMade table made
