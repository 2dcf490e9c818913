-- Calls of functions and classes that expressions wait for: what is still to be done of them, at the spot of frames.
use Rattle.std.specs.Prelude.{◌≡◌, ◌∷◌, ℕ, pos, Bool, true, false, List, [], map, Option, Some, None, Result, Ok, Err, ⊤}
use Rattle.std.specs.Option.{option_map}
use Rattle.prov_base.specs.declared.place.Pos.{Pos}
use Rattle.py_tree.specs.Erasure.{form_of}
use Rattle.py_tree.specs.Tree.{ScriptTree}
use Rattle.py_value.specs.Contents.{Contents, contents, int}
use Rattle.py_value.specs.Values.{ValuesView}
use Rattle.py_value.specs.declared.value.Value.{Value}
use Rattle.py_value.specs.declared.value.Value.TheVariants.{Fn as FnValue, Class as ClassValue, Exc as ExcValue}
use Rattle.py_model.specs.Act.{Act, ret, to, normal}
use Rattle.py_model.specs.Capture.{Capture}
use Rattle.py_model.specs.Doing.{Fits}
use Rattle.py_model.specs.Expressions.{Task, by_answer, failing}
use Rattle.py_model.specs.Told.{answer_seen}
use Rattle.py_model.specs.declared.moment.Answer.{Answer}
use Rattle.interp_eval.specs.Machine.{remains}
use Rattle.interp_eval.specs.Seen.{machine_seen}
use Rattle.interp_eval.specs.declared.frames.EvalFrames.{EvalFrames}
use Rattle.flow_frames.specs.Held.{IsHeldCallee, IsHeldCaller}
use Rattle.flow_frames.specs.Machine.{call_act, given_to, made_act, without_method, resumes, then_act}
use Rattle.flow_frames.specs.Seen.{callee_seen, frame_seen, here_seen, stage_seen}
use Rattle.flow_frames.specs.declared.control.Callee.{Callee}
use Rattle.flow_frames.specs.declared.control.Callee.TheVariants.{Function, Class}
use Rattle.flow_frames.specs.declared.control.Caller.{Caller}
use Rattle.flow_frames.specs.declared.control.Part.{Part}
use Rattle.flow_frames.specs.declared.frames.FlowFrames.{FlowFrames}
use Rattle.flow_values.specs.Step.{Before, meant}
use Rattle.flow_values.specs.declared.next.FlowNext.{FlowNext}
use Rattle.flow_values.specs.declared.next.FlowNext.TheVariants.{More}

-- what is called by a value
abbrev pub callee_for : Value → Option Callee
callee_for (FnValue place) = Some (Function place)
callee_for (ClassValue place) = Some (Class (ClassValue place))
callee_for (ExcValue number) = Some (Class (ExcValue number))
callee_for v = None

-- a call is next
abbrev pub calling_so : ScriptTree → FlowFrames → Caller → Pos → Callee → List Value → Part → Before
calling_so script frames caller at callee values p table next =
    to (call_act script next (here_seen script table frames.spot) (machine_seen table caller.eval) (option_map (contents table) caller.made) at (callee_seen table callee) (map (contents table) values)
    (then_act script next (here_seen script table frames.spot) p.stmt.now.pos (form_of p.stmt.now.form.value) (stage_seen table p.stage)))
    (resumes script next (map (frame_seen script table) frames.below.items) (λ how. ret how))

-- a failing call is next, with what is called and the arguments
abbrev pub failing_so : ScriptTree → FlowFrames → Pos → ℕ → List Value → Before
failing_so script frames at reason values table next =
    to (failing (here_seen script table frames.spot) at (int (pos reason)) (map (contents table) values)) (resumes script next (map (frame_seen script table) frames.below.items) (λ how. ret how))

-- what remains of an expression whose call has an object as its value
abbrev pub gives_object : ScriptTree → FlowFrames → EvalFrames → Part → ValuesView → (Task → Act) → Contents → Act
gives_object script frames eval p table next o =
    remains script next (here_seen script table frames.spot) (given_to (machine_seen table eval) o) (then_act script next (here_seen script table frames.spot) p.stmt.now.pos (form_of p.stmt.now.form.value) (stage_seen table p.stage))

-- an object was made, and no method was found; or some method; or this is the answer of the operation
abbrev pub alone_so : ScriptTree → FlowFrames → EvalFrames → Pos → Value → List Value → Value → Bool → Part → Before
alone_so script frames eval at of arguments o has_set p table next =
    to (without_method script next (here_seen script table frames.spot) at (contents table of) (map (contents table) arguments) has_set (gives_object script frames eval p table next (contents table o)))
    (resumes script next (map (frame_seen script table) frames.below.items) (λ how. ret how))

abbrev pub made_so : ScriptTree → FlowFrames → EvalFrames → Pos → Value → List Value → Value → Option Pos → Bool → Part → Before
made_so script frames eval at of arguments o method has_set p table next =
    to (made_act script next (here_seen script table frames.spot) at (contents table of) (map (contents table) arguments) (contents table o) has_set method (gives_object script frames eval p table next (contents table o)))
    (resumes script next (map (frame_seen script table) frames.below.items) (λ how. ret how))

abbrev pub making_so : ScriptTree → FlowFrames → Caller → Pos → Value → List Value → Answer → Option Pos → Bool → Part → Before
making_so script frames caller at of arguments answer method has_set p table next =
    to (by_answer (here_seen script table frames.spot) (ret normal)
    (λ o. made_act script next (here_seen script table frames.spot) at (contents table of) (map (contents table) arguments) o has_set method (gives_object script frames caller.eval p table next o)) (answer_seen table answer))
    (resumes script next (map (frame_seen script table) frames.below.items) (λ how. ret how))

-- without an `__init__` no argument is taken, but any where an attribute was set
abbrev pub may_be_made : Bool → List Value → Bool
may_be_made true arguments = true
may_be_made false [] = true
may_be_made false (v ∷ arguments) = false

-- what a step of an expression came to, a call, is next
pub record HandsOver (f : Value) (arguments : List Value) (at : Pos) (eval : EvalFrames) (p : Part) (before after : FlowFrames) : Type 0 where
  pub callee : Callee
  pub callee_is : callee_for f ≡ Some callee
  pub means : (script : ScriptTree) (table : ValuesView) (next : Task → Act) → calling_so script before (record { eval = eval; made = None }) at callee arguments p table next ≡ meant script after table next

abbrev pub IsHandedOver : {E : Type 0} → Value → List Value → Pos → EvalFrames → Part → FlowFrames → FlowFrames → Result FlowNext E → Type 0
IsHandedOver f arguments at eval p before after (Ok More) = HandsOver f arguments at eval p before after
IsHandedOver f arguments at eval p before after (Err want) = ⊤
IsHandedOver f arguments at eval p before after result = ⊥

abbrev pub IsHeldCallerBy : Fits → FlowFrames → Caller → Type 0
IsHeldCallerBy fits frames caller = (table : ValuesView) (capture : Capture) → fits table capture → IsHeldCaller table frames.spot.scope caller

abbrev pub IsHeldCalleeBy : Fits → Callee → Type 0
IsHeldCalleeBy fits callee = (table : ValuesView) (capture : Capture) → fits table capture → IsHeldCallee table callee
