-- The texts and tuples that the values of a flow name are named in a table.
use Rattle.std.specs.Prelude.{◌≡◌, List, [], ◌∷◌, Option, Some, None, ⊤}
use Rattle.py_value.specs.Values.{ValuesView, IsNamed}
use Rattle.py_value.specs.declared.value.Value.{Value}
use Rattle.py_model.specs.Capture.{Capture}
use Rattle.py_model.specs.Doing.{Fits}
use Rattle.interp_eval.specs.declared.frames.Scope.{Scope}
use Rattle.interp_eval.specs.Held.{AreHeld, AreAllNamed}
use Rattle.flow_frames.specs.declared.control.End.{End}
use Rattle.flow_frames.specs.declared.control.End.TheVariants.{Returned}
use Rattle.flow_frames.specs.declared.control.Goal.{Goal}
use Rattle.flow_frames.specs.declared.control.Goal.TheVariants.{Finishes, Turns, Breaks}
use Rattle.flow_frames.specs.declared.control.Stage.{Stage}
use Rattle.flow_frames.specs.declared.control.Stage.TheVariants.{Stores, Holder, Index, Stored, Unpacked, Spreads, Sized, Turn, Item, Repeats, Key, Slotted, Loaded, Sided, Changed, Named, Inside, Closes}
use Rattle.flow_frames.specs.declared.control.Callee.{Callee}
use Rattle.flow_frames.specs.declared.control.Callee.TheVariants.{Function, Class}
use Rattle.flow_frames.specs.declared.control.Caller.{Caller}
use Rattle.flow_frames.specs.declared.control.Work.{Work}
use Rattle.flow_frames.specs.declared.control.Work.TheVariants.{Evaluates, Operation, Calls}
use Rattle.flow_frames.specs.declared.control.Now.{Now}
use Rattle.flow_frames.specs.declared.control.Now.TheVariants.{InSuite, Opens, Gives, Ended}
use Rattle.flow_frames.specs.declared.frames.Spot.{Spot}
use Rattle.flow_frames.specs.declared.frames.Waits.{Waits}
use Rattle.flow_frames.specs.declared.frames.Waits.TheVariants.{Stmt as StmtWaits, Part as PartWaits}
use Rattle.flow_frames.specs.declared.frames.Frame.{Frame}
use Rattle.flow_frames.specs.declared.frames.FlowFrames.{FlowFrames}

abbrev pub IsHeldEnd : ValuesView → End → Type 0
IsHeldEnd table (Returned v) = IsNamed table v
IsHeldEnd table end = ⊤

abbrev pub IsHeldGoal : ValuesView → Goal → Type 0
IsHeldGoal table Finishes = ⊤
IsHeldGoal table (Turns items n size) = IsNamed table items × IsNamed table size
IsHeldGoal table (Breaks n) = ⊤

abbrev pub IsHeldStage : ValuesView → Stage → Type 0
IsHeldStage table (Stores goal v) = IsHeldGoal table goal × IsNamed table v
IsHeldStage table (Holder goal v) = IsHeldGoal table goal × IsNamed table v
IsHeldStage table (Index goal v o) = IsHeldGoal table goal × (IsNamed table v × IsNamed table o)
IsHeldStage table (Stored goal) = IsHeldGoal table goal
IsHeldStage table (Unpacked goal) = IsHeldGoal table goal
IsHeldStage table (Spreads goal n v) = IsHeldGoal table goal × IsNamed table v
IsHeldStage table (Sized items) = IsNamed table items
IsHeldStage table (Turn items n size) = IsNamed table items × IsNamed table size
IsHeldStage table (Item items n size) = IsNamed table items × IsNamed table size
IsHeldStage table (Repeats items n size) = IsNamed table items × IsNamed table size
IsHeldStage table (Key o) = IsNamed table o
IsHeldStage table (Slotted o) = IsNamed table o
IsHeldStage table (Loaded o i) = IsNamed table o × IsNamed table i
IsHeldStage table (Sided o i w) = IsNamed table o × (IsNamed table i × IsNamed table w)
IsHeldStage table (Changed o i) = IsNamed table o × IsNamed table i
IsHeldStage table (Named v) = IsNamed table v
IsHeldStage table (Inside v) = IsNamed table v
IsHeldStage table (Closes end) = IsHeldEnd table end
IsHeldStage table stage = ⊤

abbrev pub IsHeldCallee : ValuesView → Callee → Type 0
IsHeldCallee table (Function place) = ⊤
IsHeldCallee table (Class of) = IsNamed table of

abbrev pub IsHeldMade : ValuesView → Option Value → Type 0
IsHeldMade table None = ⊤
IsHeldMade table (Some o) = IsNamed table o

abbrev pub IsHeldCaller : ValuesView → Scope → Caller → Type 0
IsHeldCaller table scope caller = AreHeld table caller.eval × ((caller.eval.scope ≡ scope) × IsHeldMade table caller.made)

-- an expression is evaluated in the scope of its statement
abbrev pub IsHeldWork : ValuesView → Scope → Work → Type 0
IsHeldWork table scope (Evaluates frames) = AreHeld table frames × (frames.scope ≡ scope)
IsHeldWork table scope (Operation at code values) = AreAllNamed table values.items
IsHeldWork table scope (Calls caller at callee values) = IsHeldCaller table scope caller.value × (IsHeldCallee table callee × AreAllNamed table values)

abbrev pub IsHeldNow : ValuesView → Scope → Now → Type 0
IsHeldNow table scope (InSuite stmts) = ⊤
IsHeldNow table scope (Opens p) = IsHeldStage table p.stage
IsHeldNow table scope (Gives g) = IsHeldWork table scope g.value.work × IsHeldStage table g.value.part.stage
IsHeldNow table scope (Ended end) = IsHeldEnd table end

abbrev pub IsHeldClass : ValuesView → Option Value → Type 0
IsHeldClass table None = ⊤
IsHeldClass table (Some of) = IsNamed table of

abbrev pub IsHeldWaits : ValuesView → Scope → Waits → Type 0
IsHeldWaits table scope (StmtWaits number rest) = ⊤
IsHeldWaits table scope (PartWaits None p) = IsHeldStage table p.stage
IsHeldWaits table scope (PartWaits (Some caller) p) = IsHeldCaller table scope caller.value × IsHeldStage table p.stage

abbrev pub IsHeldFrame : ValuesView → Frame → Type 0
IsHeldFrame table f = IsHeldClass table f.spot.in_class × IsHeldWaits table f.spot.scope f.waits

abbrev pub AreHeldFrames : ValuesView → List Frame → Type 0
AreHeldFrames table [] = ⊤
AreHeldFrames table (f ∷ fs) = IsHeldFrame table f × AreHeldFrames table fs

-- so of all of a flow
pub record IsHeldFlow (table : ValuesView) (frames : FlowFrames) : Type 0 where
  pub spot : IsHeldClass table frames.spot.in_class
  pub now : IsHeldNow table frames.spot.scope frames.now
  pub below : AreHeldFrames table frames.below.items

abbrev pub IsHeldBy : Fits → FlowFrames → Type 0
IsHeldBy fits frames = (table : ValuesView) (capture : Capture) → fits table capture → IsHeldFlow table frames
