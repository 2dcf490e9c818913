-- What one step of an evaluation does: what remains to be done afterwards is what remained before, but for the moment that was performed.
use Rattle.std.specs.Prelude.{◌≡◌, ◌⊎◌, ℕ, List, [], ◌∷◌, ◌++◌, map, Option, Result, Ok, Err, ⊤}
use Rattle.prov_base.specs.declared.place.Pos.{Pos}
use Rattle.py_tree.specs.Tree.{ScriptTree}
use Rattle.py_value.specs.Contents.{Contents, contents}
use Rattle.py_value.specs.Values.{ValuesView, IsNamed}
use Rattle.py_value.specs.declared.value.Value.{Value}
use Rattle.py_model.specs.Act.{Act, Walked, ret, perform, normal, threw}
use Rattle.py_model.specs.Capture.{Capture}
use Rattle.py_model.specs.Doing.{Standing, standing, Fits, Stands, ForEach, IsInterrupted}
use Rattle.py_model.specs.Expressions.{Here, Task, calling, giving}
use Rattle.py_model.specs.Moment.{Moment}
use Rattle.py_model.specs.Operations.{Op}
use Rattle.py_model.specs.Plan.{Answer}
use Rattle.py_model.specs.Running.{State, operation, did, too_dear, lacked, outcome, spent, lacking}
use Rattle.py_model.specs.Told.{TellsOn}
use Rattle.interp_eval.specs.declared.frames.EvalFrames.{EvalFrames}
use Rattle.interp_eval.specs.declared.frames.EvalNext.{EvalNext}
use Rattle.interp_eval.specs.declared.frames.EvalNext.TheVariants.{More, Value as TheValue, Call, Raised, Ended, Spent, Unanswered}
use Rattle.interp_eval.specs.declared.node.Finish.TheVariants.{Giving}
use Rattle.interp_eval.specs.declared.node.Operands.TheVariants.{Nothing}
use Rattle.interp_eval.specs.Held.{AreHeld, AreAllNamed}
use Rattle.interp_eval.specs.Machine.{remains}
use Rattle.interp_eval.specs.Scopes.{IsAt}
use Rattle.interp_eval.specs.Seen.{machine_seen}
use Rattle.interp_eval.specs.Turns.{IsCallable}

-- From one act in one state to another in another: nothing was performed, or the act performs an operation first, and what follows its
-- answer is the other act, in the state after it. The moments that were performed come along.
pub data Went (capture : Capture) (before : Act) (s : State) (after : Act) (t : State) (news : List Moment) : Type 0 where
  stayed : after ≡ before → t ≡ s → news ≡ [] → Went capture before s after t news
  went_on : (at : Pos) (what : Op) (values : List Contents) (next : Answer → Walked → Act) (answer : Answer) (came : Walked) (moment : Moment)
      → before ≡ perform at what values next → operation capture at what values s ≡ did answer came t → after ≡ next answer came → t.told ≡ moment ∷ s.told → news ≡ moment ∷ []
      → Went capture before s after t news

-- The doer stands for the state, so many steps are left, and the watch was told what was performed. So the run comes out the same from there.
pub record IsOn (capture : Capture) (before : Act) (s : State) (after : Act) (left : ℕ) (stands : Standing → Type 0) (was is : Option (List Moment)) : Type 0 where
  pub next : State
  pub news : List Moment
  pub went : Went capture before s after next news
  pub comes_out : outcome capture before s ≡ outcome capture after next
  pub stands_so : stands (standing next)
  pub left_is : next.left ≡ left
  pub tells : TellsOn was is (λ told more. more ≡ news ++ told)

-- The first action is an operation that costs more than is left: no step is taken, and nothing is told.
pub record IsSpent (capture : Capture) (before : Act) (s : State) (left : ℕ) (stands : Standing → Type 0) (was is : Option (List Moment)) : Type 0 where
  pub at : Pos
  pub what : Op
  pub values : List Contents
  pub go : Answer → Walked → Act
  pub next : State
  pub act_is : before ≡ perform at what values go
  pub dear : operation capture at what values s ≡ too_dear next
  pub comes_out : outcome capture before s ≡ spent next
  pub stands_so : stands (standing next)
  pub left_is : next.left ≡ left
  pub told_is : next.told ≡ s.told
  pub tells : is ≡ was

-- The first action is an operation that asks for what is not there: the same holds.
pub record IsUnanswered (capture : Capture) (before : Act) (s : State) (left : ℕ) (stands : Standing → Type 0) (was is : Option (List Moment)) : Type 0 where
  pub at : Pos
  pub what : Op
  pub values : List Contents
  pub go : Answer → Walked → Act
  pub next : State
  pub act_is : before ≡ perform at what values go
  pub lacks : operation capture at what values s ≡ lacked next
  pub comes_out : outcome capture before s ≡ lacking next
  pub stands_so : stands (standing next)
  pub left_is : next.left ≡ left
  pub told_is : next.told ≡ s.told
  pub tells : is ≡ was

-- Out of memory: the doer stands for the state before or after the operation, but for what was asked, and the watch was told of it or not.
pub record IsCut (capture : Capture) (before : Act) (s : State) (stands : Standing → Type 0) (was is : Option (List Moment)) : Type 0 where
  pub rest : Act
  pub next : State
  pub news : List Moment
  pub went : Went capture before s rest next news
  pub refused : IsInterrupted capture stands next
  pub tells : TellsOn was is (λ told more. (more ≡ told) ⊎ (more ≡ news ++ told))

-- frames whose call has this value: the next step performs `give` with it
abbrev pub given : Value → EvalFrames → EvalFrames
given v frames = record frames { top = record { node = record { at = frames.top.node.at; finish = Giving v; rest = Nothing }; have = frames.top.have } }

module _ (script : ScriptTree) (next : Task → Act) (here : Here) (go : Contents → Act) where
  abbrev pub remaining : ValuesView → EvalFrames → Act
  remaining table frames = remains script next here (machine_seen table frames) go

  -- what remained is a call, and nothing was done; with its value what remains is `give` of it, and what follows the call
  pub record IsCall (f : Value) (args : List Value) (at : Pos) (before after : EvalFrames) (left : ℕ) (stands : Standing → Type 0) (was is : Option (List Moment)) (table : ValuesView) (s : State) : Type 0 where
    pub follows : Contents → Act
    pub act_is : remaining table before ≡ calling script next here at (contents table f) (map (contents table) args) follows
    pub resumes : (v : Value) → remaining table (given v after) ≡ giving script next here at follows (contents table v)
    pub callable : IsCallable f
    pub stands_so : stands (standing s)
    pub left_is : s.left ≡ left
    pub tells : is ≡ was

  abbrev pub IsStep : {E : Type 0} → EvalFrames → EvalFrames → ℕ → (Standing → Type 0) → Option (List Moment) → Option (List Moment) → ValuesView → Capture → State → Result EvalNext E → Type 0
  IsStep before after left stands was is table capture s (Ok More) = IsOn capture (remaining table before) s (remaining table after) left stands was is
  IsStep before after left stands was is table capture s (Ok (TheValue v)) = IsOn capture (remaining table before) s (go (contents table v)) left stands was is
  IsStep before after left stands was is table capture s (Ok (Raised o)) = IsOn capture (remaining table before) s (ret (threw o here.line)) left stands was is
  IsStep before after left stands was is table capture s (Ok Ended) = IsOn capture (remaining table before) s (ret normal) left stands was is
  IsStep before after left stands was is table capture s (Ok (Call f args at)) = IsCall f args at before after left stands was is table s
  IsStep before after left stands was is table capture s (Ok Spent) = IsSpent capture (remaining table before) s left stands was is
  IsStep before after left stands was is table capture s (Ok Unanswered) = IsUnanswered capture (remaining table before) s left stands was is
  IsStep before after left stands was is table capture s (Err want) = IsCut capture (remaining table before) s stands was is

-- One step, for whatever follows the expression and whatever calls mean, wherever the scope says that the expression stands.
abbrev pub Steps : {E : Type 0} → ScriptTree → EvalFrames → EvalFrames → ℕ → ℕ → Fits → Stands → Stands → Option (List Moment) → Option (List Moment) → Result EvalNext E → Type 0
Steps script before after left rest fits stood stands was is result =
    (next : Task → Act) (here : Here) (go : Contents → Act) → IsAt script before.scope here
    → ForEach fits stood (λ table capture s. s.left ≡ left → IsStep script next here go before after rest (stands table capture) was is table capture s result)

-- what is answered is named by every table that fits, and so are the values of the frames
abbrev pub IsHeldNext : {E : Type 0} → ValuesView → EvalFrames → Result EvalNext E → Type 0
IsHeldNext table after (Ok More) = AreHeld table after
IsHeldNext table after (Ok (TheValue v)) = IsNamed table v
IsHeldNext table after (Ok (Call f args at)) = IsNamed table f × (AreAllNamed table args × AreHeld table after)
IsHeldNext table after other = ⊤

abbrev pub AreHeldBy : Fits → EvalFrames → Type 0
AreHeldBy fits frames = (table : ValuesView) (capture : Capture) → fits table capture → AreHeld table frames

abbrev pub HoldsNext : {E : Type 0} → Fits → EvalFrames → Result EvalNext E → Type 0
HoldsNext fits after result = (table : ValuesView) (capture : Capture) → fits table capture → IsHeldNext table after result
