-- What one step of a script does: the run comes out from what is still to be done afterwards as from what was still to be done before.
use Rattle.std.specs.Prelude.{◌≡◌, ◌⊎◌, ◌<◌, ◌++◌, ℕ, List, [], ◌∷◌, map, Option, Some, None, Result, Ok, Err, ⊤}
use Rattle.py_tree.specs.Tree.{ScriptTree}
use Rattle.py_value.specs.Values.{ValuesView}
use Rattle.py_model.specs.Act.{Act, How, ret, to}
use Rattle.py_model.specs.Capture.{Capture}
use Rattle.py_model.specs.Doing.{Standing, standing, Fits, Stands, ForEach, IsInterrupted}
use Rattle.py_model.specs.Expressions.{Task}
use Rattle.py_model.specs.Meaning.{RunEnd, finished, uncaught, end_of, level}
use Rattle.py_model.specs.Moment.{Moment}
use Rattle.py_model.specs.Running.{State, outcome, over, spent, lacking}
use Rattle.py_model.specs.Told.{TellsOn}
use Rattle.flow_frames.specs.Held.{IsHeldEnd, IsHeldFlow, IsHeldNow}
use Rattle.flow_frames.specs.Machine.{flow, remaining, resumes, waits_act}
use Rattle.flow_frames.specs.Seen.{end_seen, flow_seen, frame_seen, here_seen, now_seen, waits_seen}
use Rattle.flow_frames.specs.declared.control.End.{End}
use Rattle.flow_frames.specs.declared.frames.Waits.{Waits}
use Rattle.flow_frames.specs.declared.control.Now.{Now}
use Rattle.flow_frames.specs.declared.frames.FlowFrames.{FlowFrames}
use Rattle.flow_values.specs.declared.next.FlowNext.{FlowNext}
use Rattle.flow_values.specs.declared.next.FlowNext.TheVariants.{More, Finished, Raised, Spent, Unanswered}

-- one moment, or none
abbrev pub AtMostOne : List Moment → Type 0
AtMostOne [] = Unit {0}
AtMostOne (moment ∷ []) = Unit {0}
AtMostOne (moment ∷ other ∷ more) = ⊥

-- The doer stands for a state, so many steps are left, and the watch was told the moment that it has more, where it has one.
pub record IsOn (capture : Capture) (before after : Act) (s : State) (left : ℕ) (stands : Standing → Type 0) (was is : Option (List Moment)) : Type 0 where
  pub next : State
  pub news : List Moment
  pub few : AtMostOne news
  pub comes_out : outcome capture before s ≡ outcome capture after next
  pub told_is : next.told ≡ news ++ s.told
  pub stands_so : stands (standing next)
  pub left_is : next.left ≡ left
  pub tells : TellsOn was is (λ told more. more ≡ news ++ told)

-- What is first costs more than is left: nothing is told.
pub record IsSpent (capture : Capture) (before : Act) (s : State) (left : ℕ) (stands : Standing → Type 0) (was is : Option (List Moment)) : Type 0 where
  pub next : State
  pub comes_out : outcome capture before s ≡ spent next
  pub stands_so : stands (standing next)
  pub left_is : next.left ≡ left
  pub told_is : next.told ≡ s.told
  pub tells : is ≡ was

-- What is first asks for what is not there: the same holds.
pub record IsUnanswered (capture : Capture) (before : Act) (s : State) (left : ℕ) (stands : Standing → Type 0) (was is : Option (List Moment)) : Type 0 where
  pub next : State
  pub comes_out : outcome capture before s ≡ lacking next
  pub stands_so : stands (standing next)
  pub left_is : next.left ≡ left
  pub told_is : next.told ≡ s.told
  pub tells : is ≡ was

-- Out of memory: the doer stands for the state before or after what was first, but for what was asked, and the watch was told of it or not.
pub record IsCut (capture : Capture) (before : Act) (s : State) (stands : Standing → Type 0) (was is : Option (List Moment)) : Type 0 where
  pub rest : Act
  pub next : State
  pub news : List Moment
  pub few : AtMostOne news
  pub comes_out : outcome capture before s ≡ outcome capture rest next
  pub told_is : next.told ≡ news ++ s.told
  pub refused : IsInterrupted capture stands next
  pub tells : TellsOn was is (λ told more. (more ≡ told) ⊎ (more ≡ news ++ told))

-- The run is at its end: nothing is done.
pub record IsOver (capture : Capture) (before : Act) (s : State) (end : RunEnd) (left : ℕ) (stands : Standing → Type 0) (was is : Option (List Moment)) : Type 0 where
  pub how : How
  pub comes_out : outcome capture before s ≡ over how s
  pub end_is : end_of how ≡ end
  pub stands_so : stands (standing s)
  pub left_is : s.left ≡ left
  pub tells : is ≡ was

module _ (script : ScriptTree) (next : Task → Act) where
  abbrev pub IsStep : {E : Type 0} → Act → FlowFrames → ℕ → (Standing → Type 0) → Option (List Moment) → Option (List Moment) → ValuesView → Capture → State → Result FlowNext E → Type 0
  IsStep before after left stands was is table capture s (Ok More) = IsOn capture before (remaining script next (flow_seen script table after)) s left stands was is
  IsStep before after left stands was is table capture s (Ok Finished) = IsOver capture before s finished left stands was is
  IsStep before after left stands was is table capture s (Ok (Raised o line)) = IsOver capture before s (uncaught o line) left stands was is
  IsStep before after left stands was is table capture s (Ok Spent) = IsSpent capture before s left stands was is
  IsStep before after left stands was is table capture s (Ok Unanswered) = IsUnanswered capture before s left stands was is
  IsStep before after left stands was is table capture s (Err want) = IsCut capture before s stands was is

-- what was still to be done, by a table and what turns and calls go on with
abbrev pub Before : Type 0
Before = ValuesView → (Task → Act) → Act

-- One step, with as many turns and calls one inside the other as there are steps, and any more.
abbrev pub StepsFrom : {E : Type 0} → ScriptTree → Before → FlowFrames → ℕ → ℕ → Fits → Stands → Stands → Option (List Moment) → Option (List Moment) → Result FlowNext E → Type 0
StepsFrom script before after left rest fits stood stands was is result =
    ForEach fits stood (λ table capture s. s.left ≡ left → (n : ℕ) → left < n
    → IsStep script (level script n) (before table (level script n)) after rest (stands table capture) was is table capture s result)

-- what frames still mean
abbrev pub meant : ScriptTree → FlowFrames → Before
meant script frames table next = remaining script next (flow_seen script table frames)

-- what is still to be done where this is done at the spot of frames
abbrev pub doing_now : ScriptTree → FlowFrames → Now → Before
doing_now script frames now table next = remaining script next (flow (here_seen script table frames.spot) (now_seen table now) (map (frame_seen script table) frames.below.items))

abbrev pub Steps : {E : Type 0} → ScriptTree → FlowFrames → FlowFrames → ℕ → ℕ → Fits → Stands → Stands → Option (List Moment) → Option (List Moment) → Result FlowNext E → Type 0
Steps script before after left rest fits stood stands was is result = StepsFrom script (meant script before) after left rest fits stood stands was is result

-- the values of frames that go on are named
abbrev pub IsHeldNext : {E : Type 0} → ValuesView → FlowFrames → Result FlowNext E → Type 0
IsHeldNext table after (Ok More) = IsHeldFlow table after
IsHeldNext table after result = ⊤

abbrev pub HoldsNext : {E : Type 0} → Fits → FlowFrames → Result FlowNext E → Type 0
HoldsNext fits after result = (table : ValuesView) (capture : Capture) → fits table capture → IsHeldNext table after result

-- how a run ends by an answer
abbrev pub next_end : FlowNext → Option RunEnd
next_end Finished = Some finished
next_end (Raised o line) = Some (uncaught o line)
next_end other = None

-- An end is handed to what waits, at the spot of frames; then it goes on below.
abbrev pub handed : ScriptTree → FlowFrames → Waits → End → Before
handed script frames waits end table next =
    to (waits_act script next (here_seen script table frames.spot) (waits_seen table waits) (end_seen table end)) (resumes script next (map (frame_seen script table) frames.below.items) (λ how. ret how))

abbrev pub IsHeldEndBy : Fits → End → Type 0
IsHeldEndBy fits end = (table : ValuesView) (capture : Capture) → fits table capture → IsHeldEnd table end

-- what is done now holds values that are named
abbrev pub IsHeldNowBy : Fits → FlowFrames → Now → Type 0
IsHeldNowBy fits frames now = (table : ValuesView) (capture : Capture) → fits table capture → IsHeldNow table frames.spot.scope now
