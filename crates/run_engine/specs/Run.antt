-- How a whole run comes out (this project's profile), by what its last step came to.
use Rattle.std.specs.Prelude.{◌≡◌, ◌⊎◌, ℕ, suc, List, ◌++◌, Option, Result, Ok, Err}
use Rattle.flow_values.specs.Step.{AtMostOne}
use Rattle.flow_values.specs.declared.next.FlowNext.{FlowNext}
use Rattle.flow_values.specs.declared.next.FlowNext.TheVariants.{More, Finished, Raised, Spent, Unanswered}
use Rattle.py_model.specs.Act.{Act, How}
use Rattle.py_model.specs.Capture.{Capture}
use Rattle.py_model.specs.Doing.{Fits, Stands, Standing, standing, ForEach, IsInterrupted}
use Rattle.py_model.specs.Expressions.{Task}
use Rattle.py_model.specs.Meaning.{RunEnd, finished, uncaught, end_of, level, meaning}
use Rattle.py_model.specs.Moment.{Moment}
use Rattle.py_model.specs.Running.{State, over, spent, lacking, outcome}
use Rattle.py_model.specs.Told.{TellsOn}
use Rattle.py_tree.specs.Tree.{ScriptTree}

module _ (capture : Capture) (before : Act) (s : State) where
  -- The run came to its end, in the state that the doer stands for, and the watch was told each moment of it.
  pub record IsRunOver (end : RunEnd) (left : ℕ) (stands : Standing → Type 0) (was is : Option (List Moment)) : Type 0 where
    pub how : How
    pub next : State
    pub news : List Moment
    pub comes_out : outcome capture before s ≡ over how next
    pub end_is : end_of how ≡ end
    pub told_is : next.told ≡ news ++ s.told
    pub stands_so : stands (standing next)
    pub left_is : next.left ≡ left
    pub tells : TellsOn was is (λ told more. more ≡ news ++ told)

  -- what is first costs more than is left
  pub record IsRunSpent (left : ℕ) (stands : Standing → Type 0) (was is : Option (List Moment)) : Type 0 where
    pub next : State
    pub news : List Moment
    pub comes_out : outcome capture before s ≡ spent next
    pub told_is : next.told ≡ news ++ s.told
    pub stands_so : stands (standing next)
    pub left_is : next.left ≡ left
    pub tells : TellsOn was is (λ told more. more ≡ news ++ told)

  -- what is first asks for what is not there
  pub record IsRunLacking (left : ℕ) (stands : Standing → Type 0) (was is : Option (List Moment)) : Type 0 where
    pub next : State
    pub news : List Moment
    pub comes_out : outcome capture before s ≡ lacking next
    pub told_is : next.told ≡ news ++ s.told
    pub stands_so : stands (standing next)
    pub left_is : next.left ≡ left
    pub tells : TellsOn was is (λ told more. more ≡ news ++ told)

  -- Memory ran out: behind some moments, of which the watch was told all, or all but the last.
  pub record IsRunCut (stands : Standing → Type 0) (was is : Option (List Moment)) : Type 0 where
    pub rest : Act
    pub next : State
    pub news : List Moment
    pub last : List Moment
    pub few : AtMostOne last
    pub comes_out : outcome capture before s ≡ outcome capture rest next
    pub told_is : next.told ≡ last ++ (news ++ s.told)
    pub refused : IsInterrupted capture stands next
    pub tells : TellsOn was is (λ told more. (more ≡ news ++ told) ⊎ (more ≡ last ++ (news ++ told)))

abbrev pub RunsTo : {E : Type 0} → ScriptTree → (Task → Act) → Act → ℕ → (Standing → Type 0) → Option (List Moment) → Option (List Moment) → Capture → State → Result FlowNext E → Type 0
RunsTo script task before left stands was is capture s (Ok Finished) = IsRunOver capture before s finished left stands was is
RunsTo script task before left stands was is capture s (Ok (Raised o line)) = IsRunOver capture before s (uncaught o line) left stands was is
RunsTo script task before left stands was is capture s (Ok Spent) = IsRunSpent capture before s left stands was is
RunsTo script task before left stands was is capture s (Ok Unanswered) = IsRunLacking capture before s left stands was is
RunsTo script task before left stands was is capture s (Ok More) = ⊥
RunsTo script task before left stands was is capture s (Err want) = IsRunCut capture before s stands was is

-- The script comes out so in each state for which the doer stood, with so many steps left.
abbrev pub Runs : {E : Type 0} → ScriptTree → ℕ → ℕ → Fits → Stands → Stands → Option (List Moment) → Option (List Moment) → Result FlowNext E → Type 0
Runs script left rest fits stood stands was is result = ForEach fits stood (λ table capture s. s.left ≡ left
    → RunsTo script (level script (suc left)) (meaning script left) rest (stands table capture) was is capture s result)
