-- What performing one operation comes to, and making its words.
use Rattle.std.specs.Prelude.{◌≡◌, ℕ, List, ◌∷◌, map, Option, Result, Ok, Err}
use Rattle.prov_base.specs.declared.place.Pos.{Pos}
use Rattle.py_tree.specs.Tree.{ScriptTree}
use Rattle.py_value.specs.Contents.{contents}
use Rattle.py_value.specs.Values.{ValuesView, AreNamed}
use Rattle.py_value.specs.declared.value.Value.{Value}
use Rattle.py_model.specs.Act.{Walked}
use Rattle.py_model.specs.Capture.{Capture}
use Rattle.py_model.specs.Doing.{Standing, standing, Fits, Stands, ForEach, IsRefused}
use Rattle.py_model.specs.Expressions.{Here}
use Rattle.py_model.specs.Moment.{Moment}
use Rattle.py_model.specs.Running.{State, operation, did, too_dear, lacked}
use Rattle.py_model.specs.Told.{answer_seen, op_seen, TellsOn, IsNamedAnswer}
use Rattle.py_model.specs.declared.moment.Answer.{Answer}
use Rattle.py_model.specs.declared.moment.Op.{Op}
use Rattle.interp_eval.specs.declared.frames.Scope.{Scope}
use Rattle.interp_eval.specs.declared.performing.Came.{Came}
use Rattle.interp_eval.specs.declared.performing.Came.TheVariants.{Did, TooDear, Unanswered}
use Rattle.interp_eval.specs.declared.turn.Want.{Want}
use Rattle.interp_eval.specs.Machine.{wanted_op}
use Rattle.interp_eval.specs.Scopes.{IsAt}
use Rattle.interp_eval.specs.Turns.{want_seen}

-- a doer stands for some state, by each table and capture that fit it
abbrev pub HasState : Fits → Stands → Type 0
HasState fits stands = (table : ValuesView) (capture : Capture) → fits table capture → (s : Standing) × stands table capture s

abbrev pub AreNamedBy : Fits → List Value → Type 0
AreNamedBy fits values = (table : ValuesView) (capture : Capture) → fits table capture → AreNamed table values

-- an operation with its words, as the meaning names it at each place that the scope says
pub record IsOp (script : ScriptTree) (scope : Scope) (number : ℕ) (want : Want) (op : Op) (after : Standing → Type 0) (table : ValuesView) (s : State) : Type 0 where
  pub means : (here : Here) → IsAt script scope here → op_seen table op ≡ wanted_op here number (want_seen table want)
  pub stands : after (standing s)

abbrev pub MakesOp : {E : Type 0} → ScriptTree → Scope → ℕ → Want → Fits → Stands → Stands → Result Op E → Type 0
MakesOp script scope number want fits before after (Ok op) = (op.no ≡ number) × ForEach fits before (λ table capture s. IsOp script scope number want op (after table capture) table s)
MakesOp script scope number want fits before after (Err refused) = ForEach fits before (λ table capture s. after table capture (standing s))

-- the operation happened, its cost is paid, and the watch was told this moment
pub record HasHappened (at : Pos) (op : Op) (values : List Value) (answer : Answer) (method : Option Pos) (left : ℕ) (after : Standing → Type 0) (was is : Option (List Moment)) (table : ValuesView) (capture : Capture) (s : State) : Type 0 where
  pub next : State
  pub came : Walked
  pub moment : Moment
  pub happened : operation capture at (op_seen table op) (map (contents table) values) s ≡ did (answer_seen table answer) came next
  pub method_is : came.method ≡ method
  pub told_is : next.told ≡ moment ∷ s.told
  pub left_is : next.left ≡ left
  pub stands : after (standing next)
  pub tells : TellsOn was is (λ told more. more ≡ moment ∷ told)
  pub named : IsNamedAnswer table answer

pub record WasTooDear (at : Pos) (op : Op) (values : List Value) (left : ℕ) (after : Standing → Type 0) (was is : Option (List Moment)) (table : ValuesView) (capture : Capture) (s : State) : Type 0 where
  pub next : State
  pub happened : operation capture at (op_seen table op) (map (contents table) values) s ≡ too_dear next
  pub stands : after (standing next)
  pub left_is : next.left ≡ left
  pub told_is : next.told ≡ s.told
  pub tells : is ≡ was

pub record WasLacking (at : Pos) (op : Op) (values : List Value) (left : ℕ) (after : Standing → Type 0) (was is : Option (List Moment)) (table : ValuesView) (capture : Capture) (s : State) : Type 0 where
  pub next : State
  pub happened : operation capture at (op_seen table op) (map (contents table) values) s ≡ lacked next
  pub stands : after (standing next)
  pub left_is : next.left ≡ left
  pub told_is : next.told ≡ s.told
  pub tells : is ≡ was

-- Out of memory: nothing happened but what was asked, or the operation happened and the watch was not told.
pub data WasCut (at : Pos) (op : Op) (values : List Value) (after : Standing → Type 0) (was is : Option (List Moment)) (table : ValuesView) (capture : Capture) (s : State) : Type 0 where
  nothing_happened : IsRefused capture at (op_seen table op) (map (contents table) values) after s → is ≡ was → WasCut at op values after was is table capture s
  not_told : (answer : Answer) (came : Walked) (next : State) (moment : Moment) → next.told ≡ moment ∷ s.told → operation capture at (op_seen table op) (map (contents table) values) s ≡ did (answer_seen table answer) came next
      → after (standing next) → TellsOn was is (λ told more. more ≡ told) → WasCut at op values after was is table capture s

abbrev pub HasPerformed : {E : Type 0} → Pos → Op → List Value → ℕ → ℕ → Fits → Stands → Stands → Option (List Moment) → Option (List Moment) → Result Came E → Type 0
HasPerformed at op values left rest fits before after was is (Ok (Did answer method)) =
    ForEach fits before (λ table capture s. s.left ≡ left → HasHappened at op values answer method rest (after table capture) was is table capture s)
HasPerformed at op values left rest fits before after was is (Ok TooDear) =
    ForEach fits before (λ table capture s. s.left ≡ left → WasTooDear at op values rest (after table capture) was is table capture s)
HasPerformed at op values left rest fits before after was is (Ok Unanswered) =
    ForEach fits before (λ table capture s. s.left ≡ left → WasLacking at op values rest (after table capture) was is table capture s)
HasPerformed at op values left rest fits before after was is (Err want) =
    ForEach fits before (λ table capture s. s.left ≡ left → WasCut at op values (after table capture) was is table capture s)
