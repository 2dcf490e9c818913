-- What an operation comes to, with what its walks came to.
use Rattle.std.specs.Prelude.{◌≡◌, ◌∷◌, ℕ, Bool, true, false, List, map, Option, Result, Ok, Err}
use Rattle.prov_base.specs.declared.place.Pos.{Pos}
use Rattle.py_value.specs.Contents.{contents}
use Rattle.py_value.specs.Values.{ValuesView}
use Rattle.py_value.specs.declared.access.Access.{Access}
use Rattle.py_value.specs.declared.access.Access.TheVariants.{Set}
use Rattle.py_value.specs.declared.access.Location.{Location}
use Rattle.py_value.specs.declared.access.Location.TheVariants.{Entry}
use Rattle.py_value.specs.declared.value.Value.{Value}
use Rattle.py_model.specs.Act.{Walked}
use Rattle.py_model.specs.Capture.{Capture}
use Rattle.py_model.specs.Doing.{Standing, standing, Fits, Stands, ForEach}
use Rattle.py_model.specs.Moment.{Moment}
use Rattle.py_model.specs.Running.{State, did, operation}
use Rattle.py_model.specs.Told.{answer_seen, op_seen, TellsOn, IsNamedAnswer}
use Rattle.py_model.specs.declared.moment.Answer.{Answer}
use Rattle.py_model.specs.declared.moment.Op.{Op}
use Rattle.interp_eval.specs.Performing.{WasTooDear, WasLacking, WasCut}
use Rattle.flow_calls.specs.declared.walking.Walk.{Walk}
use Rattle.flow_calls.specs.declared.walking.Walk.TheVariants.{Did, TooDear, Unanswered}

abbrev pub is_attribute : Location → Bool
is_attribute (Entry o key) = true
is_attribute place = false

abbrev pub sets_attribute : Access → Bool
sets_attribute (Set place content) = is_attribute place
sets_attribute access = false

-- the operation happened, its cost is paid, the watch was told this moment, and its walks came to this
pub record WalkedSo (at : Pos) (op : Op) (values : List Value) (answer : Answer) (method : Option Pos) (has_set : Bool) (left : ℕ) (after : Standing → Type 0) (was is : Option (List Moment)) (table : ValuesView) (capture : Capture)
    (s : State) : Type 0 where
  pub next : State
  pub came : Walked
  pub moment : Moment
  pub happened : operation capture at (op_seen table op) (map (contents table) values) s ≡ did (answer_seen table answer) came next
  pub method_is : came.method ≡ method
  pub exception_is : came.is_exception ≡ has_set
  pub told_is : next.told ≡ moment ∷ s.told
  pub left_is : next.left ≡ left
  pub stands : after (standing next)
  pub tells : TellsOn was is (λ told more. more ≡ moment ∷ told)
  pub named : IsNamedAnswer table answer

abbrev pub HasWalked : {E : Type 0} → Pos → Op → List Value → ℕ → ℕ → Fits → Stands → Stands → Option (List Moment) → Option (List Moment) → Result Walk E → Type 0
HasWalked at op values left rest fits before after was is (Ok (Did answer method has_set)) =
    ForEach fits before (λ table capture s. s.left ≡ left → WalkedSo at op values answer method has_set rest (after table capture) was is table capture s)
HasWalked at op values left rest fits before after was is (Ok TooDear) =
    ForEach fits before (λ table capture s. s.left ≡ left → WasTooDear at op values rest (after table capture) was is table capture s)
HasWalked at op values left rest fits before after was is (Ok Unanswered) =
    ForEach fits before (λ table capture s. s.left ≡ left → WasLacking at op values rest (after table capture) was is table capture s)
HasWalked at op values left rest fits before after was is (Err want) =
    ForEach fits before (λ table capture s. s.left ≡ left → WasCut at op values (after table capture) was is table capture s)
