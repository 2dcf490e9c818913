-- What entering and leaving an activation comes to.
use Rattle.std.specs.Prelude.{◌≡◌, ◌<◌, ◌≤◌, ℕ, suc, List, ◌∷◌, map, length, Option, Some, None, Result, Ok, Err}
use Rattle.prov_base.specs.declared.place.Pos.{Pos}
use Rattle.py_value.specs.Contents.{contents}
use Rattle.py_value.specs.Values.{ValuesView}
use Rattle.py_value.specs.declared.value.Value.{Value}
use Rattle.py_model.specs.Doing.{Standing, standing, Fits, Stands, ForEach}
use Rattle.py_model.specs.Moment.{Moment, enters, leaves, parameters_set}
use Rattle.py_model.specs.Running.{State, entering}
use Rattle.py_model.specs.Told.{TellsOn}
use Rattle.flow_frames.specs.Telling.{WasTold, WasNotTold}

-- The next activation was entered: its cost is paid, the doer stands for the state afterwards, and the watch was told.
pub record WasEntered (at def : Pos) (names : List (List ℕ)) (values : List Value) (activation rest : ℕ) (after : Standing → Type 0) (was is : Option (List Moment)) (table : ValuesView) (s : State) : Type 0 where
  pub next_is : activation ≡ suc s.entered
  pub pays : suc (length values) ≤ s.left
  pub stands : after (standing (entering at def names (map (contents table) values) s))
  pub left_is : (entering at def names (map (contents table) values) s).left ≡ rest
  pub tells : TellsOn was is (λ told more. more ≡ enters at def (map (contents table) values) (parameters_set (suc s.entered) names (map (contents table) values)) ∷ told)

-- Out of memory: nothing was done, or the activation was entered and the watch was not told.
pub data WasCutOff (at def : Pos) (names : List (List ℕ)) (values : List Value) (after : Standing → Type 0) (was is : Option (List Moment)) (table : ValuesView) (s : State) : Type 0 where
  not_entered : after (standing s) → is ≡ was → WasCutOff at def names values after was is table s
  not_told : suc (length values) ≤ s.left → after (standing (entering at def names (map (contents table) values) s)) → TellsOn was is (λ told more. more ≡ told) → WasCutOff at def names values after was is table s

abbrev pub HasEntered : {E : Type 0} → Pos → Pos → List (List ℕ) → List Value → ℕ → ℕ → Fits → Stands → Stands → Option (List Moment) → Option (List Moment) → Result (Option ℕ) E → Type 0
HasEntered at def names values left rest fits before after was is (Ok (Some activation)) =
    ForEach fits before (λ table capture s. s.left ≡ left → WasEntered at def names values activation rest (after table capture) was is table s)
HasEntered at def names values left rest fits before after was is (Ok None) =
    (left < suc (length values)) × ((rest ≡ left) × ((is ≡ was) × ForEach fits before (λ table capture s. after table capture (standing s))))
HasEntered at def names values left rest fits before after was is (Err want) =
    ForEach fits before (λ table capture s. s.left ≡ left → WasCutOff at def names values (after table capture) was is table s)

-- an activation is left, which costs nothing
abbrev pub HasLeft : {T E : Type 0} → Value → Fits → Stands → Stands → Option (List Moment) → Option (List Moment) → Result T E → Type 0
HasLeft v fits before after was is (Ok done) = ForEach fits before (λ table capture s. WasTold (leaves (contents table v)) (after table capture) was is s)
HasLeft v fits before after was is (Err want) = ForEach fits before (λ table capture s. WasNotTold (after table capture) was is s)
