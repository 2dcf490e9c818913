-- What telling the begin and the end of a statement comes to.
use Rattle.std.specs.Prelude.{◌≡◌, ◌+◌, ℕ, List, ◌∷◌, Bool, true, false, Option, Result, Ok, Err}
use Rattle.py_model.specs.Doing.{Standing, standing, Fits, Stands, ForEach}
use Rattle.py_model.specs.Moment.{Moment, begins, Ending, ends}
use Rattle.py_model.specs.Running.{State}
use Rattle.py_model.specs.Told.{TellsOn}

-- the watch was told this moment, and the doer stands for the state as before
pub record WasTold (moment : Moment) (after : Standing → Type 0) (was is : Option (List Moment)) (s : State) : Type 0 where
  pub stands : after (standing s)
  pub tells : TellsOn was is (λ told more. more ≡ moment ∷ told)

-- out of memory: the watch was told nothing, and the doer stands for the state as before
pub record WasNotTold (after : Standing → Type 0) (was is : Option (List Moment)) (s : State) : Type 0 where
  pub stands : after (standing s)
  pub tells : TellsOn was is (λ told more. more ≡ told)

-- A statement begins where a step is left, which it costs. Where none is left, nothing is told.
abbrev pub HasBegun : {E : Type 0} → ℕ → ℕ → ℕ → Fits → Stands → Stands → Option (List Moment) → Option (List Moment) → Result Bool E → Type 0
HasBegun number left rest fits before after was is (Ok true) = (left ≡ 1 + rest) × ForEach fits before (λ table capture s. WasTold (begins number) (after table capture) was is s)
HasBegun number left rest fits before after was is (Ok false) = (left ≡ 0) × ((rest ≡ 0) × ((is ≡ was) × ForEach fits before (λ table capture s. after table capture (standing s))))
HasBegun number left rest fits before after was is (Err want) = ForEach fits before (λ table capture s. WasNotTold (after table capture) was is s)

-- a statement ends, which costs nothing
abbrev pub HasClosed : {T E : Type 0} → ℕ → Ending → Fits → Stands → Stands → Option (List Moment) → Option (List Moment) → Result T E → Type 0
HasClosed number ended fits before after was is (Ok done) = ForEach fits before (λ table capture s. WasTold (ends number ended) (after table capture) was is s)
HasClosed number ended fits before after was is (Err want) = ForEach fits before (λ table capture s. WasNotTold (after table capture) was is s)
