-- What is still to be done in a run, as a tree of actions (this project's profile). The rules of the language give such trees and name
-- no state; one function runs them on a state.
use Rattle.std.specs.Prelude.{ℕ, Bool, List, Option}
use Rattle.prov_base.specs.declared.place.Pos.{Pos}
use Rattle.py_value.specs.Contents.{Contents}
use Rattle.py_model.specs.Moment.{Ending, normal_end, break_end, continue_end, return_end, raise_end}
use Rattle.py_model.specs.Operations.{Op}
use Rattle.py_model.specs.Plan.{Answer}

-- How a suite or a statement ended: normally, by a jump, or by an exception, with the line of the statement that raised it.
pub data How : Type 0 where
  normal : How
  broke : How
  continued : How
  returned : Contents → How
  threw : ℕ → ℕ → How

abbrev pub ending : How → Ending
ending normal = normal_end
ending broke = break_end
ending continued = continue_end
ending (returned v) = return_end
ending (threw o line) = raise_end

-- What the walks of an operation came to, beside its answer: the method that a method walk found, and whether what was made is an
-- exception.
pub record Walked : Type 0 where
  pub method : Option Pos
  pub is_exception : Bool

-- `ret` is the end, `stop` stands where no more turns and calls can be paid for. `perform` does an operation at a place and goes on with
-- its answer and with what its walks came to. `enter` goes on with the number of the activation.
pub data Act : Type 0 where
  ret : How → Act
  stop : Act
  perform : Pos → Op → List Contents → (Answer → Walked → Act) → Act
  begin : ℕ → Act → Act
  close : ℕ → Ending → Act → Act
  enter : Pos → Pos → List (List ℕ) → List Contents → (ℕ → Act) → Act
  leave : Contents → Act → Act

-- one tree of actions and then, by how it ended, another
abbrev pub to : Act → (How → Act) → Act
to (ret how) go = go how
to stop go = stop
to (perform at op values next) go = perform at op values (λ answer walked. to (next answer walked) go)
to (begin number rest) go = begin number (to rest go)
to (close number ended rest) go = close number ended (to rest go)
to (enter at def names values next) go = enter at def names values (λ activation. to (next activation) go)
to (leave v rest) go = leave v (to rest go)
