-- The moments of a run (this project's profile): a statement begins and ends, an operation is done, an activation is entered and left.
use Rattle.std.specs.Prelude.{ℕ, List, [], ◌∷◌}
use Rattle.prov_base.specs.declared.place.Pos.{Pos}
use Rattle.py_value.specs.Contents.{Contents}
use Rattle.py_value.specs.Seen.{SeenAccess, SeenKind, var_at, var_is, sets}
use Rattle.std.specs.Prelude.{Option, Some}
use Rattle.py_model.specs.Plan.{Answer}

-- how a statement ended
pub data Ending : Type 0 where
  normal_end : Ending
  break_end : Ending
  continue_end : Ending
  return_end : Ending
  raise_end : Ending

-- `begins` and `ends` name a statement by its number. `does` has the place, the number of the operation, its operand values, its
-- answer, the kind of the object that it made, its accesses and its weight. `enters` has the place of the call, the place of the
-- function, the values of its parameters, and a Set of each. `leaves` has the value of the activation: that of its `return`, or None.
pub data Moment : Type 0 where
  begins : ℕ → Moment
  does : Pos → ℕ → List Contents → Answer → Option SeenKind → List SeenAccess → ℕ → Moment
  enters : Pos → Pos → List Contents → List SeenAccess → Moment
  leaves : Contents → Moment
  ends : ℕ → Ending → Moment

-- the parameters of an activation are set, one after the other
abbrev pub parameters_set : ℕ → List (List ℕ) → List Contents → List SeenAccess
parameters_set activation (name ∷ names) (v ∷ values) = sets (var_at activation name) (var_is (Some v)) ∷ parameters_set activation names values
parameters_set activation names values = []
