-- No public clause cites this file.
-- Whether two values are one, where it is said.
use Rattle.std.specs.Prelude.{Bool, true, false, ◌==◌, Option, Some, None}
use Rattle.prov_base.specs.contracts.place.PosPartialEq.TheImpl.{ghosts as places}
use Rattle.py_model.specs.Faults.{not_there}
use Rattle.py_model.specs.Plan.{Plan}
use Rattle.py_value.specs.Same.{same_truth}
use Rattle.py_value.specs.declared.value.Value.{Value}
use Rattle.py_value.specs.declared.value.Value.TheVariants.{None as NoneValue, Bool as TruthValue, Int, Text, Tuple, Range, Fn, Class, Exc, Builtin, Object}

-- of two integers, texts, tuples or ranges it is not
abbrev pub identity_of : Value → Value → Option Bool
identity_of (Int i) (Int j) = None
identity_of (Text a) (Text b) = None
identity_of (Tuple a) (Tuple b) = None
identity_of (Range a b c) (Range d e f) = None
identity_of NoneValue NoneValue = Some true
identity_of (TruthValue a) (TruthValue b) = Some (same_truth a b)
identity_of (Fn p) (Fn q) = Some (places.eq p q)
identity_of (Class p) (Class q) = Some (places.eq p q)
identity_of (Exc m) (Exc n) = Some (m == n)
identity_of (Builtin m) (Builtin n) = Some (m == n)
identity_of (Object m) (Object n) = Some (m == n)
identity_of v w = Some false

-- a plan that goes on where it is said
abbrev pub or_not_there : Option Bool → (Bool → Plan) → Plan
or_not_there (Some b) go = go b
or_not_there None go = not_there
