-- No public clause cites this file.
-- What is raised, in parts.
use Rattle.std.specs.Prelude.{ℕ, [], Option, Some, None, codes}
use Rattle.prov_base.specs.declared.place.Pos.{Pos}
use Rattle.py_model.specs.Classes.{end_of_chain, method_of_class}
use Rattle.py_model.specs.Faults.{wrong_kind, not_there}
use Rattle.py_model.specs.Plan.{Plan, raises, raises_again}
use Rattle.py_value.specs.Contents.{Contents}

-- an instance of a class is raised again
abbrev pub again : ℕ → Option ℕ → Plan
again o end = elim end [ None ↦ wrong_kind | Some number ↦ raises_again o ]

abbrev pub instance_raised : ℕ → Contents → Plan
instance_raised o of = end_of_chain of (λ end. again o end)

-- an exception of a class is made without arguments and raised
abbrev pub bare_raised : Contents → Plan
bare_raised of = end_of_chain of (λ end. raises of [])

abbrev pub behind_init : Contents → Option Pos → Plan
behind_init of method = elim method [ None ↦ bare_raised of | Some at ↦ not_there ]

abbrev pub class_raised : Contents → Plan
class_raised of = method_of_class (codes "__init__") of (λ method. behind_init of method)

-- a class is raised
abbrev pub if_exception : Contents → Option ℕ → Plan
if_exception of end = elim end [ None ↦ wrong_kind | Some number ↦ class_raised of ]
