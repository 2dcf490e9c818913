-- What is left of the handlers, in a walk over them.
use Rattle.std.proofs.Common.{ℕ, Bool, List, Option, map}
use Rattle.py_tree.specs.declared.expr.Expr.{Expr}
use Rattle.py_tree.specs.declared.stmt.Bound.{Bound}
use Rattle.py_tree.specs.declared.stmt.Suite.{Suite}
use Rattle.py_tree.specs.Erasure.{suite_of, handlers_list}
use Rattle.py_tree.specs.Binds.{handlers_bind}

abbrev pub handlers_left : List ℕ → List (Option Expr × Option Bound × Suite) → Bool
handlers_left name items = handlers_bind (handlers_list (map (λ h. (h.0, h.1, suite_of h.2)) items)) name
