-- Where an expression is evaluated: the activation, and its function by the number of the `def` (this project's profile).
use Rattle.std.specs.Prelude.{◌≡◌}
use Rattle.py_tree.specs.Tree.{ScriptTree}
use Rattle.py_model.specs.Expressions.{Here}
use Rattle.script_names.specs.Scopes.{function_in}
use Rattle.interp_eval.specs.declared.frames.Scope.{Scope}

-- the scope says where an expression stands
pub record IsAt (script : ScriptTree) (scope : Scope) (here : Here) : Type 0 where
  pub activation_is : here.activation ≡ scope.activation
  pub function_is : here.function ≡ function_in script scope.function
