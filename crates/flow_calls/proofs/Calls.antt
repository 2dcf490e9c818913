-- Why a call of a function fails.
use Rattle.std.proofs.Common.{◌≡◌, ℕ, None, ap}
use Rattle.prov_base.specs.declared.place.Pos.{Pos}
use Rattle.py_tree.specs.Tree.{ScriptTree}
use Rattle.py_model.specs.Expressions.{calling_function}
use Rattle.py_tree.specs.Functions.{function_at}
use Rattle.flow_calls.specs.Choosing.{FailsFor}

pub none_fails : (script : ScriptTree) (place : Pos) (count open_so_far : ℕ) → function_at script place ≡ None → FailsFor script place count open_so_far 0
none_fails script place count open_so_far is next here at called values go is_open counted = ap (λ f. calling_function script next here at called f values go) is
