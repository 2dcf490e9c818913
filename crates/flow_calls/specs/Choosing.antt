-- What a call of a function comes to (this project's profile).
use Rattle.std.specs.Prelude.{◌≡◌, ◌∷◌, ◌<◌, ℕ, pos, List, length, Some}
use Rattle.prov_base.specs.declared.place.Pos.{Pos}
use Rattle.py_tree.specs.Tree.{ScriptTree}
use Rattle.py_value.specs.Contents.{Contents, int}
use Rattle.py_model.specs.Act.{Act}
use Rattle.py_model.specs.Expressions.{Here, Task, calling_function, failing}
use Rattle.py_tree.specs.Functions.{function_at}
use Rattle.script_names.specs.Scopes.{function_in}
use Rattle.script_names.specs.Finding.{found_function}
use Rattle.script_names.specs.declared.finding.Found.{Found}
use Rattle.flow_calls.specs.declared.choosing.Called.{Called}
use Rattle.flow_calls.specs.declared.choosing.Called.TheVariants.{Runs, Fails}

-- the function may be run: it is that at the place and with its number, with so many parameters, and one more activation may be open
pub record MayRun (script : ScriptTree) (place : Pos) (count open_so_far : ℕ) (f : Found) : Type 0 where
  pub is_there : function_at script place ≡ Some (found_function f)
  pub numbered : function_in script (Some f.number) ≡ Some (found_function f)
  pub counted : length f.params.now.list.items ≡ count
  pub room : open_so_far < 1000

-- the call fails for this reason, wherever so many activations are open
abbrev pub FailsFor : ScriptTree → Pos → ℕ → ℕ → ℕ → Type 0
FailsFor script place count open_so_far reason =
    (next : Task → Act) (here : Here) (at : Pos) (called : Contents) (values : List Contents) (go : Contents → Act) → here.open_activations ≡ open_so_far → length values ≡ count
    → calling_function script next here at called (function_at script place) values go ≡ failing here at (int (pos reason)) (called ∷ values)

abbrev pub IsCalledBy : ScriptTree → Pos → ℕ → ℕ → Called → Type 0
IsCalledBy script place count open_so_far (Runs f) = MayRun script place count open_so_far f
IsCalledBy script place count open_so_far (Fails reason) = FailsFor script place count open_so_far reason
