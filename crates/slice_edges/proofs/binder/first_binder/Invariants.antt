use Rattle.std.proofs.Common.{◌≡◌, ◌<◌, ◌&&◌, ℕ, false}
use Rattle.py_tree.specs.Binds.{binds}
use Rattle.py_tree.specs.Erasure.{script_of}
use Rattle.slice_law.specs.Edges.{function_of_stmt}
use Rattle.slice_edges.specs.Binder.{is_inside}
use Rattle.slice_edges.proofs.binder.first_binder.Given as goal

-- no statement before this one does
abbrev pub invariant-loop-stmt : goal.invariant-loop-stmt
invariant-loop-stmt l = (s : ℕ) → s < l.stmt → (is_inside l.function (function_of_stmt (script_of l.script) s) && binds (script_of l.script) s l.name) ≡ false
