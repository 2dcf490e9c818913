use Rattle.std.proofs.Common.{◌≡◌, drop}
use Rattle.py_tree.specs.Erasure.{handlers_of}
use Rattle.py_tree.specs.Binds.{handlers_bind}
use Rattle.py_tree.proofs.BindsHandlers.{handlers_left}
use Rattle.script_names.proofs.locals.handlers_bind.Given as goal

abbrev pub invariant-loop-bound : goal.invariant-loop-bound
invariant-loop-bound l = handlers_left l.name (drop l.bound-index l.bound-items) ≡ handlers_bind (handlers_of l.handlers) l.name
