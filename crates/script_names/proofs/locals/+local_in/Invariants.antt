use Rattle.std.proofs.Common.{◌≡◌, drop}
use Rattle.py_tree.specs.Erasure.{suite_of}
use Rattle.script_names.specs.Scopes.{local_in}
use Rattle.script_names.proofs.LocalWalks.{locals_left}
use Rattle.script_names.proofs.locals.+local_in.Given as goal

abbrev pub invariant-local_in-loop-stmt : goal.invariant-local_in-loop-stmt
invariant-local_in-loop-stmt l = locals_left l.number l.name (drop l.stmt-index l.stmt-items) ≡ local_in l.number l.name (suite_of l.suite)
