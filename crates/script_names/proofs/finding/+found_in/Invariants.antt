use Rattle.std.proofs.Common.{◌≡◌, drop}
use Rattle.py_tree.specs.Erasure.{suite_of}
use Rattle.script_names.specs.Finding.{defs_in, first_def, key_test}
use Rattle.script_names.proofs.Defs.{defs_left}
use Rattle.script_names.proofs.finding.+found_in.Given as goal

abbrev pub invariant-found_in-loop-stmt : goal.invariant-found_in-loop-stmt
invariant-found_in-loop-stmt l = defs_left (key_test l.key) (drop l.stmt-index l.stmt-items) ≡ first_def (key_test l.key) (defs_in (suite_of l.suite))
