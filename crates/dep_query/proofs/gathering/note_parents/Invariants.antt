use Rattle.std.proofs.Common.{◌≡◌, ◌||◌}
use Rattle.py_tree.specs.Erasure.{script_of}
use Rattle.dep_query.specs.declared.dependence.Dependence.{Dependence}
use Rattle.dep_query.specs.Noting.{is_found, some_parent}
use Rattle.dep_query.proofs.gathering.note_parents.Given as goal

abbrev pub invariant-loop-stmt : goal.invariant-loop-stmt
invariant-loop-stmt l = (d : Dependence) → is_found l.found.keys d ≡ (some_parent l.places (script_of l.script) l.stmt d || is_found l.fn.found.keys d)
