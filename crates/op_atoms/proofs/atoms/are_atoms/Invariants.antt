use Rattle.std.proofs.Common.{◌≡◌, drop}
use Rattle.std.specs.List.{list_all}
use Rattle.op_atoms.specs.Atoms.{is_atom as is_atomic}
use Rattle.py_value.specs.Contents.{contents}
use Rattle.op_atoms.proofs.atoms.are_atoms.Given as goal

abbrev pub invariant-loop-v : goal.invariant-loop-v
invariant-loop-v l = list_all (λ v. is_atomic (contents l.values v)) (drop l.v-index l.operands) ≡ list_all (λ v. is_atomic (contents l.values v)) l.operands
