use Rattle.std.proofs.Common.{◌≡◌, map}
use Rattle.op_state.specs.Entering.{set_parameters}
use Rattle.py_value.specs.Contents.{contents}
use Rattle.op_lists.proofs.Writing.{Writing}
use Rattle.op_state.proofs.ParameterWrites.{left}
use Rattle.op_state.proofs.entering.set_parameters.Given as goal

abbrev pub invariant-loop-name : goal.invariant-loop-name
invariant-loop-name l = Writing (λ table. set_parameters l.activation l.fn.names (map (contents table) l.values)) (left l.activation l.fn.names l.values l.name-index) l.initial.work l.work × (l.i ≡ l.name-index)
