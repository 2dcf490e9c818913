use Rattle.std.proofs.Common.{◌≡◌, ◌≤◌, ◌+◌, length, drop}
use Rattle.op_state.specs.Paths.{with_numbers}
use Rattle.op_state.proofs.paths.add_all.Given as goal

abbrev pub invariant-loop-path : goal.invariant-loop-path
invariant-loop-path l = (with_numbers (drop l.path-index l.more) l.paths.items ≡ with_numbers l.more l.fn.paths.items) × (length l.paths.items + length (drop l.path-index l.more) ≤ l.paths.cap)
