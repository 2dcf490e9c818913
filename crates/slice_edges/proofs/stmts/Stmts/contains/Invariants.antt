use Rattle.std.proofs.Common.{◌≡◌, drop}
use Rattle.slice_law.specs.Closed.{has}
use Rattle.slice_edges.proofs.stmts.Stmts.contains.Given as goal

abbrev pub invariant-loop-number : goal.invariant-loop-number
invariant-loop-number l = has l.stmt (drop l.number-index l.number-items) ≡ has l.stmt l.number-items
