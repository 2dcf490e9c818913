use Rattle.std.proofs.Common.{◌≡◌, ◌++◌, drop, map}
use Rattle.row_checks.specs.KeptRows.{tuples_in}
use Rattle.row_moments.proofs.tuples.tuples_of.Given as goal

abbrev pub invariant-loop-row : goal.invariant-loop-row
invariant-loop-row l = map (λ k. k.now) l.tuples.items ++ tuples_in (drop l.row-index l.rows) ≡ tuples_in l.rows
