use Rattle.std.proofs.Common.{◌≡◌, ◌++◌, drop, map}
use Rattle.row_checks.specs.KeptRows.{texts_in}
use Rattle.row_moments.proofs.texts.texts_of.Given as goal

abbrev pub invariant-loop-row : goal.invariant-loop-row
invariant-loop-row l = map (λ k. k.now) l.texts.items ++ texts_in (drop l.row-index l.rows) ≡ texts_in l.rows
