use Rattle.row_moments.specs.IndexKnows.{KnowsRows}
use Rattle.row_moments.proofs.index.Index.new.Given as goal

abbrev pub invariant-loop-row : goal.invariant-loop-row
invariant-loop-row l = KnowsRows l.script.count l.rows l.row-index l.index l.places
