use Rattle.std.proofs.Common.{◌≡◌, take}
use Rattle.row_checks.specs.Going.{IsReady, earlier_of}
use Rattle.row_checks.specs.KeptRows.{earlier_in}
use Rattle.row_checks.proofs.KeptFronts.{KeptTo}
use Rattle.row_checks.proofs.unkept.first_refused.Given as goal

abbrev pub invariant-loop-i : goal.invariant-loop-i
invariant-loop-i l =
    IsReady l.seen
    × (earlier_of l.seen ≡ earlier_in l.initial.seen.counts.statements (take l.i l.rows))
    × KeptTo l.initial.seen.counts.statements l.rows l.i
