use Rattle.std.proofs.Common.{◌-◌, length}
use Rattle.std.specs.Io.KnownBytes.{Keeps, prepend_known}
use Rattle.prov_real.proofs.lines.Unread.next_line.Given as goal

abbrev pub invariant-loop-line : goal.invariant-loop-line
invariant-loop-line g l = record {
  kept : Keeps (prepend_known l.initial.self (g.R.Read.remaining l.initial.source)) (prepend_known l.self (g.R.Read.remaining l.source));
}

abbrev pub decreases-loop-line : goal.decreases-loop-line
decreases-loop-line g l = 1048577 - length l.self
