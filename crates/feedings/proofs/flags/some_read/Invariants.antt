use Rattle.std.proofs.Common.{◌≡◌, drop}
use Rattle.feedings.specs.Marks.{flag_at, reads_some}
use Rattle.feedings.proofs.flags.some_read.Given as goal

abbrev pub invariant-loop-access : goal.invariant-loop-access
invariant-loop-access l = reads_some (flag_at l.flags.entries) l.accesses ≡ reads_some (flag_at l.flags.entries) (drop l.access-index l.accesses)
