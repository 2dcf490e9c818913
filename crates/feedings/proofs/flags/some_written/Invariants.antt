use Rattle.std.proofs.Common.{◌≡◌, drop}
use Rattle.feedings.specs.Marks.{flag_at, writes_some}
use Rattle.feedings.proofs.flags.some_written.Given as goal

abbrev pub invariant-loop-access : goal.invariant-loop-access
invariant-loop-access l = writes_some (flag_at l.flags.entries) l.accesses ≡ writes_some (flag_at l.flags.entries) (drop l.access-index l.accesses)
