use Rattle.std.proofs.Common.{◌≡◌, drop}
use Rattle.py_value.specs.declared.access.Location.{Location}
use Rattle.feedings.specs.Marks.{flag_at, after_all}
use Rattle.feedings.proofs.flags.note_all.Given as goal

abbrev pub invariant-loop-access : goal.invariant-loop-access
invariant-loop-access l = (at : Location)
    → after_all l.flag at (drop l.access-index l.accesses) (flag_at l.flags.entries at) ≡ after_all l.flag at l.accesses (flag_at l.fn.flags.entries at)
