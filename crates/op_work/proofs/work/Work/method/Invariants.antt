use Rattle.std.proofs.Common.{◌≡◌, None, drop}
use Rattle.op_work.specs.Finish.{last_method}
use Rattle.op_work.proofs.work.Work.method.Given as goal

abbrev pub invariant-loop-access : goal.invariant-loop-access
invariant-loop-access l = last_method l.self.store (drop l.access-index l.access-items) l.found ≡ last_method l.self.store l.self.touched None
