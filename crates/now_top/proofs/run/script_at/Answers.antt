use Rattle.std.proofs.Common.{refl}
use Rattle.now_top.proofs.run.script_at.Goals as goal

pub returns-in-Err-At-clause-refused : goal.returns-in-Err-At-clause-refused
returns-in-Err-At-clause-refused c = (c.in-Err-At.at, rw c.in-Err-At.field-0-is at c.in-Err-At.ensures.refused c.in-Err-At.at refl, refl)
