use Rattle.std.proofs.Common.{refl}
use Rattle.op_table.proofs.Numbered.{at_number}
use Rattle.op_table.proofs.wrapped.do_call_failed.Goals as goal

pub returns : goal.returns
returns c = at_number 38 c.args.op c.args.operands.now c.requires.number (λ table. refl) c.call_failed.ensures
