use Rattle.std.proofs.Common.{refl}
use Rattle.op_table.proofs.Numbered.{at_number, ends_missing}
use Rattle.op_table.specs.Table.{planned}
use Rattle.op_table.proofs.naming.constants.Goals as goal

pub returns-in-2 : goal.returns-in-2
returns-in-2 c = at_number 2 c.args.op c.args.operands.now c.in-2.is (λ table. refl) c.give.ensures

pub returns-in_default : goal.returns-in_default
returns-in_default c = ends_missing (planned c.args.op c.args.operands.now) c.args.work.now c.missing.result c.missing.ensures
