use Rattle.std.proofs.Common.{refl}
use Rattle.op_table.proofs.Numbered.{at_number, ends_missing}
use Rattle.op_table.specs.Table.{planned}
use Rattle.op_table.proofs.naming.names.Goals as goal

pub returns-in-36 : goal.returns-in-36
returns-in-36 c = at_number 36 c.args.op c.args.operands.now c.in-36.is (λ table. refl) c.iter.ensures

pub returns-in-37 : goal.returns-in-37
returns-in-37 c = at_number 37 c.args.op c.args.operands.now c.in-37.is (λ table. refl) c.next.ensures

pub returns-in_default : goal.returns-in_default
returns-in_default c = ends_missing (planned c.args.op c.args.operands.now) c.args.work.now c.missing.result c.missing.ensures
