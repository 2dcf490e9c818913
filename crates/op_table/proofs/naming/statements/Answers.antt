use Rattle.std.proofs.Common.{refl}
use Rattle.op_table.proofs.Numbered.{at_number, ends_missing}
use Rattle.op_table.specs.Table.{planned}
use Rattle.op_table.proofs.naming.statements.Goals as goal

pub returns-in-47 : goal.returns-in-47
returns-in-47 c = at_number 47 c.args.op c.args.operands.now c.in-47.is (λ table. refl) c.assertion_failed.ensures

pub returns-in_default : goal.returns-in_default
returns-in_default c = ends_missing (planned c.args.op c.args.operands.now) c.args.work.now c.missing.result c.missing.ensures
