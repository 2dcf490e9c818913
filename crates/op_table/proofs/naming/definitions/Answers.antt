use Rattle.std.proofs.Common.{refl}
use Rattle.op_table.proofs.Numbered.{at_number, ends_missing}
use Rattle.op_table.specs.Table.{planned}
use Rattle.op_table.proofs.naming.definitions.Goals as goal

pub returns-in-39 : goal.returns-in-39
returns-in-39 c = at_number 39 c.args.op c.args.operands.now c.in-39.is (λ table. refl) c.make.ensures

pub returns-in_default : goal.returns-in_default
returns-in_default c = ends_missing (planned c.args.op c.args.operands.now) c.args.work.now c.missing.result c.missing.ensures
