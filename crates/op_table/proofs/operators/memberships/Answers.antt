use Rattle.std.proofs.Common.{refl}
use Rattle.op_table.proofs.Numbered.{at_number, ends_missing}
use Rattle.op_table.specs.Table.{planned}
use Rattle.op_table.proofs.operators.memberships.Goals as goal

pub returns-in-18 : goal.returns-in-18
returns-in-18 c = at_number 18 c.args.op c.args.operands.now c.in-18.is (λ table. refl) c.is_in.ensures

pub returns-in-19 : goal.returns-in-19
returns-in-19 c = at_number 19 c.args.op c.args.operands.now c.in-19.is (λ table. refl) c.not_in.ensures

pub returns-in-20 : goal.returns-in-20
returns-in-20 c = at_number 20 c.args.op c.args.operands.now c.in-20.is (λ table. refl) c.is.ensures

pub returns-in-21 : goal.returns-in-21
returns-in-21 c = at_number 21 c.args.op c.args.operands.now c.in-21.is (λ table. refl) c.is_not.ensures

pub returns-in-22 : goal.returns-in-22
returns-in-22 c = at_number 22 c.args.op c.args.operands.now c.in-22.is (λ table. refl) c.iadd.ensures

pub returns-in_default : goal.returns-in_default
returns-in_default c = ends_missing (planned c.args.op c.args.operands.now) c.args.work.now c.missing.result c.missing.ensures
