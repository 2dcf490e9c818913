use Rattle.std.proofs.Common.{refl}
use Rattle.op_table.proofs.Numbered.{at_number, ends_missing}
use Rattle.op_table.specs.Table.{planned}
use Rattle.op_table.proofs.operators.comparisons.Goals as goal

pub returns-in-12 : goal.returns-in-12
returns-in-12 c = at_number 12 c.args.op c.args.operands.now c.in-12.is (λ table. refl) c.eq.ensures

pub returns-in-13 : goal.returns-in-13
returns-in-13 c = at_number 13 c.args.op c.args.operands.now c.in-13.is (λ table. refl) c.ne.ensures

pub returns-in-14 : goal.returns-in-14
returns-in-14 c = at_number 14 c.args.op c.args.operands.now c.in-14.is (λ table. refl) c.lt.ensures

pub returns-in-15 : goal.returns-in-15
returns-in-15 c = at_number 15 c.args.op c.args.operands.now c.in-15.is (λ table. refl) c.le.ensures

pub returns-in-16 : goal.returns-in-16
returns-in-16 c = at_number 16 c.args.op c.args.operands.now c.in-16.is (λ table. refl) c.gt.ensures

pub returns-in-17 : goal.returns-in-17
returns-in-17 c = at_number 17 c.args.op c.args.operands.now c.in-17.is (λ table. refl) c.ge.ensures

pub returns-in_default : goal.returns-in_default
returns-in_default c = ends_missing (planned c.args.op c.args.operands.now) c.args.work.now c.missing.result c.missing.ensures
