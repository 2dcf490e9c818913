use Rattle.std.proofs.Common.{refl}
use Rattle.op_table.proofs.Numbered.{at_number, ends_missing}
use Rattle.op_table.specs.Table.{planned}
use Rattle.op_table.proofs.operators.numbers.Goals as goal

pub returns-in-3 : goal.returns-in-3
returns-in-3 c = at_number 3 c.args.op c.args.operands.now c.in-3.is (λ table. refl) c.truth.ensures

pub returns-in-4 : goal.returns-in-4
returns-in-4 c = at_number 4 c.args.op c.args.operands.now c.in-4.is (λ table. refl) c.not.ensures

pub returns-in-5 : goal.returns-in-5
returns-in-5 c = at_number 5 c.args.op c.args.operands.now c.in-5.is (λ table. refl) c.neg.ensures

pub returns-in-6 : goal.returns-in-6
returns-in-6 c = at_number 6 c.args.op c.args.operands.now c.in-6.is (λ table. refl) c.pos.ensures

pub returns-in-7 : goal.returns-in-7
returns-in-7 c = at_number 7 c.args.op c.args.operands.now c.in-7.is (λ table. refl) c.add.ensures

pub returns-in-8 : goal.returns-in-8
returns-in-8 c = at_number 8 c.args.op c.args.operands.now c.in-8.is (λ table. refl) c.sub.ensures

pub returns-in-9 : goal.returns-in-9
returns-in-9 c = at_number 9 c.args.op c.args.operands.now c.in-9.is (λ table. refl) c.mul.ensures

pub returns-in-10 : goal.returns-in-10
returns-in-10 c = at_number 10 c.args.op c.args.operands.now c.in-10.is (λ table. refl) c.floor_div.ensures

pub returns-in-11 : goal.returns-in-11
returns-in-11 c = at_number 11 c.args.op c.args.operands.now c.in-11.is (λ table. refl) c.remainder.ensures

pub returns-in_default : goal.returns-in_default
returns-in_default c = ends_missing (planned c.args.op c.args.operands.now) c.args.work.now c.missing.result c.missing.ensures
