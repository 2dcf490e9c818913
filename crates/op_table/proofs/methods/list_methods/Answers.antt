use Rattle.std.proofs.Common.{refl}
use Rattle.op_table.proofs.Numbered.{at_number, ends_missing}
use Rattle.op_table.specs.Table.{planned}
use Rattle.op_table.proofs.methods.list_methods.Goals as goal

pub returns-in-80 : goal.returns-in-80
returns-in-80 c = at_number 80 c.args.op c.args.operands.now c.in-80.is (λ table. refl) c.append.ensures

pub returns-in-81 : goal.returns-in-81
returns-in-81 c = at_number 81 c.args.op c.args.operands.now c.in-81.is (λ table. refl) c.extend.ensures

pub returns-in-82 : goal.returns-in-82
returns-in-82 c = at_number 82 c.args.op c.args.operands.now c.in-82.is (λ table. refl) c.insert.ensures

pub returns-in-83 : goal.returns-in-83
returns-in-83 c = at_number 83 c.args.op c.args.operands.now c.in-83.is (λ table. refl) c.pop.ensures

pub returns-in-84 : goal.returns-in-84
returns-in-84 c = at_number 84 c.args.op c.args.operands.now c.in-84.is (λ table. refl) c.index.ensures

pub returns-in-85 : goal.returns-in-85
returns-in-85 c = at_number 85 c.args.op c.args.operands.now c.in-85.is (λ table. refl) c.reverse.ensures

pub returns-in-86 : goal.returns-in-86
returns-in-86 c = at_number 86 c.args.op c.args.operands.now c.in-86.is (λ table. refl) c.sort.ensures

pub returns-in-87 : goal.returns-in-87
returns-in-87 c = at_number 87 c.args.op c.args.operands.now c.in-87.is (λ table. refl) c.get_method.ensures

pub returns-in-88 : goal.returns-in-88
returns-in-88 c = at_number 88 c.args.op c.args.operands.now c.in-88.is (λ table. refl) c.items.ensures

pub returns-in-89 : goal.returns-in-89
returns-in-89 c = at_number 89 c.args.op c.args.operands.now c.in-89.is (λ table. refl) c.keys.ensures

pub returns-in-90 : goal.returns-in-90
returns-in-90 c = at_number 90 c.args.op c.args.operands.now c.in-90.is (λ table. refl) c.values.ensures

pub returns-in_default : goal.returns-in_default
returns-in_default c = ends_missing (planned c.args.op c.args.operands.now) c.args.work.now c.missing.result c.missing.ensures
