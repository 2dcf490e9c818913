use Rattle.std.proofs.Common.{refl}
use Rattle.op_table.proofs.Numbered.{at_number, ends_missing}
use Rattle.op_table.specs.Table.{planned}
use Rattle.op_table.proofs.functions.first_functions.Goals as goal

pub returns-in-50 : goal.returns-in-50
returns-in-50 c = at_number 50 c.args.op c.args.operands.now c.in-50.is (λ table. refl) c.abs.ensures

pub returns-in-51 : goal.returns-in-51
returns-in-51 c = at_number 51 c.args.op c.args.operands.now c.in-51.is (λ table. refl) c.truth.ensures

pub returns-in-52 : goal.returns-in-52
returns-in-52 c = at_number 52 c.args.op c.args.operands.now c.in-52.is (λ table. refl) c.chr.ensures

pub returns-in-53 : goal.returns-in-53
returns-in-53 c = at_number 53 c.args.op c.args.operands.now c.in-53.is (λ table. refl) c.dict_builtin.ensures

pub returns-in-54 : goal.returns-in-54
returns-in-54 c = at_number 54 c.args.op c.args.operands.now c.in-54.is (λ table. refl) c.enumerate.ensures

pub returns-in-56 : goal.returns-in-56
returns-in-56 c = at_number 56 c.args.op c.args.operands.now c.in-56.is (λ table. refl) c.int.ensures

pub returns-in-58 : goal.returns-in-58
returns-in-58 c = at_number 58 c.args.op c.args.operands.now c.in-58.is (λ table. refl) c.len.ensures

pub returns-in-59 : goal.returns-in-59
returns-in-59 c = at_number 59 c.args.op c.args.operands.now c.in-59.is (λ table. refl) c.list_builtin.ensures

pub returns-in-60 : goal.returns-in-60
returns-in-60 c = at_number 60 c.args.op c.args.operands.now c.in-60.is (λ table. refl) c.max.ensures

pub returns-in_default : goal.returns-in_default
returns-in_default c = ends_missing (planned c.args.op c.args.operands.now) c.args.work.now c.missing.result c.missing.ensures
