use Rattle.std.proofs.Common.{refl}
use Rattle.op_table.proofs.Numbered.{at_number, ends_missing}
use Rattle.op_table.specs.Table.{planned}
use Rattle.op_table.proofs.functions.last_functions.Goals as goal

pub returns-in-61 : goal.returns-in-61
returns-in-61 c = at_number 61 c.args.op c.args.operands.now c.in-61.is (λ table. refl) c.min.ensures

pub returns-in-63 : goal.returns-in-63
returns-in-63 c = at_number 63 c.args.op c.args.operands.now c.in-63.is (λ table. refl) c.ord.ensures

pub returns-in-64 : goal.returns-in-64
returns-in-64 c = at_number 64 c.args.op c.args.operands.now c.in-64.is (λ table. refl) c.print.ensures

pub returns-in-65 : goal.returns-in-65
returns-in-65 c = at_number 65 c.args.op c.args.operands.now c.in-65.is (λ table. refl) c.range.ensures

pub returns-in-66 : goal.returns-in-66
returns-in-66 c = at_number 66 c.args.op c.args.operands.now c.in-66.is (λ table. refl) c.repr.ensures

pub returns-in-67 : goal.returns-in-67
returns-in-67 c = at_number 67 c.args.op c.args.operands.now c.in-67.is (λ table. refl) c.sorted.ensures

pub returns-in-68 : goal.returns-in-68
returns-in-68 c = at_number 68 c.args.op c.args.operands.now c.in-68.is (λ table. refl) c.str.ensures

pub returns-in-69 : goal.returns-in-69
returns-in-69 c = at_number 69 c.args.op c.args.operands.now c.in-69.is (λ table. refl) c.sum.ensures

pub returns-in-70 : goal.returns-in-70
returns-in-70 c = at_number 70 c.args.op c.args.operands.now c.in-70.is (λ table. refl) c.tuple_builtin.ensures

pub returns-in-71 : goal.returns-in-71
returns-in-71 c = at_number 71 c.args.op c.args.operands.now c.in-71.is (λ table. refl) c.zip.ensures

pub returns-in_default : goal.returns-in_default
returns-in_default c = ends_missing (planned c.args.op c.args.operands.now) c.args.work.now c.missing.result c.missing.ensures
