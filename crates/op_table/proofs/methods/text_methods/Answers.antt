use Rattle.std.proofs.Common.{refl}
use Rattle.op_table.proofs.Numbered.{at_number, ends_missing}
use Rattle.op_table.specs.Table.{planned}
use Rattle.op_table.proofs.methods.text_methods.Goals as goal

pub returns-in-91 : goal.returns-in-91
returns-in-91 c = at_number 91 c.args.op c.args.operands.now c.in-91.is (λ table. refl) c.strip.ensures

pub returns-in-92 : goal.returns-in-92
returns-in-92 c = at_number 92 c.args.op c.args.operands.now c.in-92.is (λ table. refl) c.lstrip.ensures

pub returns-in-93 : goal.returns-in-93
returns-in-93 c = at_number 93 c.args.op c.args.operands.now c.in-93.is (λ table. refl) c.rstrip.ensures

pub returns-in-94 : goal.returns-in-94
returns-in-94 c = at_number 94 c.args.op c.args.operands.now c.in-94.is (λ table. refl) c.split.ensures

pub returns-in-95 : goal.returns-in-95
returns-in-95 c = at_number 95 c.args.op c.args.operands.now c.in-95.is (λ table. refl) c.join.ensures

pub returns-in-96 : goal.returns-in-96
returns-in-96 c = at_number 96 c.args.op c.args.operands.now c.in-96.is (λ table. refl) c.replace.ensures

pub returns-in-97 : goal.returns-in-97
returns-in-97 c = at_number 97 c.args.op c.args.operands.now c.in-97.is (λ table. refl) c.find.ensures

pub returns-in_default : goal.returns-in_default
returns-in_default c = ends_missing (planned c.args.op c.args.operands.now) c.args.work.now c.missing.result c.missing.ensures
