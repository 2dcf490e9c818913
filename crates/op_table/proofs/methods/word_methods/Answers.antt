use Rattle.std.proofs.Common.{refl}
use Rattle.op_table.proofs.Numbered.{at_number, ends_missing}
use Rattle.op_table.specs.Table.{planned}
use Rattle.op_table.proofs.methods.word_methods.Goals as goal

pub returns-in-98 : goal.returns-in-98
returns-in-98 c = at_number 98 c.args.op c.args.operands.now c.in-98.is (λ table. refl) c.startswith.ensures

pub returns-in-99 : goal.returns-in-99
returns-in-99 c = at_number 99 c.args.op c.args.operands.now c.in-99.is (λ table. refl) c.endswith.ensures

pub returns-in-100 : goal.returns-in-100
returns-in-100 c = at_number 100 c.args.op c.args.operands.now c.in-100.is (λ table. refl) c.upper.ensures

pub returns-in-101 : goal.returns-in-101
returns-in-101 c = at_number 101 c.args.op c.args.operands.now c.in-101.is (λ table. refl) c.lower.ensures

pub returns-in-102 : goal.returns-in-102
returns-in-102 c = at_number 102 c.args.op c.args.operands.now c.in-102.is (λ table. refl) c.isdigit.ensures

pub returns-in-103 : goal.returns-in-103
returns-in-103 c = at_number 103 c.args.op c.args.operands.now c.in-103.is (λ table. refl) c.ljust.ensures

pub returns-in-104 : goal.returns-in-104
returns-in-104 c = at_number 104 c.args.op c.args.operands.now c.in-104.is (λ table. refl) c.rjust.ensures

pub returns-in-105 : goal.returns-in-105
returns-in-105 c = at_number 105 c.args.op c.args.operands.now c.in-105.is (λ table. refl) c.read.ensures

pub returns-in-106 : goal.returns-in-106
returns-in-106 c = at_number 106 c.args.op c.args.operands.now c.in-106.is (λ table. refl) c.readline.ensures

pub returns-in-107 : goal.returns-in-107
returns-in-107 c = at_number 107 c.args.op c.args.operands.now c.in-107.is (λ table. refl) c.write.ensures

pub returns-in-108 : goal.returns-in-108
returns-in-108 c = at_number 108 c.args.op c.args.operands.now c.in-108.is (λ table. refl) c.close.ensures

pub returns-in_default : goal.returns-in_default
returns-in_default c = ends_missing (planned c.args.op c.args.operands.now) c.args.work.now c.missing.result c.missing.ensures
