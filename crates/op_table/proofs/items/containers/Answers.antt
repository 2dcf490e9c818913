use Rattle.std.proofs.Common.{refl}
use Rattle.op_table.proofs.Numbered.{at_number, ends_missing}
use Rattle.op_table.specs.Table.{planned}
use Rattle.op_table.proofs.items.containers.Goals as goal

pub returns-in-23 : goal.returns-in-23
returns-in-23 c = at_number 23 c.args.op c.args.operands.now c.in-23.is (λ table. refl) c.list_display.ensures

pub returns-in-24 : goal.returns-in-24
returns-in-24 c = at_number 24 c.args.op c.args.operands.now c.in-24.is (λ table. refl) c.dict_display.ensures

pub returns-in-25 : goal.returns-in-25
returns-in-25 c = at_number 25 c.args.op c.args.operands.now c.in-25.is (λ table. refl) c.tuple_display.ensures

pub returns-in-26 : goal.returns-in-26
returns-in-26 c = at_number 26 c.args.op c.args.operands.now c.in-26.is (λ table. refl) c.getitem.ensures

pub returns-in-27 : goal.returns-in-27
returns-in-27 c = at_number 27 c.args.op c.args.operands.now c.in-27.is (λ table. refl) c.slice.ensures

pub returns-in-28 : goal.returns-in-28
returns-in-28 c = at_number 28 c.args.op c.args.operands.now c.in-28.is (λ table. refl) c.setitem.ensures

pub returns-in-29 : goal.returns-in-29
returns-in-29 c = at_number 29 c.args.op c.args.operands.now c.in-29.is (λ table. refl) c.delitem.ensures

pub returns-in_default : goal.returns-in_default
returns-in_default c = ends_missing (planned c.args.op c.args.operands.now) c.args.work.now c.missing.result c.missing.ensures
