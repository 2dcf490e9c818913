use Rattle.std.proofs.Common.{map}
use Rattle.py_value.specs.Contents.{contents}
use Rattle.op_table.specs.Table.{seen_as}
use Rattle.op_table.proofs.Numbered.{at_number, class_same}
use Rattle.op_table.proofs.wrapped.do_class.Goals as goal

pub returns : goal.returns
returns c = at_number 43 c.args.op c.args.operands.now c.requires.number (λ table. class_same (seen_as 43 table c.args.op) (map (contents table) c.args.operands.now)) c.class.ensures
