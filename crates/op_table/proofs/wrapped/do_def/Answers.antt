use Rattle.std.proofs.Common.{map}
use Rattle.py_value.specs.Contents.{contents}
use Rattle.op_table.specs.Table.{seen_as}
use Rattle.op_table.proofs.Numbered.{at_number, def_same}
use Rattle.op_table.proofs.wrapped.do_def.Goals as goal

pub returns : goal.returns
returns c = at_number 42 c.args.op c.args.operands.now c.requires.number (λ table. def_same (seen_as 42 table c.args.op) (map (contents table) c.args.operands.now)) c.def.ensures
