use Rattle.std.proofs.Common.{sym, ap, ◌∙◌, map}
use Rattle.py_value.specs.Contents.{contents}
use Rattle.py_model.specs.Lists.{unpack}
use Rattle.op_table.proofs.Numbered.{at_number, targets_is}
use Rattle.op_table.proofs.wrapped.do_unpack.Goals as goal

pub returns : goal.returns
returns c = at_number 35 c.args.op c.args.operands.now c.requires.number (λ table. ap (λ n. unpack n (map (contents table) c.args.operands.now)) (targets_is table c.args.op.value ∙ sym c.targets.ensures)) c.unpack.ensures
