use Rattle.std.proofs.Common.{◌∙◌}
use Rattle.op_texts.proofs.Fronts.{begins_is}
use Rattle.op_compare.proofs.in_texts.begins_with.Goals as goal

pub returns : goal.returns
returns c = c.starts_with.ensures.value ∙ begins_is c.args.bytes.now c.args.first.now
