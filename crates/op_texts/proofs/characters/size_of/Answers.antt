use Rattle.std.proofs.Common.{sym, ◌∙◌}
use Rattle.op_texts.proofs.Counted.{size_behind}
use Rattle.op_texts.proofs.characters.size_of.Goals as goal

pub returns-clause-count : goal.returns-clause-count
returns-clause-count c = size_behind c.args.bytes.now c.begun.result (sym c.is_empty.ensures ∙ c.if-is_empty.false) c.begun.ensures.count
