use Rattle.std.proofs.Common.{◌∙◌, arith}
use Rattle.graph_texts.proofs.Naturals.{natural_is}
use Rattle.graph_texts.proofs.words.natural.Goals as goal

pub returns : goal.returns
returns c = c.in_ok-made.ensures ∙ natural_is c.args.n (omega (arith, c.ranges.n))
