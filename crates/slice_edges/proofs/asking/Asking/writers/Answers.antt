use Rattle.std.proofs.Common.{ap, ◌∙◌}
use Rattle.slice_law.specs.Closed.{has}
use Rattle.slice_edges.proofs.asking.Asking.writers.Goals as goal

pub returns : goal.returns
returns c = λ view script told known named s. ap (has s) c.writers_at.ensures ∙ known.writers c.args.at.now named s
