use Rattle.std.proofs.Common.{◌∷◌, [], ap, ◌∙◌}
use Rattle.slice_law.specs.Closed.{has}
use Rattle.slice_edges.proofs.KnownLaws.{has_front}
use Rattle.slice_edges.proofs.stmts.Stmts.push.Goals as goal

pub invariant_of-self-2 : goal.invariant_of-self-2
invariant_of-self-2 c = λ s is. ap (has s) c.in_ok-push.ensures.items ∙ has_front c.self.inside.numbers.items (c.args.stmt ∷ []) s (c.self.invariant s is)
