use Rattle.std.proofs.Common.{sym, subst, ◌∙◌}
use Rattle.slice_law.specs.Closed.{IsIn}
use Rattle.slice_edges.proofs.Noted.{noted_in}
use Rattle.slice_edges.proofs.asking.Asking.locations.Goals as goal

pub returns : goal.returns
returns c = λ view script told known l named s is.
    subst (λ keys. IsIn keys l) (sym (c.as_slice.ensures ∙ c.keys.ensures.rest)) (noted_in c.args.self.now.writers.entries l s (known.writers l named s ∙ is))
