use Rattle.std.proofs.Common.{refl, sym, ◌∙◌}
use Rattle.delivery.specs.Ending.{console_failed}
use Rattle.delivery.proofs.Finishing.{not_closed}
use Rattle.delivery.proofs.whole.close_failed.Goals as goal

pub returns-then-outlasts-clause-closes : goal.returns-then-outlasts-clause-closes
returns-then-outlasts-clause-closes g c = rw (sym c.outlasts.ensures ∙ c.if-outlasts.true) c.close.ensures.closes

pub returns-clause-closes : goal.returns-clause-closes
returns-clause-closes g c = rw (sym c.outlasts.ensures ∙ c.if-outlasts.false) (not_closed console_failed _ _ _ refl refl)
