use Rattle.std.proofs.Common.{sym, subst}
use Rattle.interp_eval.specs.Held.{AreAllNamed}
use Rattle.interp_flow.proofs.calling.fail_whole.Goals as goal

pub returns-clause-held : goal.returns-clause-held
returns-clause-held c = λ table old named arguments. c.fail_call.ensures.held table old named (subst (AreAllNamed table) (sym c.as_slice.ensures) arguments)
