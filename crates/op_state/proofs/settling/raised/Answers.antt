use Rattle.std.proofs.Common.{subst, Err}
use Rattle.op_work.specs.Work.{Ends}
use Rattle.op_state.proofs.RaisedEnds.{ends_raised}
use Rattle.op_state.proofs.settling.raised.Goals as goal

pub returns-in-Raises-clause-ends : goal.returns-in-Raises-clause-ends
returns-in-Raises-clause-ends c = λ plan began ends. ends_raised plan c.in-Raises.class c.in-Raises.argument c.raise.result (subst (λ s. Ends plan began c.args.work.now (Err s)) c.in-Raises.is ends) c.raise.ensures
