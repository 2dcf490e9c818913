use Rattle.std.proofs.Common.{subst}
use Rattle.op_work.specs.Work.{Ends}
use Rattle.op_state.proofs.RaisedEnds.{settled_refusal}
use Rattle.op_state.proofs.settling.settle.Goals as goal

pub returns-in-Ok-raised-clause-settled : goal.returns-in-Ok-raised-clause-settled
returns-in-Ok-raised-clause-settled c = λ plan began ends. c.in-Ok-raised.ensures.ends plan began (subst (λ r. Ends plan began c.args.work.now r) c.in-Err.is ends)

pub returns-in-Err-raised-clause-settled : goal.returns-in-Err-raised-clause-settled
returns-in-Err-raised-clause-settled c = λ plan began ends. settled_refusal plan began c.raised.new.work c.in-Err-raised.stop c.refused.result c.refused.ensures
    (c.in-Err-raised.ensures.ends plan began (subst (λ r. Ends plan began c.args.work.now r) c.in-Err.is ends))
