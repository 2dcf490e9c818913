use Rattle.op_state.proofs.KeptHolds.{begins}
use Rattle.op_state.proofs.beginning.begin.Goals as goal

pub returns : goal.returns
returns c = begins _ c.args.left c.begin.result c.requires c.begin.ensures.begun c.begin.ensures.dear
