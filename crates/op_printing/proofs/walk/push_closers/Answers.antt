use Rattle.op_printing.proofs.Walking.{adds_closer}
use Rattle.op_printing.proofs.walk.push_closers.Goals as goal

pub loop-preserved : goal.loop-preserved
loop-preserved c = adds_closer c.loop.counter c.loop.invariant c.in_ok-push_word.ensures
