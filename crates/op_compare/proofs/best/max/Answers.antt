use Rattle.op_compare.proofs.best.max.Goals as goal

pub returns : goal.returns
returns c = c.best.ensures
