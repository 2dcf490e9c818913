use Rattle.op_state.proofs.KeptHolds.{paths_on}
use Rattle.op_state.proofs.held.Held.word.Goals as goal

pub invariant_of-self : goal.invariant_of-self
invariant_of-self c = paths_on c.number.ensures.extends c.self.inside.opened.items c.self.invariant
