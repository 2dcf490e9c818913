use Rattle.op_state.proofs.Seeing.{holds_is_seen}
use Rattle.op_state.proofs.laws.holding_is_seen.Goals as goal

pub returns : goal.returns
returns c = holds_is_seen c.store_over_contents.ensures.held
