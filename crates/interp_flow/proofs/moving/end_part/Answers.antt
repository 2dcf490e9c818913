use Rattle.std.proofs.Common.{refl}
use Rattle.flow_frames.specs.Seen.{here_seen}
use Rattle.flow_values.proofs.Fronts.{goes_on}
use Rattle.interp_flow.proofs.moving.end_part.Goals as goal

pub returns-clause-means : goal.returns-clause-means
returns-clause-means c = λ script next table.
    goes_on script next table c.args.frames.now (record c.args.frames.now { now = c.in_ok-now.now }) _ (c.in_ok-now.ensures.means script next (here_seen script table c.args.frames.now.spot) table) refl

pub returns-clause-held : goal.returns-clause-held
returns-clause-held c = λ table old stage end. record { spot = old.spot; now = c.in_ok-now.ensures.held table c.args.frames.now.spot.scope stage end; below = old.below }
