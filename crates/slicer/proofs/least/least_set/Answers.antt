use Rattle.std.proofs.Common.{take, reverse}
use Rattle.row_checks.specs.KeptRows.{view_in}
use Rattle.row_moments.specs.Moments.{moments_by}
use Rattle.slicer.proofs.least.least_set.Goals as goal

pub returns-in-Ok-clause-least : goal.returns-in-Ok-clause-least
returns-in-Ok-clause-least c = λ path arguments files many.
    let view = view_in c.args.rows.now in
    record { upto = moments_by view (reverse (take c.in-Some.found.rows c.args.rows.now)); reached = c.in-Some.ensures.reached view; least = c.in-Ok.ensures.least path arguments files many }
