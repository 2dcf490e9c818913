use Rattle.std.proofs.Common.{ap, refl}
use Rattle.py_model.specs.Act.{close, ending}
use Rattle.py_model.specs.Meaning.{level}
use Rattle.flow_frames.specs.Seen.{end_seen, here_seen}
use Rattle.flow_frames.specs.declared.frames.Waits.TheVariants.{Stmt as StmtWaits}
use Rattle.flow_values.specs.Step.{handed}
use Rattle.flow_values.proofs.Fronts.{goes_on}
use Rattle.flow_values.proofs.Stepping.{closed_on, not_told}
use Rattle.interp_flow.proofs.step.close_step.Goals as goal

pub returns-in-Err-clause-step : goal.returns-in-Err-clause-step
returns-in-Err-clause-step g c = λ script table capture fit s stands steps n enough.
    let before = handed script c.args.frames.now (StmtWaits c.args.number c.args.rest) c.args.end table (level script n) in
    not_told capture before before s c.args.left c.args.left (g.D.Doer.stands c.close.new.doer table capture)
    (g.W.Watch.history c.args.watch.now) (g.W.Watch.history c.close.new.watch) (c.in-Err.ensures.closed table table capture fit s stands)

pub returns-in-Ok-clause-step : goal.returns-in-Ok-clause-step
returns-in-Ok-clause-step g c = λ script table capture fit s stands steps n enough.
    closed_on capture (handed script c.args.frames.now (StmtWaits c.args.number c.args.rest) c.args.end table (level script n)) _ s c.args.left c.args.left (g.D.Doer.stands c.close.new.doer table capture)
    (g.W.Watch.history c.args.watch.now) (g.W.Watch.history c.close.new.watch) c.args.number (ending (end_seen table c.args.end))
    (ap (close c.args.number (ending (end_seen table c.args.end)))
    (goes_on script (level script n) table c.args.frames.now (record c.args.frames.now { now = c.rest_after.result }) _ (c.rest_after.ensures.means script (level script n) (here_seen script table c.args.frames.now.spot) table) refl))
    steps (c.in-Ok.ensures.closed table table capture fit s stands)

pub returns-in-Ok-clause-held : goal.returns-in-Ok-clause-held
returns-in-Ok-clause-held g c = λ table capture fit.
    let before = c.in-Ok.ensures.knew table capture fit in
    let old = c.requires.held table capture before in
    record { spot = old.spot; now = c.rest_after.ensures.held table c.args.frames.now.spot.scope (c.requires.end table capture before); below = old.below }
