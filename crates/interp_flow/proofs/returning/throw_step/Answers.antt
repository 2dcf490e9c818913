use Rattle.py_value.specs.declared.value.Value.TheVariants.{None as NoneValue}
use Rattle.flow_values.specs.Value.{throwing}
use Rattle.flow_frames.specs.declared.control.End.TheVariants.{Threw}
use Rattle.flow_frames.specs.declared.control.Now.TheVariants.{Ended}
use Rattle.interp_flow.proofs.Returns.{thrown_from, throws_on, untold_from}
use Rattle.interp_flow.proofs.returning.throw_step.Goals as goal

pub returns-in-Err-clause-step : goal.returns-in-Err-clause-step
returns-in-Err-clause-step g c = λ script.
    untold_from script (throwing script c.args.frames.now c.args.o c.args.line) NoneValue c.args.frames.now c.args.left (g.D.Doer.fits c.leave.new.doer) (g.D.Doer.stands c.args.doer.now) (g.D.Doer.stands c.leave.new.doer)
    (g.W.Watch.history c.args.watch.now) (g.W.Watch.history c.leave.new.watch) _ c.in-Err.ensures.left

pub returns-in-Ok-clause-step : goal.returns-in-Ok-clause-step
returns-in-Ok-clause-step g c = λ script.
    thrown_from script c.args.frames.now (record c.args.frames.now { now = Ended (Threw c.args.o c.args.line) }) c.args.o c.args.line c.args.left (g.D.Doer.fits c.leave.new.doer) (g.D.Doer.stands c.args.doer.now) (g.D.Doer.stands c.leave.new.doer)
    (g.W.Watch.history c.args.watch.now) (g.W.Watch.history c.leave.new.watch) c.in-Ok.ensures.left (throws_on script c.args.frames.now c.args.o c.args.line)

pub returns-in-Ok-clause-held : goal.returns-in-Ok-clause-held
returns-in-Ok-clause-held g c = λ table capture fit.
    let old = c.requires.held table capture (c.in-Ok.ensures.knew table capture fit) in
    record { spot = old.spot; now = tt; below = old.below }
