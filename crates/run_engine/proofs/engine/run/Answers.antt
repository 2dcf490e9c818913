use Rattle.std.proofs.Common.{arith, refl, ap, ◌∙◌, Ok}
use Rattle.py_tree.specs.Erasure.{script_of}
use Rattle.run_engine.proofs.Running.{begun, on, ends_ok, ends_err, stops, not_begun}
use Rattle.run_engine.proofs.engine.run.Goals as goal

pub loop-init : goal.loop-init
loop-init g c = (
  omega (arith),
  begun (script_of c.args.script.now) c.in-Ok.frames c.args.left.now (g.D.Doer.fits c.args.doer.now) (g.D.Doer.stands c.args.doer.now) (g.W.Watch.history c.args.watch.now)
      c.requires c.in-Ok.ensures.means c.in-Ok.ensures.held,
)

pub loop-preserved : goal.loop-preserved
loop-preserved g c = (
  c.if-left-steps.false,
  on (script_of c.args.script.now) c.loop.frames c.flow_step.new.frames c.args.left.now c.loop.left c.flow_step.new.left (g.D.Doer.fits c.args.doer.now) (g.D.Doer.fits c.loop.doer) (g.D.Doer.fits c.flow_step.new.doer)
      (g.D.Doer.stands c.args.doer.now) (g.D.Doer.stands c.loop.doer) (g.D.Doer.stands c.flow_step.new.doer) (g.W.Watch.history c.args.watch.now) (g.W.Watch.history c.loop.watch) (g.W.Watch.history c.flow_step.new.watch)
      c.loop.invariant.1 c.loop.invariant.0 c.flow_step.ensures.knew c.flow_step.result (c.in-Ok-flow_step.is ∙ ap Ok (c.if-not-goes_on.ensures.more refl)) c.flow_step.ensures.state c.flow_step.ensures.held c.flow_step.ensures.step,
)

pub returns-in-Err-clause-runs : goal.returns-in-Err-clause-runs
returns-in-Err-clause-runs g c = not_begun (script_of c.args.script.now) c.args.left.now c.args.left.now (g.D.Doer.fits c.args.doer.now) (g.D.Doer.stands c.args.doer.now) (g.W.Watch.history c.args.watch.now) _

pub flow_step-requires-clause-state : goal.flow_step-requires-clause-state
flow_step-requires-clause-state g c = c.loop.invariant.1.state

pub flow_step-requires-clause-held : goal.flow_step-requires-clause-held
flow_step-requires-clause-held g c = c.loop.invariant.1.held

pub returns-in-Err-flow_step-clause-knew : goal.returns-in-Err-flow_step-clause-knew
returns-in-Err-flow_step-clause-knew g c = λ table capture fit. c.loop.invariant.1.knew table capture (c.flow_step.ensures.knew table capture fit)

pub returns-in-Err-flow_step-clause-runs : goal.returns-in-Err-flow_step-clause-runs
returns-in-Err-flow_step-clause-runs g c = ends_err (script_of c.args.script.now) c.loop.frames c.flow_step.new.frames c.args.left.now c.loop.left c.flow_step.new.left (g.D.Doer.fits c.args.doer.now) (g.D.Doer.fits c.loop.doer) (g.D.Doer.fits c.flow_step.new.doer)
    (g.D.Doer.stands c.args.doer.now) (g.D.Doer.stands c.loop.doer) (g.D.Doer.stands c.flow_step.new.doer) (g.W.Watch.history c.args.watch.now) (g.W.Watch.history c.loop.watch) (g.W.Watch.history c.flow_step.new.watch)
    c.loop.invariant.1 c.loop.invariant.0 c.flow_step.ensures.knew c.flow_step.result c.in-Err-flow_step.refused c.in-Err-flow_step.is c.flow_step.ensures.step

pub returns-then-not-goes_on-clause-knew : goal.returns-then-not-goes_on-clause-knew
returns-then-not-goes_on-clause-knew g c = λ table capture fit. c.loop.invariant.1.knew table capture (c.flow_step.ensures.knew table capture fit)

pub returns-then-not-goes_on-clause-runs : goal.returns-then-not-goes_on-clause-runs
returns-then-not-goes_on-clause-runs g c = ends_ok (script_of c.args.script.now) c.loop.frames c.flow_step.new.frames c.args.left.now c.loop.left c.flow_step.new.left (g.D.Doer.fits c.args.doer.now) (g.D.Doer.fits c.loop.doer) (g.D.Doer.fits c.flow_step.new.doer)
    (g.D.Doer.stands c.args.doer.now) (g.D.Doer.stands c.loop.doer) (g.D.Doer.stands c.flow_step.new.doer) (g.W.Watch.history c.args.watch.now) (g.W.Watch.history c.loop.watch) (g.W.Watch.history c.flow_step.new.watch)
    c.loop.invariant.1 c.loop.invariant.0 c.flow_step.ensures.knew c.flow_step.result c.in-Ok-flow_step.next c.in-Ok-flow_step.is (c.if-not-goes_on.ensures.other refl) c.flow_step.ensures.step

pub returns-then-left-steps-clause-knew : goal.returns-then-left-steps-clause-knew
returns-then-left-steps-clause-knew g c = λ table capture fit. c.loop.invariant.1.knew table capture (c.flow_step.ensures.knew table capture fit)

pub returns-then-left-steps-clause-runs : goal.returns-then-left-steps-clause-runs
returns-then-left-steps-clause-runs g c = stops (script_of c.args.script.now) c.flow_step.new.frames c.args.left.now c.flow_step.new.left c.flow_step.new.left (g.D.Doer.fits c.args.doer.now) (g.D.Doer.fits c.flow_step.new.doer)
    (g.D.Doer.stands c.args.doer.now) (g.D.Doer.stands c.flow_step.new.doer) (g.W.Watch.history c.args.watch.now) (g.W.Watch.history c.flow_step.new.watch)
    (on (script_of c.args.script.now) c.loop.frames c.flow_step.new.frames c.args.left.now c.loop.left c.flow_step.new.left (g.D.Doer.fits c.args.doer.now) (g.D.Doer.fits c.loop.doer) (g.D.Doer.fits c.flow_step.new.doer)
    (g.D.Doer.stands c.args.doer.now) (g.D.Doer.stands c.loop.doer) (g.D.Doer.stands c.flow_step.new.doer) (g.W.Watch.history c.args.watch.now) (g.W.Watch.history c.loop.watch) (g.W.Watch.history c.flow_step.new.watch)
    c.loop.invariant.1 c.loop.invariant.0 c.flow_step.ensures.knew c.flow_step.result (c.in-Ok-flow_step.is ∙ ap Ok (c.if-not-goes_on.ensures.more refl)) c.flow_step.ensures.state c.flow_step.ensures.held c.flow_step.ensures.step) _

pub returns-clause-knew : goal.returns-clause-knew
returns-clause-knew g c = c.loop.invariant.1.knew

pub returns-clause-runs : goal.returns-clause-runs
returns-clause-runs g c = stops (script_of c.args.script.now) c.loop.frames c.args.left.now c.loop.left c.loop.left (g.D.Doer.fits c.args.doer.now) (g.D.Doer.fits c.loop.doer) (g.D.Doer.stands c.args.doer.now) (g.D.Doer.stands c.loop.doer)
    (g.W.Watch.history c.args.watch.now) (g.W.Watch.history c.loop.watch) c.loop.invariant.1 _
