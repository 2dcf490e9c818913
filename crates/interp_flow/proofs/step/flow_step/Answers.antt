use Rattle.std.proofs.Common.{ap, sym, subst}
use Rattle.py_tree.specs.Erasure.{script_of}
use Rattle.flow_frames.specs.Held.{IsHeldNow}
use Rattle.flow_values.specs.Step.{doing_now, meant}
use Rattle.flow_values.proofs.Stepping.{steps_same}
use Rattle.flow_values.proofs.Flowing.{flow_state}
use Rattle.interp_flow.proofs.step.flow_step.Goals as goal

pub now_step-requires-clause-held : goal.now_step-requires-clause-held
now_step-requires-clause-held g c = λ table capture fit.
    let old = c.requires.held table capture fit in
    record { spot = old.spot; now = subst (IsHeldNow table c.args.frames.now.spot.scope) (sym c.replace-now.ensures.after) tt; below = old.below }

pub now_step-requires-clause-now : goal.now_step-requires-clause-now
now_step-requires-clause-now g c = λ table capture fit. subst (IsHeldNow table c.args.frames.now.spot.scope) (sym c.replace-now.ensures.value) (c.requires.held table capture fit).now

pub returns-clause-state : goal.returns-clause-state
returns-clause-state g c =
    flow_state (script_of c.args.script.now) (doing_now (script_of c.args.script.now) c.args.frames.now c.replace-now.result) c.now_step.new.frames c.args.left.now c.now_step.new.left (g.D.Doer.fits c.args.doer.now) (g.D.Doer.fits c.now_step.new.doer)
    (g.D.Doer.stands c.args.doer.now) (g.D.Doer.stands c.now_step.new.doer) (g.W.Watch.history c.args.watch.now) (g.W.Watch.history c.now_step.new.watch) c.now_step.result c.now_step.ensures.knew c.requires.state c.now_step.ensures.step

pub returns-clause-step : goal.returns-clause-step
returns-clause-step g c =
    steps_same (script_of c.args.script.now) (meant (script_of c.args.script.now) c.args.frames.now) (doing_now (script_of c.args.script.now) c.args.frames.now c.replace-now.result) c.now_step.new.frames c.args.left.now c.now_step.new.left
    (g.D.Doer.fits c.now_step.new.doer) (g.D.Doer.stands c.args.doer.now) (g.D.Doer.stands c.now_step.new.doer) (g.W.Watch.history c.args.watch.now) (g.W.Watch.history c.now_step.new.watch) c.now_step.result
    (λ table next. ap (λ now. doing_now (script_of c.args.script.now) c.args.frames.now now table next) (sym c.replace-now.ensures.value)) c.now_step.ensures.step

pub returns-then-evaluates-clause-state : goal.returns-then-evaluates-clause-state
returns-then-evaluates-clause-state g c =
    flow_state (script_of c.args.script.now) (meant (script_of c.args.script.now) c.args.frames.now) c.expression_step.new.frames c.args.left.now c.expression_step.new.left (g.D.Doer.fits c.args.doer.now) (g.D.Doer.fits c.expression_step.new.doer)
    (g.D.Doer.stands c.args.doer.now) (g.D.Doer.stands c.expression_step.new.doer) (g.W.Watch.history c.args.watch.now) (g.W.Watch.history c.expression_step.new.watch) c.expression_step.result c.expression_step.ensures.knew c.requires.state c.expression_step.ensures.step
