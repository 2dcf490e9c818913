use Rattle.std.proofs.Common.{ap, subst, ◌∙◌}
use Rattle.py_tree.specs.Erasure.{script_of}
use Rattle.flow_frames.specs.Held.{IsHeldNow}
use Rattle.flow_frames.specs.declared.control.Now.TheVariants.{Ended, Gives, InSuite}
use Rattle.flow_values.specs.Step.{doing_now}
use Rattle.flow_values.proofs.Stepping.{cut_from, steps_fitting, steps_same}
use Rattle.interp_flow.proofs.step.now_step.Goals as goal

pub returns-in-InSuite-clause-step : goal.returns-in-InSuite-clause-step
returns-in-InSuite-clause-step g c =
    steps_same (script_of c.args.script.now) (doing_now (script_of c.args.script.now) c.args.frames.now c.args.now) (doing_now (script_of c.args.script.now) c.args.frames.now (InSuite c.in-InSuite.stmts)) c.suite_step.new.frames c.args.left.now c.suite_step.new.left
    (g.D.Doer.fits c.suite_step.new.doer) (g.D.Doer.stands c.args.doer.now) (g.D.Doer.stands c.suite_step.new.doer) (g.W.Watch.history c.args.watch.now) (g.W.Watch.history c.suite_step.new.watch) c.suite_step.result
    (λ table next. ap (λ now. doing_now (script_of c.args.script.now) c.args.frames.now now table next) c.in-InSuite.is) (c.suite_step.ensures.step (script_of c.args.script.now))

pub gives_step-requires-clause-now : goal.gives_step-requires-clause-now
gives_step-requires-clause-now g c = λ table capture fit. subst (IsHeldNow table c.args.frames.now.spot.scope) c.in-Gives.is (c.requires.now table capture fit)

pub returns-in-Gives-clause-step : goal.returns-in-Gives-clause-step
returns-in-Gives-clause-step g c =
    steps_same (script_of c.args.script.now) (doing_now (script_of c.args.script.now) c.args.frames.now c.args.now) (doing_now (script_of c.args.script.now) c.args.frames.now (Gives c.in-Gives.giving)) c.gives_step.new.frames c.args.left.now c.gives_step.new.left
    (g.D.Doer.fits c.gives_step.new.doer) (g.D.Doer.stands c.args.doer.now) (g.D.Doer.stands c.gives_step.new.doer) (g.W.Watch.history c.args.watch.now) (g.W.Watch.history c.gives_step.new.watch) c.gives_step.result
    (λ table next. ap (λ now. doing_now (script_of c.args.script.now) c.args.frames.now now table next) c.in-Gives.is) c.gives_step.ensures.step

pub end_step-requires-clause-end : goal.end_step-requires-clause-end
end_step-requires-clause-end g c = λ table capture fit. subst (IsHeldNow table c.args.frames.now.spot.scope) c.in-Ended.is (c.requires.now table capture fit)

pub returns-in-Ended-clause-step : goal.returns-in-Ended-clause-step
returns-in-Ended-clause-step g c =
    steps_same (script_of c.args.script.now) (doing_now (script_of c.args.script.now) c.args.frames.now c.args.now) (doing_now (script_of c.args.script.now) c.args.frames.now (Ended c.in-Ended.end)) c.end_step.new.frames c.args.left.now c.args.left.now
    (g.D.Doer.fits c.end_step.new.doer) (g.D.Doer.stands c.args.doer.now) (g.D.Doer.stands c.end_step.new.doer) (g.W.Watch.history c.args.watch.now) (g.W.Watch.history c.end_step.new.watch) c.end_step.result
    (λ table next. ap (λ now. doing_now (script_of c.args.script.now) c.args.frames.now now table next) c.in-Ended.is) (c.end_step.ensures.step (script_of c.args.script.now))

pub open_part-requires : goal.open_part-requires
open_part-requires g c =
    let some = c.values.ensures.some_fits in
    subst (IsHeldNow c.values.result.now c.args.frames.now.spot.scope) c.in-Opens.is (c.requires.now c.values.result.now some.0 some.1)

pub returns-in-Ok-clause-step : goal.returns-in-Ok-clause-step
returns-in-Ok-clause-step g c =
    steps_fitting (script_of c.args.script.now) (doing_now (script_of c.args.script.now) c.args.frames.now c.args.now) c.open_part.new.frames c.args.left.now (g.D.Doer.fits c.args.doer.now) (g.D.Doer.stands c.args.doer.now) (g.W.Watch.history c.args.watch.now)
    (λ table capture fit next.
    let within = c.values.ensures.within table capture fit in
    ap (λ now. doing_now (script_of c.args.script.now) c.args.frames.now now table next) c.in-Opens.is
    ∙ c.in-Ok.ensures.means (script_of c.args.script.now) next table within.0 within.1)

pub returns-in-Ok-clause-held : goal.returns-in-Ok-clause-held
returns-in-Ok-clause-held g c = λ table capture fit.
    let within = c.values.ensures.within table capture fit in
    c.in-Ok.ensures.held table within.0 within.1 (c.requires.held table capture fit) (subst (IsHeldNow table c.args.frames.now.spot.scope) c.in-Opens.is (c.requires.now table capture fit))

pub returns-in-Err-clause-step : goal.returns-in-Err-clause-step
returns-in-Err-clause-step g c =
    cut_from (script_of c.args.script.now) (doing_now (script_of c.args.script.now) c.args.frames.now c.args.now) c.open_part.new.frames c.args.left.now (g.D.Doer.fits c.args.doer.now) (g.D.Doer.stands c.args.doer.now) (g.W.Watch.history c.args.watch.now) _
