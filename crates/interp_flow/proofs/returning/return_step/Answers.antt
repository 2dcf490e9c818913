use Rattle.std.proofs.Common.{ap}
use Rattle.flow_frames.specs.declared.control.End.TheVariants.{Normal, Broke, Continued, Returned}
use Rattle.flow_frames.specs.declared.control.End.{End}
use Rattle.flow_values.specs.Value.{resuming, returning, throwing}
use Rattle.interp_flow.proofs.Returns.{resumes_so}
use Rattle.flow_values.proofs.Stepping.{steps_same}
use Rattle.interp_flow.proofs.returning.return_step.Goals as goal

pub returns-in-Threw-clause-step : goal.returns-in-Threw-clause-step
returns-in-Threw-clause-step g c = λ script.
    steps_same script (returning script c.args.frames.now c.args.eval c.args.made c.args.part c.args.end) (throwing script c.args.frames.now c.in-Threw.o c.in-Threw.line) c.throw_step.new.frames c.args.left c.args.left
    (g.D.Doer.fits c.throw_step.new.doer) (g.D.Doer.stands c.args.doer.now) (g.D.Doer.stands c.throw_step.new.doer) (g.W.Watch.history c.args.watch.now) (g.W.Watch.history c.throw_step.new.watch) c.throw_step.result
    (λ table next. ap (λ (e : End). returning script c.args.frames.now c.args.eval c.args.made c.args.part e table next) c.in-Threw.is) (c.throw_step.ensures.step script)

pub resume_step-requires-clause-value : goal.resume_step-requires-clause-value
resume_step-requires-clause-value g c = λ table capture fit. c.value_of-value.ensures.named table (c.requires.end table capture fit)

pub returns-in-Normal-clause-step : goal.returns-in-Normal-clause-step
returns-in-Normal-clause-step g c = λ script.
    steps_same script (returning script c.args.frames.now c.args.eval c.args.made c.args.part c.args.end) (resuming script c.args.frames.now c.args.eval c.args.made c.args.part c.value_of-value.result) c.resume_step.new.frames c.args.left c.args.left
    (g.D.Doer.fits c.resume_step.new.doer) (g.D.Doer.stands c.args.doer.now) (g.D.Doer.stands c.resume_step.new.doer) (g.W.Watch.history c.args.watch.now) (g.W.Watch.history c.resume_step.new.watch) c.resume_step.result
    (λ table next. resumes_so script c.args.frames.now c.args.eval c.args.made c.args.part c.value_of-value.result table next c.args.end Normal c.in-Normal.is tt (c.value_of-value.ensures.means table)) (c.resume_step.ensures.step script)

pub resume_step-requires-in-Broke-clause-value : goal.resume_step-requires-in-Broke-clause-value
resume_step-requires-in-Broke-clause-value g c = λ table capture fit. c.value_of-value.ensures.named table (c.requires.end table capture fit)

pub returns-in-Broke-clause-step : goal.returns-in-Broke-clause-step
returns-in-Broke-clause-step g c = λ script.
    steps_same script (returning script c.args.frames.now c.args.eval c.args.made c.args.part c.args.end) (resuming script c.args.frames.now c.args.eval c.args.made c.args.part c.value_of-value.result) c.resume_step-in-Broke.new.frames c.args.left c.args.left
    (g.D.Doer.fits c.resume_step-in-Broke.new.doer) (g.D.Doer.stands c.args.doer.now) (g.D.Doer.stands c.resume_step-in-Broke.new.doer) (g.W.Watch.history c.args.watch.now) (g.W.Watch.history c.resume_step-in-Broke.new.watch) c.resume_step-in-Broke.result
    (λ table next. resumes_so script c.args.frames.now c.args.eval c.args.made c.args.part c.value_of-value.result table next c.args.end Broke c.in-Broke.is tt (c.value_of-value.ensures.means table)) (c.resume_step-in-Broke.ensures.step script)

pub resume_step-requires-in-Continued-clause-value : goal.resume_step-requires-in-Continued-clause-value
resume_step-requires-in-Continued-clause-value g c = λ table capture fit. c.value_of-value.ensures.named table (c.requires.end table capture fit)

pub returns-in-Continued-clause-step : goal.returns-in-Continued-clause-step
returns-in-Continued-clause-step g c = λ script.
    steps_same script (returning script c.args.frames.now c.args.eval c.args.made c.args.part c.args.end) (resuming script c.args.frames.now c.args.eval c.args.made c.args.part c.value_of-value.result) c.resume_step-in-Continued.new.frames c.args.left c.args.left
    (g.D.Doer.fits c.resume_step-in-Continued.new.doer) (g.D.Doer.stands c.args.doer.now) (g.D.Doer.stands c.resume_step-in-Continued.new.doer) (g.W.Watch.history c.args.watch.now) (g.W.Watch.history c.resume_step-in-Continued.new.watch) c.resume_step-in-Continued.result
    (λ table next. resumes_so script c.args.frames.now c.args.eval c.args.made c.args.part c.value_of-value.result table next c.args.end Continued c.in-Continued.is tt (c.value_of-value.ensures.means table)) (c.resume_step-in-Continued.ensures.step script)

pub resume_step-requires-in-Returned-clause-value : goal.resume_step-requires-in-Returned-clause-value
resume_step-requires-in-Returned-clause-value g c = λ table capture fit. c.value_of-value.ensures.named table (c.requires.end table capture fit)

pub returns-in-Returned-clause-step : goal.returns-in-Returned-clause-step
returns-in-Returned-clause-step g c = λ script.
    steps_same script (returning script c.args.frames.now c.args.eval c.args.made c.args.part c.args.end) (resuming script c.args.frames.now c.args.eval c.args.made c.args.part c.value_of-value.result) c.resume_step-in-Returned.new.frames c.args.left c.args.left
    (g.D.Doer.fits c.resume_step-in-Returned.new.doer) (g.D.Doer.stands c.args.doer.now) (g.D.Doer.stands c.resume_step-in-Returned.new.doer) (g.W.Watch.history c.args.watch.now) (g.W.Watch.history c.resume_step-in-Returned.new.watch) c.resume_step-in-Returned.result
    (λ table next. resumes_so script c.args.frames.now c.args.eval c.args.made c.args.part c.value_of-value.result table next c.args.end (Returned c.in-Returned.field-0) c.in-Returned.is tt (c.value_of-value.ensures.means table)) (c.resume_step-in-Returned.ensures.step script)
