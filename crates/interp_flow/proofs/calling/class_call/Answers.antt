use Rattle.std.proofs.Common.{subst}
use Rattle.prov_base.specs.declared.refusal.Memory.{Memory}
use Rattle.flow_frames.specs.declared.control.Callee.TheVariants.{Class}
use Rattle.flow_values.specs.Calls.{calling_so}
use Rattle.flow_values.specs.Step.{StepsFrom}
use Rattle.interp_flow.proofs.calling.class_call.Goals as goal

pub returns-clause-step : goal.returns-clause-step
returns-clause-step g c = λ script.
    subst (λ vs. StepsFrom {E = Memory} script (calling_so script c.args.frames.now c.args.caller.value c.args.at (Class c.args.of) vs c.args.part) c.class_step.new.frames c.args.left.now c.class_step.new.left (g.D.Doer.fits c.class_step.new.doer)
    (g.D.Doer.stands c.args.doer.now) (g.D.Doer.stands c.class_step.new.doer) (g.W.Watch.history c.args.watch.now) (g.W.Watch.history c.class_step.new.watch) c.class_step.result) c.as_slice-arguments.ensures (c.class_step.ensures.step script)
