use Rattle.std.proofs.Common.{sym, subst}
use Rattle.py_tree.specs.Erasure.{script_of}
use Rattle.flow_frames.specs.Held.{IsHeldStage, IsHeldWork}
use Rattle.flow_frames.specs.declared.control.Giving.{Giving}
use Rattle.flow_frames.specs.declared.control.Now.TheVariants.{Gives}
use Rattle.flow_values.specs.Step.{doing_now}
use Rattle.flow_values.specs.Value.{working}
use Rattle.flow_values.proofs.Stepping.{steps_same}
use Rattle.flow_values.proofs.Flowing.{gives_so}
use Rattle.interp_flow.proofs.step.gives_step.Goals as goal

pub work_step-requires-clause-work : goal.work_step-requires-clause-work
work_step-requires-clause-work g c = λ table capture fit. subst (λ (o : Giving). IsHeldWork table c.args.frames.now.spot.scope o.work) (sym c.into_inner-giving.ensures) (c.requires.now table capture fit).0

pub work_step-requires-clause-stage : goal.work_step-requires-clause-stage
work_step-requires-clause-stage g c = λ table capture fit. subst (λ (o : Giving). IsHeldStage table o.part.stage) (sym c.into_inner-giving.ensures) (c.requires.now table capture fit).1

pub returns-clause-step : goal.returns-clause-step
returns-clause-step g c =
    steps_same (script_of c.args.script.now) (doing_now (script_of c.args.script.now) c.args.frames.now (Gives c.args.giving)) (working (script_of c.args.script.now) c.args.frames.now c.into_inner-giving.result.work c.into_inner-giving.result.part) c.work_step.new.frames c.args.left.now c.work_step.new.left
    (g.D.Doer.fits c.work_step.new.doer) (g.D.Doer.stands c.args.doer.now) (g.D.Doer.stands c.work_step.new.doer) (g.W.Watch.history c.args.watch.now) (g.W.Watch.history c.work_step.new.watch) c.work_step.result
    (gives_so (script_of c.args.script.now) c.args.frames.now c.args.giving c.into_inner-giving.result c.into_inner-giving.ensures) c.work_step.ensures.step
