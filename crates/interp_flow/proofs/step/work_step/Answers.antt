use Rattle.std.proofs.Common.{ap, subst}
use Rattle.py_tree.specs.Erasure.{script_of}
use Rattle.flow_frames.specs.Held.{IsHeldWork}
use Rattle.flow_values.specs.Calls.{calling_so}
use Rattle.flow_values.specs.Value.{evaluating, operating, working}
use Rattle.flow_values.proofs.Expressions.{goes_from}
use Rattle.flow_values.proofs.Stepping.{steps_same}
use Rattle.interp_flow.proofs.step.work_step.Goals as goal

pub operation_step-requires-clause-values : goal.operation_step-requires-clause-values
operation_step-requires-clause-values g c = λ table capture fit. subst (IsHeldWork table c.args.frames.now.spot.scope) c.in-Operation.is (c.requires.work table capture fit)

pub returns-in-Operation-clause-step : goal.returns-in-Operation-clause-step
returns-in-Operation-clause-step g c =
    steps_same (script_of c.args.script.now) (working (script_of c.args.script.now) c.args.frames.now c.args.work c.args.part)
    (operating (script_of c.args.script.now) c.args.frames.now c.in-Operation.at c.in-Operation.code c.in-Operation.values.items c.args.part) c.operation_step.new.frames c.args.left.now c.operation_step.new.left
    (g.D.Doer.fits c.operation_step.new.doer) (g.D.Doer.stands c.args.doer.now) (g.D.Doer.stands c.operation_step.new.doer) (g.W.Watch.history c.args.watch.now) (g.W.Watch.history c.operation_step.new.watch) c.operation_step.result
    (λ table next. ap (λ w. working (script_of c.args.script.now) c.args.frames.now w c.args.part table next) c.in-Operation.is) c.operation_step.ensures.step

pub returns-in-Evaluates-clause-step : goal.returns-in-Evaluates-clause-step
returns-in-Evaluates-clause-step g c =
    steps_same (script_of c.args.script.now) (working (script_of c.args.script.now) c.args.frames.now c.args.work c.args.part)
    (evaluating (script_of c.args.script.now) c.args.frames.now c.in-Evaluates.eval c.args.part) c.keep.new.frames c.args.left.now c.args.left.now
    (g.D.Doer.fits c.args.doer.now) (g.D.Doer.stands c.args.doer.now) (g.D.Doer.stands c.args.doer.now) (g.W.Watch.history c.args.watch.now) (g.W.Watch.history c.args.watch.now) c.keep.result
    (λ table next. ap (λ w. working (script_of c.args.script.now) c.args.frames.now w c.args.part table next) c.in-Evaluates.is)
    (goes_from (script_of c.args.script.now) (λ script. evaluating script c.args.frames.now c.in-Evaluates.eval c.args.part) c.keep.new.frames c.args.left.now
    (g.D.Doer.fits c.args.doer.now) (g.D.Doer.stands c.args.doer.now) (g.W.Watch.history c.args.watch.now) c.keep.result c.keep.ensures.means)

pub returns-in-Evaluates-clause-held : goal.returns-in-Evaluates-clause-held
returns-in-Evaluates-clause-held g c = λ table capture fit.
    let work = subst (IsHeldWork table c.args.frames.now.spot.scope) c.in-Evaluates.is (c.requires.work table capture fit) in
    c.keep.ensures.held table (c.requires.held table capture fit) work.0 work.1 (c.requires.stage table capture fit)

pub call_step-requires-clause-caller : goal.call_step-requires-clause-caller
call_step-requires-clause-caller g c = λ table capture fit. (subst (IsHeldWork table c.args.frames.now.spot.scope) c.in-Calls.is (c.requires.work table capture fit)).0

pub call_step-requires-clause-callee : goal.call_step-requires-clause-callee
call_step-requires-clause-callee g c = λ table capture fit. (subst (IsHeldWork table c.args.frames.now.spot.scope) c.in-Calls.is (c.requires.work table capture fit)).1.0

pub call_step-requires-clause-values : goal.call_step-requires-clause-values
call_step-requires-clause-values g c = λ table capture fit. (subst (IsHeldWork table c.args.frames.now.spot.scope) c.in-Calls.is (c.requires.work table capture fit)).1.1

pub returns-in-Calls-clause-step : goal.returns-in-Calls-clause-step
returns-in-Calls-clause-step g c =
    steps_same (script_of c.args.script.now) (working (script_of c.args.script.now) c.args.frames.now c.args.work c.args.part)
    (calling_so (script_of c.args.script.now) c.args.frames.now c.in-Calls.caller.value c.in-Calls.at c.in-Calls.callee c.in-Calls.values c.args.part) c.call_step.new.frames c.args.left.now c.call_step.new.left
    (g.D.Doer.fits c.call_step.new.doer) (g.D.Doer.stands c.args.doer.now) (g.D.Doer.stands c.call_step.new.doer) (g.W.Watch.history c.args.watch.now) (g.W.Watch.history c.call_step.new.watch) c.call_step.result
    (λ table next. ap (λ w. working (script_of c.args.script.now) c.args.frames.now w c.args.part table next) c.in-Calls.is) c.call_step.ensures.step
