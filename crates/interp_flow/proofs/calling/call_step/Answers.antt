use Rattle.std.proofs.Common.{ap, subst}
use Rattle.py_tree.specs.Erasure.{script_of}
use Rattle.flow_frames.specs.Held.{IsHeldCallee}
use Rattle.flow_frames.specs.declared.control.Callee.TheVariants.{Class, Function}
use Rattle.flow_values.specs.Calls.{calling_so}
use Rattle.flow_values.proofs.Stepping.{steps_same}
use Rattle.interp_flow.proofs.calling.call_step.Goals as goal

pub returns-in-Function-clause-step : goal.returns-in-Function-clause-step
returns-in-Function-clause-step g c =
    steps_same (script_of c.args.script.now) (calling_so (script_of c.args.script.now) c.args.frames.now c.args.caller.value c.args.at c.args.callee c.args.values c.args.part)
    (calling_so (script_of c.args.script.now) c.args.frames.now c.args.caller.value c.args.at (Function c.in-Function.place) c.args.values c.args.part) c.function_step.new.frames c.args.left.now c.function_step.new.left
    (g.D.Doer.fits c.function_step.new.doer) (g.D.Doer.stands c.args.doer.now) (g.D.Doer.stands c.function_step.new.doer) (g.W.Watch.history c.args.watch.now) (g.W.Watch.history c.function_step.new.watch) c.function_step.result
    (λ table next. ap (λ o. calling_so (script_of c.args.script.now) c.args.frames.now c.args.caller.value c.args.at o c.args.values c.args.part table next) c.in-Function.is) c.function_step.ensures.step

pub class_call-requires-clause-named : goal.class_call-requires-clause-named
class_call-requires-clause-named g c = λ table capture fit. subst (IsHeldCallee table) c.in-Class.is (c.requires.callee table capture fit)

pub returns-in-Class-clause-step : goal.returns-in-Class-clause-step
returns-in-Class-clause-step g c =
    steps_same (script_of c.args.script.now) (calling_so (script_of c.args.script.now) c.args.frames.now c.args.caller.value c.args.at c.args.callee c.args.values c.args.part)
    (calling_so (script_of c.args.script.now) c.args.frames.now c.args.caller.value c.args.at (Class c.in-Class.of) c.args.values c.args.part) c.class_call.new.frames c.args.left.now c.class_call.new.left
    (g.D.Doer.fits c.class_call.new.doer) (g.D.Doer.stands c.args.doer.now) (g.D.Doer.stands c.class_call.new.doer) (g.W.Watch.history c.args.watch.now) (g.W.Watch.history c.class_call.new.watch) c.class_call.result
    (λ table next. ap (λ o. calling_so (script_of c.args.script.now) c.args.frames.now c.args.caller.value c.args.at o c.args.values c.args.part table next) c.in-Class.is) (c.class_call.ensures.step (script_of c.args.script.now))
