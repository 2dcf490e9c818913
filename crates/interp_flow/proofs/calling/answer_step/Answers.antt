use Rattle.std.proofs.Common.{ap, sym, subst}
use Rattle.py_model.specs.Told.{IsNamedAnswer}
use Rattle.flow_frames.specs.Held.{IsHeldCaller}
use Rattle.flow_frames.specs.declared.control.Caller.{Caller}
use Rattle.interp_flow.proofs.Making.{end_made, raised_made, value_made}
use Rattle.interp_flow.proofs.calling.answer_step.Goals as goal

pub returns-in-Value-clause-means : goal.returns-in-Value-clause-means
returns-in-Value-clause-means c =
    value_made c.args.frames.now c.args.caller.value c.args.at c.args.of c.args.arguments.now c.args.answer c.args.method c.args.has_set c.args.part c.made_step.new.frames c.made_step.result c.into_inner-caller.result.eval c.in-Value.o c.in-Value.is
    (ap (λ (o : Caller). o.eval) c.into_inner-caller.ensures) c.made_step.ensures.means

pub returns-in-Value-clause-held : goal.returns-in-Value-clause-held
returns-in-Value-clause-held c = λ table old caller of arguments answer stage.
    let inner = subst (IsHeldCaller table c.args.frames.now.spot.scope) (sym c.into_inner-caller.ensures) caller in
    c.made_step.ensures.held table old inner.0 inner.1.0 of arguments (subst (IsNamedAnswer table) c.in-Value.is answer) stage

pub returns-in-Raised-clause-means : goal.returns-in-Raised-clause-means
returns-in-Raised-clause-means c =
    raised_made c.args.frames.now c.args.caller.value c.args.at c.args.of c.args.arguments.now c.args.answer c.args.method c.args.has_set c.args.part c.finish.new.frames c.finish.result c.in-Raised.o c.in-Raised.is c.finish.ensures.means

pub returns-in-Raised-clause-held : goal.returns-in-Raised-clause-held
returns-in-Raised-clause-held c = λ table old caller of arguments answer stage. c.finish.ensures.held table old stage tt

pub returns-in-End-clause-means : goal.returns-in-End-clause-means
returns-in-End-clause-means c =
    end_made c.args.frames.now c.args.caller.value c.args.at c.args.of c.args.arguments.now c.args.answer c.args.method c.args.has_set c.args.part c.finish-in-End.new.frames c.finish-in-End.result c.in-End.is c.finish-in-End.ensures.means

pub returns-in-End-clause-held : goal.returns-in-End-clause-held
returns-in-End-clause-held c = λ table old caller of arguments answer stage. c.finish-in-End.ensures.held table old stage tt
