use Rattle.std.proofs.Common.{Ok, refl, sym, subst}
use Rattle.prov_base.specs.declared.refusal.Memory.{Memory}
use Rattle.py_model.specs.declared.moment.Answer.TheVariants.{Value as ValueAnswer, Raised as RaisedAnswer, End as EndAnswer}
use Rattle.interp_eval.specs.declared.frames.EvalNext.{EvalNext}
use Rattle.interp_eval.specs.declared.frames.EvalNext.TheVariants.{Value as TheValue, Raised as EvalRaised, Ended as EvalEnded, Spent as EvalSpent, Unanswered as EvalUnanswered}
use Rattle.flow_values.specs.declared.next.FlowNext.TheVariants.{More as FlowMore, Spent as FlowSpent, Unanswered as FlowUnanswered}
use Rattle.flow_values.specs.Expression.{IsHeldTaken, IsTakenNow}
use Rattle.flow_values.proofs.Expressions.{answer_taken, each_taken, more_held, more_taken, taken_part, taken_value}
use Rattle.flow_values.proofs.expression.taken.Goals as goal

pub returns-in-More-clause-means : goal.returns-in-More-clause-means
returns-in-More-clause-means c =
    subst (λ (n : EvalNext). IsTakenNow {E = Memory} n c.args.frames.now.now c.args.frames.now c.args.frames.now (Ok FlowMore)) (sym c.in-More.is) (more_taken c.args.frames.now c.args.frames.now.now refl)

pub returns-in-More-clause-held : goal.returns-in-More-clause-held
returns-in-More-clause-held c = λ table around held. record {
  spot = around.0;
  now = more_held table c.args.frames.now.spot.scope c.args.frames.now.now (subst (λ (n : EvalNext). IsHeldTaken table c.args.frames.now.spot.scope n c.args.frames.now.now) c.in-More.is held);
  below = around.1;
}

pub returns-in-Value-clause-means : goal.returns-in-Value-clause-means
returns-in-Value-clause-means c =
    subst (λ (n : EvalNext). IsTakenNow {E = Memory} n c.args.frames.now.now c.args.frames.now c.finish_now.new.frames c.finish_now.result) (sym c.in-Value.is)
    (answer_taken (TheValue c.in-Value.value) c.args.frames.now c.finish_now.new.frames c.finish_now.result (ValueAnswer c.in-Value.value) c.args.frames.now.now (λ gone p means. means) c.finish_now.ensures.means)

pub returns-in-Value-clause-held : goal.returns-in-Value-clause-held
returns-in-Value-clause-held c = λ table around held.
    c.finish_now.ensures.held table around (taken_part table c.args.frames.now.spot.scope c.args.next c.args.frames.now.now held)
    (taken_value table c.args.frames.now.spot.scope c.in-Value.value c.args.frames.now.now (subst (λ (n : EvalNext). IsHeldTaken table c.args.frames.now.spot.scope n c.args.frames.now.now) c.in-Value.is held))

pub returns-in-Raised-clause-means : goal.returns-in-Raised-clause-means
returns-in-Raised-clause-means c =
    subst (λ (n : EvalNext). IsTakenNow {E = Memory} n c.args.frames.now.now c.args.frames.now c.finish_now-in-Raised.new.frames c.finish_now-in-Raised.result) (sym c.in-Raised.is)
    (answer_taken (EvalRaised c.in-Raised.o) c.args.frames.now c.finish_now-in-Raised.new.frames c.finish_now-in-Raised.result (RaisedAnswer c.in-Raised.o) c.args.frames.now.now (λ gone p means. means) c.finish_now-in-Raised.ensures.means)

pub returns-in-Raised-clause-held : goal.returns-in-Raised-clause-held
returns-in-Raised-clause-held c = λ table around held.
    c.finish_now-in-Raised.ensures.held table around (taken_part table c.args.frames.now.spot.scope c.args.next c.args.frames.now.now held) tt

pub returns-in-Ended-clause-means : goal.returns-in-Ended-clause-means
returns-in-Ended-clause-means c =
    subst (λ (n : EvalNext). IsTakenNow {E = Memory} n c.args.frames.now.now c.args.frames.now c.finish_now-in-Ended.new.frames c.finish_now-in-Ended.result) (sym c.in-Ended.is)
    (answer_taken EvalEnded c.args.frames.now c.finish_now-in-Ended.new.frames c.finish_now-in-Ended.result EndAnswer c.args.frames.now.now (λ gone p means. means) c.finish_now-in-Ended.ensures.means)

pub returns-in-Ended-clause-held : goal.returns-in-Ended-clause-held
returns-in-Ended-clause-held c = λ table around held.
    c.finish_now-in-Ended.ensures.held table around (taken_part table c.args.frames.now.spot.scope c.args.next c.args.frames.now.now held) tt

pub returns-in-Call-clause-held : goal.returns-in-Call-clause-held
returns-in-Call-clause-held c = λ table around held.
    c.call_now.ensures.held table around (subst (λ (n : EvalNext). IsHeldTaken table c.args.frames.now.spot.scope n c.args.frames.now.now) c.in-Call.is held)

pub returns-in-Spent-clause-means : goal.returns-in-Spent-clause-means
returns-in-Spent-clause-means c =
    subst (λ (n : EvalNext). IsTakenNow {E = Memory} n c.args.frames.now.now c.args.frames.now c.args.frames.now (Ok FlowSpent)) (sym c.in-Spent.is)
    (each_taken EvalSpent c.args.frames.now c.args.frames.now (Ok FlowSpent) c.args.frames.now.now (λ gone p. refl))

pub returns-in-Unanswered-clause-means : goal.returns-in-Unanswered-clause-means
returns-in-Unanswered-clause-means c =
    subst (λ (n : EvalNext). IsTakenNow {E = Memory} n c.args.frames.now.now c.args.frames.now c.args.frames.now (Ok FlowUnanswered)) (sym c.in-Unanswered.is)
    (each_taken EvalUnanswered c.args.frames.now c.args.frames.now (Ok FlowUnanswered) c.args.frames.now.now (λ gone p. refl))
