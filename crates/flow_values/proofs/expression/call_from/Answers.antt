use Rattle.std.proofs.Common.{sym, subst}
use Rattle.flow_frames.specs.Held.{IsHeldStage}
use Rattle.flow_frames.specs.declared.control.Giving.{Giving}
use Rattle.interp_eval.specs.declared.frames.EvalNext.TheVariants.{Call}
use Rattle.flow_values.specs.Expression.{IsHeldTakenWork}
use Rattle.flow_values.proofs.expression.call_from.Goals as goal

pub returns-in-Evaluates-clause-held : goal.returns-in-Evaluates-clause-held
returns-in-Evaluates-clause-held c = λ table old taken stage.
    let scope = c.args.frames.now.spot.scope in
    let inner = subst (λ (o : Giving). IsHeldTakenWork table scope (Call c.args.f c.args.arguments c.args.at) o.work) (sym c.into_inner-giving.ensures) taken in
    let known = subst (IsHeldTakenWork table scope (Call c.args.f c.args.arguments c.args.at)) c.in-Evaluates.is inner in
    c.hand_over.ensures.held table old known.0.0 known.0.1.0 known.0.1.1 known.1 (subst (λ (o : Giving). IsHeldStage table o.part.stage) (sym c.into_inner-giving.ensures) stage)
