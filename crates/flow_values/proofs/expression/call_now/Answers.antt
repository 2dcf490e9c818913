use Rattle.std.proofs.Common.{sym, subst, ◌∙◌}
use Rattle.flow_frames.specs.Held.{IsHeldNow}
use Rattle.interp_eval.specs.declared.frames.EvalNext.TheVariants.{Call}
use Rattle.flow_values.specs.Expression.{IsHeldTaken}
use Rattle.flow_values.proofs.expression.call_now.Goals as goal

pub returns-in-Gives-clause-held : goal.returns-in-Gives-clause-held
returns-in-Gives-clause-held c = λ table around taken.
    let scope = c.args.frames.now.spot.scope in
    let known = subst (IsHeldTaken table scope (Call c.args.f c.args.arguments c.args.at)) (sym c.replace.ensures.value ∙ c.in-Gives.is) taken in
    c.call_from.ensures.held table (record { spot = around.0; now = subst (IsHeldNow table scope) (sym c.replace.ensures.after) tt; below = around.1 }) known.0 known.1
