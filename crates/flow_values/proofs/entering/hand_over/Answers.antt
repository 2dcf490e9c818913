use Rattle.std.proofs.Common.{sym, subst, ◌∙◌}
use Rattle.flow_frames.specs.Held.{IsHeldCaller}
use Rattle.flow_values.proofs.Handing.{callee_named, handed_over}
use Rattle.flow_values.proofs.entering.hand_over.Goals as goal

pub returns-clause-means : goal.returns-clause-means
returns-clause-means c =
    handed_over c.args.f c.args.arguments c.args.at c.args.eval c.args.part c.args.frames.now c.wait_call.new.frames c.in_ok-caller.caller.value c.in-Some.callee c.wait_call.result (sym c.callee_of.ensures ∙ c.in-Some.is) c.in_ok-caller.ensures.ok
    c.wait_call.ensures.means

pub returns-clause-held : goal.returns-clause-held
returns-clause-held c = λ table old named args eval scope stage.
    c.wait_call.ensures.held table old (subst (IsHeldCaller table c.args.frames.now.spot.scope) (sym c.in_ok-caller.ensures.ok) (eval, (scope, tt)))
    (callee_named table c.args.f c.in-Some.callee (sym c.callee_of.ensures ∙ c.in-Some.is) named) args stage
