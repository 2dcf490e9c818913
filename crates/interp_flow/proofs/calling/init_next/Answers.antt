use Rattle.std.proofs.Common.{◌∷◌, List, Some, ap, sym, subst, ◌∙◌}
use Rattle.py_value.specs.declared.value.Value.{Value}
use Rattle.interp_eval.specs.Held.{AreAllNamed}
use Rattle.flow_frames.specs.Held.{IsHeldCaller}
use Rattle.flow_frames.specs.declared.control.Callee.TheVariants.{Function}
use Rattle.flow_frames.specs.declared.control.Caller.{Caller}
use Rattle.flow_values.specs.Calls.{calling_so}
use Rattle.interp_flow.proofs.Making.{goes_same}
use Rattle.interp_flow.proofs.calling.init_next.Goals as goal

pub returns-clause-means : goal.returns-clause-means
returns-clause-means c =
    goes_same (λ script. calling_so script c.args.frames.now (record { eval = c.args.eval; made = Some c.args.o }) c.args.at (Function c.args.init) (c.args.o ∷ c.args.arguments.now) c.args.part)
    (λ script. calling_so script c.args.frames.now c.in_ok-caller.caller.value c.args.at (Function c.args.init) c.of.result c.args.part) c.wait_call.new.frames c.wait_call.result (λ script table next.
    ap (λ (o : Caller). calling_so script c.args.frames.now o c.args.at (Function c.args.init) (c.args.o ∷ c.args.arguments.now) c.args.part table next) (sym c.in_ok-caller.ensures.ok)
    ∙ ap (λ (vs : List Value). calling_so script c.args.frames.now c.in_ok-caller.caller.value c.args.at (Function c.args.init) vs c.args.part table next) (sym (c.of.ensures ∙ c.in-Ok.ensures))) c.wait_call.ensures.means

pub returns-clause-held : goal.returns-clause-held
returns-clause-held c = λ table old eval scope arguments o stage.
    c.wait_call.ensures.held table old (subst (IsHeldCaller table c.args.frames.now.spot.scope) (sym c.in_ok-caller.ensures.ok) (eval, (scope, o))) tt
    (subst (AreAllNamed table) (sym (c.of.ensures ∙ c.in-Ok.ensures)) (o, arguments)) stage
