use Rattle.std.proofs.Common.{ap, sym, subst, ◌∙◌}
use Rattle.py_value.specs.Values.{IsNamed}
use Rattle.interp_eval.specs.Step.{given}
use Rattle.interp_eval.specs.declared.frames.EvalFrames.{EvalFrames}
use Rattle.flow_values.specs.Value.{resuming}
use Rattle.interp_flow.proofs.Returns.{call_named, resumed_from, untold_from}
use Rattle.interp_flow.proofs.returning.resume_step.Goals as goal

pub returns-in-Err-clause-step : goal.returns-in-Err-clause-step
returns-in-Err-clause-step g c = λ script.
    untold_from script (resuming script c.args.frames.now c.args.eval c.args.made c.args.part c.args.value) c.args.value c.args.frames.now c.args.left (g.D.Doer.fits c.leave.new.doer) (g.D.Doer.stands c.args.doer.now) (g.D.Doer.stands c.leave.new.doer)
    (g.W.Watch.history c.args.watch.now) (g.W.Watch.history c.leave.new.watch) _ c.in-Err.ensures.left

pub returns-in-Ok-clause-step : goal.returns-in-Ok-clause-step
returns-in-Ok-clause-step g c = λ script.
    resumed_from script c.args.frames.now c.args.eval c.give.new.self c.args.made c.args.part c.args.value c.keep.new.frames c.args.left (g.D.Doer.fits c.leave.new.doer) (g.D.Doer.stands c.args.doer.now) (g.D.Doer.stands c.leave.new.doer)
    (g.W.Watch.history c.args.watch.now) (g.W.Watch.history c.leave.new.watch) (c.give.ensures.given ∙ ap (λ v. given v c.args.eval) c.call_value.ensures) c.in-Ok.ensures.left c.keep.result c.keep.ensures.means

pub returns-in-Ok-clause-held : goal.returns-in-Ok-clause-held
returns-in-Ok-clause-held g c = λ table capture fit.
    let before = c.in-Ok.ensures.knew table capture fit in
    c.keep.ensures.held table (c.requires.held table capture before) (c.give.ensures.held table (c.requires.eval table capture before)
    (subst (IsNamed table) (sym c.call_value.ensures) (call_named table c.args.made c.args.value (c.requires.made table capture before) (c.requires.value table capture before))))
    (ap (λ (e : EvalFrames). e.scope) c.give.ensures.given ∙ c.requires.scope table capture before) (c.requires.stage table capture before)
