use Rattle.std.proofs.Common.{length, Ok, ap, sym, subst, ◌∙◌}
use Rattle.prov_base.specs.declared.refusal.Memory.{Memory}
use Rattle.interp_eval.proofs.Steps.{all_named}
use Rattle.flow_calls.specs.Calling.{HasEntered}
use Rattle.flow_values.proofs.Bodies.{entered_cut, entered_on, none_entered, refused_entry}
use Rattle.interp_flow.proofs.calling.enter_step.Goals as goal

pub enter-requires-clause-counted : goal.enter-requires-clause-counted
enter-requires-clause-counted g c = c.requires.counted ∙ ap length (sym c.as_slice-names.ensures.value)

pub enter-requires-clause-given : goal.enter-requires-clause-given
enter-requires-clause-given g c = λ table capture fit. all_named table c.args.values (c.requires.values table capture fit)

pub returns-in-Err-clause-step : goal.returns-in-Err-clause-step
returns-in-Err-clause-step g c = λ script place may.
    refused_entry script c.args.frames.now c.args.caller.value c.args.at place c.args.found c.args.values c.args.part may c.meaning_unfolds.ensures c.args.frames.now (g.D.Doer.fits c.enter.new.doer) (g.D.Doer.stands c.args.doer.now)
    (g.D.Doer.stands c.enter.new.doer) c.args.left.now c.enter.new.left (g.W.Watch.history c.args.watch.now) (g.W.Watch.history c.enter.new.watch) c.as_slice-names.result.now c.as_slice-names.ensures.value _ c.in-Err.ensures.entered

pub returns-in_default-clause-step : goal.returns-in_default-clause-step
returns-in_default-clause-step g c = λ script place may.
    none_entered script c.args.frames.now c.args.caller.value c.args.at place c.args.found c.args.values c.args.part may c.meaning_unfolds.ensures c.args.frames.now (g.D.Doer.fits c.enter.new.doer) (g.D.Doer.stands c.args.doer.now)
    (g.D.Doer.stands c.enter.new.doer) c.args.left.now c.enter.new.left (g.W.Watch.history c.args.watch.now) (g.W.Watch.history c.enter.new.watch) c.as_slice-names.result.now c.as_slice-names.ensures.value
    (subst (λ o. HasEntered {E = Memory} c.args.at c.args.found.at c.as_slice-names.result.now c.args.values c.args.left.now c.enter.new.left (g.D.Doer.fits c.enter.new.doer) (g.D.Doer.stands c.args.doer.now) (g.D.Doer.stands c.enter.new.doer)
    (g.W.Watch.history c.args.watch.now) (g.W.Watch.history c.enter.new.watch) (Ok o)) c.in_default.is c.in-Ok.ensures.entered)

pub returns-in-Ok-run_body-clause-step : goal.returns-in-Ok-run_body-clause-step
returns-in-Ok-run_body-clause-step g c = λ script place may.
    entered_on script c.args.frames.now c.args.caller.value c.args.at place c.args.found c.args.values c.args.part may c.meaning_unfolds.ensures c.run_body.new.frames (g.D.Doer.fits c.enter.new.doer) (g.D.Doer.stands c.args.doer.now)
    (g.D.Doer.stands c.enter.new.doer) c.args.left.now c.enter.new.left (g.W.Watch.history c.args.watch.now) (g.W.Watch.history c.enter.new.watch) c.as_slice-names.result.now c.as_slice-names.ensures.value c.in-Some.activation
    (subst (λ o. HasEntered {E = Memory} c.args.at c.args.found.at c.as_slice-names.result.now c.args.values c.args.left.now c.enter.new.left (g.D.Doer.fits c.enter.new.doer) (g.D.Doer.stands c.args.doer.now) (g.D.Doer.stands c.enter.new.doer)
    (g.W.Watch.history c.args.watch.now) (g.W.Watch.history c.enter.new.watch) (Ok o)) c.in-Some.is c.in-Ok.ensures.entered) (λ table next. c.in-Ok-run_body.ensures.means script next table may.numbered)

pub returns-in-Ok-run_body-clause-held : goal.returns-in-Ok-run_body-clause-held
returns-in-Ok-run_body-clause-held g c = λ table capture fit.
    let before = c.in-Ok.ensures.knew table capture fit in
    c.in-Ok-run_body.ensures.held table (c.requires.held table capture before) (c.requires.caller table capture before) (c.requires.stage table capture before)

pub returns-in-Err-run_body-clause-step : goal.returns-in-Err-run_body-clause-step
returns-in-Err-run_body-clause-step g c = λ script place may.
    entered_cut script c.args.frames.now c.args.caller.value c.args.at place c.args.found c.args.values c.args.part may c.meaning_unfolds.ensures c.run_body.new.frames (g.D.Doer.fits c.enter.new.doer) (g.D.Doer.stands c.args.doer.now)
    (g.D.Doer.stands c.enter.new.doer) c.args.left.now c.enter.new.left (g.W.Watch.history c.args.watch.now) (g.W.Watch.history c.enter.new.watch) c.as_slice-names.result.now c.as_slice-names.ensures.value c.in-Some.activation
    (subst (λ o. HasEntered {E = Memory} c.args.at c.args.found.at c.as_slice-names.result.now c.args.values c.args.left.now c.enter.new.left (g.D.Doer.fits c.enter.new.doer) (g.D.Doer.stands c.args.doer.now) (g.D.Doer.stands c.enter.new.doer)
    (g.W.Watch.history c.args.watch.now) (g.W.Watch.history c.enter.new.watch) (Ok o)) c.in-Some.is c.in-Ok.ensures.entered) _
