use Rattle.std.proofs.Common.{ap, sym, subst, ◌∙◌}
use Rattle.flow_frames.specs.Held.{IsHeldCaller, IsHeldWaits}
use Rattle.flow_frames.specs.Popping.{HoldsPopped, IsPopped}
use Rattle.flow_frames.specs.Seen.{end_seen}
use Rattle.flow_frames.specs.declared.control.Now.TheVariants.{Ended}
use Rattle.flow_frames.specs.declared.frames.Waits.TheVariants.{Stmt as StmtWaits, Part as PartWaits}
use Rattle.py_model.specs.Meaning.{end_of}
use Rattle.flow_frames.specs.declared.control.Caller.{Caller}
use Rattle.flow_values.specs.Step.{doing_now, handed}
use Rattle.flow_values.specs.Value.{returning}
use Rattle.flow_values.proofs.Fronts.{at_last}
use Rattle.interp_flow.proofs.Endings.{part_on}
use Rattle.flow_values.proofs.Stepping.{cut_from, over_held, steps_over, steps_same}
use Rattle.interp_flow.proofs.step.end_step.Goals as goal

pub returns-in_default-clause-held : goal.returns-in_default-clause-held
returns-in_default-clause-held g c = λ table capture fit. over_held table c.pop.new.self c.over.result (end_of (end_seen table c.args.end)) (c.over.ensures table)

pub returns-in_default-clause-step : goal.returns-in_default-clause-step
returns-in_default-clause-step g c = λ script.
    let none = subst (IsPopped c.args.frames.now c.pop.new.self) c.in_default.is c.pop.ensures.means in
    steps_over script (doing_now script c.args.frames.now (Ended c.args.end)) c.pop.new.self c.args.end c.args.left (g.D.Doer.fits c.args.doer.now) (g.D.Doer.stands c.args.doer.now) (g.W.Watch.history c.args.watch.now) c.over.result c.over.ensures
    (λ table next. at_last script next table c.args.frames.now c.args.end none)

pub close_step-requires-clause-held : goal.close_step-requires-clause-held
close_step-requires-clause-held g c = λ table capture fit. (subst (HoldsPopped table c.pop.new.self) c.in-Some.is (c.pop.ensures.held table (c.requires.held table capture fit))).0

pub returns-in-Stmt-clause-step : goal.returns-in-Stmt-clause-step
returns-in-Stmt-clause-step g c = λ script.
    let popped = subst (IsPopped c.args.frames.now c.pop.new.self) c.in-Some.is c.pop.ensures.means in
    steps_same script (doing_now script c.args.frames.now (Ended c.args.end)) (handed script c.pop.new.self (StmtWaits c.in-Stmt.number c.in-Stmt.rest) c.args.end) c.close_step.new.frames c.args.left c.args.left
    (g.D.Doer.fits c.close_step.new.doer) (g.D.Doer.stands c.args.doer.now) (g.D.Doer.stands c.close_step.new.doer) (g.W.Watch.history c.args.watch.now) (g.W.Watch.history c.close_step.new.watch) c.close_step.result
    (λ table next. popped script next table (end_seen table c.args.end) ∙ ap (λ w. handed script c.pop.new.self w c.args.end table next) c.in-Stmt.is) (c.close_step.ensures.step script)

pub returns-in-Ok-clause-held : goal.returns-in-Ok-clause-held
returns-in-Ok-clause-held g c = λ table capture fit.
    let popped = subst (HoldsPopped table c.pop.new.self) c.in-Some.is (c.pop.ensures.held table (c.requires.held table capture fit)) in
    let waits = subst (IsHeldWaits table c.pop.new.self.spot.scope) (c.in-Part.is ∙ ap (λ caller. PartWaits caller c.in-Part.part) c.in-None.is) popped.1 in
    c.in-Ok.ensures.held table popped.0 waits (c.requires.end table capture fit)

pub returns-in-Ok-clause-step : goal.returns-in-Ok-clause-step
returns-in-Ok-clause-step g c = λ script.
    let popped = subst (IsPopped c.args.frames.now c.pop.new.self) c.in-Some.is c.pop.ensures.means in
    part_on c.meaning_unfolds.ensures script (doing_now script c.args.frames.now (Ended c.args.end)) c.pop.new.self c.end_part.new.frames c.in-Part.part c.args.end c.args.left (g.D.Doer.fits c.args.doer.now) (g.D.Doer.stands c.args.doer.now) (g.W.Watch.history c.args.watch.now)
    (λ table next. popped script next table (end_seen table c.args.end)
    ∙ ap (λ w. handed script c.pop.new.self w c.args.end table next) (c.in-Part.is ∙ ap (λ caller. PartWaits caller c.in-Part.part) c.in-None.is))
    c.in-Ok.ensures.means

pub returns-in-Err-clause-step : goal.returns-in-Err-clause-step
returns-in-Err-clause-step g c = λ script. cut_from script (doing_now script c.args.frames.now (Ended c.args.end)) c.end_part.new.frames c.args.left (g.D.Doer.fits c.args.doer.now) (g.D.Doer.stands c.args.doer.now) (g.W.Watch.history c.args.watch.now) _

pub return_step-requires-clause-held : goal.return_step-requires-clause-held
return_step-requires-clause-held g c = λ table capture fit. (subst (HoldsPopped table c.pop.new.self) c.in-Some.is (c.pop.ensures.held table (c.requires.held table capture fit))).0

pub return_step-requires-clause-eval : goal.return_step-requires-clause-eval
return_step-requires-clause-eval g c = λ table capture fit.
    let popped = subst (HoldsPopped table c.pop.new.self) c.in-Some.is (c.pop.ensures.held table (c.requires.held table capture fit)) in
    let waits = subst (IsHeldWaits table c.pop.new.self.spot.scope) (c.in-Part.is ∙ ap (λ caller. PartWaits caller c.in-Part.part) c.in-Some-caller.is) popped.1 in
    (subst (IsHeldCaller table c.pop.new.self.spot.scope) (sym c.into_inner-caller.ensures) waits.0).0

pub return_step-requires-clause-scope : goal.return_step-requires-clause-scope
return_step-requires-clause-scope g c = λ table capture fit.
    let popped = subst (HoldsPopped table c.pop.new.self) c.in-Some.is (c.pop.ensures.held table (c.requires.held table capture fit)) in
    let waits = subst (IsHeldWaits table c.pop.new.self.spot.scope) (c.in-Part.is ∙ ap (λ caller. PartWaits caller c.in-Part.part) c.in-Some-caller.is) popped.1 in
    (subst (IsHeldCaller table c.pop.new.self.spot.scope) (sym c.into_inner-caller.ensures) waits.0).1.0

pub return_step-requires-clause-made : goal.return_step-requires-clause-made
return_step-requires-clause-made g c = λ table capture fit.
    let popped = subst (HoldsPopped table c.pop.new.self) c.in-Some.is (c.pop.ensures.held table (c.requires.held table capture fit)) in
    let waits = subst (IsHeldWaits table c.pop.new.self.spot.scope) (c.in-Part.is ∙ ap (λ caller. PartWaits caller c.in-Part.part) c.in-Some-caller.is) popped.1 in
    (subst (IsHeldCaller table c.pop.new.self.spot.scope) (sym c.into_inner-caller.ensures) waits.0).1.1

pub return_step-requires-clause-stage : goal.return_step-requires-clause-stage
return_step-requires-clause-stage g c = λ table capture fit.
    let popped = subst (HoldsPopped table c.pop.new.self) c.in-Some.is (c.pop.ensures.held table (c.requires.held table capture fit)) in
    let waits = subst (IsHeldWaits table c.pop.new.self.spot.scope) (c.in-Part.is ∙ ap (λ caller. PartWaits caller c.in-Part.part) c.in-Some-caller.is) popped.1 in
    waits.1

pub returns-in-Some-caller-clause-step : goal.returns-in-Some-caller-clause-step
returns-in-Some-caller-clause-step g c = λ script.
    let popped = subst (IsPopped c.args.frames.now c.pop.new.self) c.in-Some.is c.pop.ensures.means in
    steps_same script (doing_now script c.args.frames.now (Ended c.args.end)) (returning script c.pop.new.self c.into_inner-caller.result.eval c.into_inner-caller.result.made c.in-Part.part c.args.end) c.return_step.new.frames c.args.left c.args.left
    (g.D.Doer.fits c.return_step.new.doer) (g.D.Doer.stands c.args.doer.now) (g.D.Doer.stands c.return_step.new.doer) (g.W.Watch.history c.args.watch.now) (g.W.Watch.history c.return_step.new.watch) c.return_step.result
    (λ table next. popped script next table (end_seen table c.args.end)
    ∙ ap (λ w. handed script c.pop.new.self w c.args.end table next) (c.in-Part.is ∙ ap (λ caller. PartWaits caller c.in-Part.part) c.in-Some-caller.is)
    ∙ ap (λ (o : Caller). returning script c.pop.new.self o.eval o.made c.in-Part.part c.args.end table next) (sym c.into_inner-caller.ensures)) (c.return_step.ensures.step script)
