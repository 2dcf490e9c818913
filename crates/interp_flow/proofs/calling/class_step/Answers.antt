use Rattle.std.proofs.Common.{refl, sym, subst}
use Rattle.flow_frames.specs.declared.control.Callee.TheVariants.{Class}
use Rattle.flow_calls.proofs.Walks.{known_walk}
use Rattle.flow_calls.specs.declared.walking.Walk.TheVariants.{Did, TooDear, Unanswered}
use Rattle.interp_eval.specs.Held.{AreAllNamed}
use Rattle.interp_eval.proofs.Steps.{all_named}
use Rattle.flow_values.specs.Calls.{calling_so}
use Rattle.interp_flow.proofs.Making.{class_op, cut_made, did_made, too_dear_made, unanswered_made, walk_named}
use Rattle.flow_values.proofs.Stepping.{cut_from}
use Rattle.interp_flow.proofs.calling.class_step.Goals as goal

pub returns-in-Err-clause-step : goal.returns-in-Err-clause-step
returns-in-Err-clause-step g c = λ script.
    cut_from script (calling_so script c.args.frames.now c.args.caller.value c.args.at (Class c.args.of) c.args.arguments.now c.args.part) c.args.frames.now c.args.left.now (g.D.Doer.fits c.args.doer.now) (g.D.Doer.stands c.args.doer.now)
    (g.W.Watch.history c.args.watch.now) _

pub perform_walk-requires-clause-operation : goal.perform_walk-requires-clause-operation
perform_walk-requires-clause-operation g c = refl

pub perform_walk-requires-clause-named : goal.perform_walk-requires-clause-named
perform_walk-requires-clause-named g c = λ table capture fit.
    all_named table c.in-Ok.values.items (subst (AreAllNamed table) (sym c.in-Ok.ensures) (c.requires.named table capture fit, c.requires.values table capture fit))

pub returns-in-Err-perform_walk-clause-step : goal.returns-in-Err-perform_walk-clause-step
returns-in-Err-perform_walk-clause-step g c = λ script.
    cut_made script c.args.frames.now c.args.caller.value c.args.at c.args.of c.args.arguments.now c.args.part c.in-Ok.values.items c.in-Ok.ensures c.args.frames.now (g.D.Doer.fits c.perform_walk.new.doer) (g.D.Doer.stands c.args.doer.now) (g.D.Doer.stands c.perform_walk.new.doer)
    c.args.left.now c.perform_walk.new.left (g.W.Watch.history c.args.watch.now) (g.W.Watch.history c.perform_walk.new.watch) _ c.in-Err-perform_walk.ensures.walked

pub returns-in-TooDear-clause-step : goal.returns-in-TooDear-clause-step
returns-in-TooDear-clause-step g c = λ script.
    too_dear_made script c.args.frames.now c.args.caller.value c.args.at c.args.of c.args.arguments.now c.args.part c.in-Ok.values.items c.in-Ok.ensures c.args.frames.now (g.D.Doer.fits c.perform_walk.new.doer) (g.D.Doer.stands c.args.doer.now)
    (g.D.Doer.stands c.perform_walk.new.doer) c.args.left.now c.perform_walk.new.left (g.W.Watch.history c.args.watch.now) (g.W.Watch.history c.perform_walk.new.watch)
    (known_walk c.args.at class_op c.in-Ok.values.items c.args.left.now c.perform_walk.new.left (g.D.Doer.fits c.perform_walk.new.doer) (g.D.Doer.stands c.args.doer.now) (g.D.Doer.stands c.perform_walk.new.doer) (g.W.Watch.history c.args.watch.now)
    (g.W.Watch.history c.perform_walk.new.watch) c.in-Ok-perform_walk.came TooDear c.in-TooDear.is c.in-Ok-perform_walk.ensures.walked)

pub returns-in-Unanswered-clause-step : goal.returns-in-Unanswered-clause-step
returns-in-Unanswered-clause-step g c = λ script.
    unanswered_made script c.args.frames.now c.args.caller.value c.args.at c.args.of c.args.arguments.now c.args.part c.in-Ok.values.items c.in-Ok.ensures c.args.frames.now (g.D.Doer.fits c.perform_walk.new.doer) (g.D.Doer.stands c.args.doer.now)
    (g.D.Doer.stands c.perform_walk.new.doer) c.args.left.now c.perform_walk.new.left (g.W.Watch.history c.args.watch.now) (g.W.Watch.history c.perform_walk.new.watch)
    (known_walk c.args.at class_op c.in-Ok.values.items c.args.left.now c.perform_walk.new.left (g.D.Doer.fits c.perform_walk.new.doer) (g.D.Doer.stands c.args.doer.now) (g.D.Doer.stands c.perform_walk.new.doer) (g.W.Watch.history c.args.watch.now)
    (g.W.Watch.history c.perform_walk.new.watch) c.in-Ok-perform_walk.came Unanswered c.in-Unanswered.is c.in-Ok-perform_walk.ensures.walked)

pub returns-in-Did-clause-step : goal.returns-in-Did-clause-step
returns-in-Did-clause-step g c = λ script.
    did_made script c.args.frames.now c.args.caller.value c.args.at c.args.of c.args.arguments.now c.args.part c.in-Ok.values.items c.in-Ok.ensures c.answer_step.new.frames (g.D.Doer.fits c.perform_walk.new.doer) (g.D.Doer.stands c.args.doer.now)
    (g.D.Doer.stands c.perform_walk.new.doer) c.args.left.now c.perform_walk.new.left (g.W.Watch.history c.args.watch.now) (g.W.Watch.history c.perform_walk.new.watch) c.in-Did.answer c.in-Did.method c.in-Did.has_set
    (known_walk c.args.at class_op c.in-Ok.values.items c.args.left.now c.perform_walk.new.left (g.D.Doer.fits c.perform_walk.new.doer) (g.D.Doer.stands c.args.doer.now) (g.D.Doer.stands c.perform_walk.new.doer) (g.W.Watch.history c.args.watch.now)
    (g.W.Watch.history c.perform_walk.new.watch) c.in-Ok-perform_walk.came (Did c.in-Did.answer c.in-Did.method c.in-Did.has_set) c.in-Did.is c.in-Ok-perform_walk.ensures.walked) c.answer_step.result c.answer_step.ensures.means

pub returns-in-Did-clause-held : goal.returns-in-Did-clause-held
returns-in-Did-clause-held g c = λ table capture fit.
    let before = c.in-Ok-perform_walk.ensures.knew table capture fit in
    c.answer_step.ensures.held table (c.requires.held table capture before) (c.requires.caller table capture before) (c.requires.named table capture before) (c.requires.values table capture before)
    (walk_named c.args.at c.in-Ok.values.items (g.D.Doer.fits c.args.doer.now) (g.D.Doer.fits c.perform_walk.new.doer) (g.D.Doer.stands c.args.doer.now) (g.D.Doer.stands c.perform_walk.new.doer) c.args.left.now c.perform_walk.new.left (g.W.Watch.history c.args.watch.now)
    (g.W.Watch.history c.perform_walk.new.watch) c.in-Did.answer c.in-Did.method c.in-Did.has_set c.requires.state c.in-Ok-perform_walk.ensures.knew
    (known_walk c.args.at class_op c.in-Ok.values.items c.args.left.now c.perform_walk.new.left (g.D.Doer.fits c.perform_walk.new.doer) (g.D.Doer.stands c.args.doer.now) (g.D.Doer.stands c.perform_walk.new.doer) (g.W.Watch.history c.args.watch.now)
    (g.W.Watch.history c.perform_walk.new.watch) c.in-Ok-perform_walk.came (Did c.in-Did.answer c.in-Did.method c.in-Did.has_set) c.in-Did.is c.in-Ok-perform_walk.ensures.walked) table capture fit) (c.requires.stage table capture before)
