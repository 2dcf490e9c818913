use Rattle.std.proofs.Common.{map}
use Rattle.py_tree.specs.Erasure.{script_of}
use Rattle.py_value.specs.Contents.{contents}
use Rattle.interp_eval.specs.Seen.{finish_seen}
use Rattle.interp_eval.specs.Turns.{after_seen, want_seen}
use Rattle.interp_eval.specs.Weight.{no_values}
use Rattle.interp_eval.proofs.Weights.{after_lighter}
use Rattle.interp_eval.specs.Step.{remaining}
use Rattle.interp_eval.specs.declared.performing.Came.TheVariants.{Did, TooDear, Unanswered}
use Rattle.interp_eval.proofs.Steps.{cut_here, made_state, made_named, known_came, order_cut, order_spent, order_unanswered, order_raised, order_ended, order_value, order_named}
use Rattle.interp_eval.proofs.step.order_step.Goals as goal

pub returns-in_default-clause-step : goal.returns-in_default-clause-step
returns-in_default-clause-step g c = λ next here go is_at table capture fit s stands steps.
    cut_here capture (remaining (script_of c.args.script.now) next here go table c.args.frames.now) s _ _ stands

pub returns-in-Err-clause-step : goal.returns-in-Err-clause-step
returns-in-Err-clause-step g c = λ next here go is_at table capture fit s stands steps.
    cut_here capture (remaining (script_of c.args.script.now) next here go table c.args.frames.now) s _ _ (c.in-Err.ensures.makes table capture fit s stands)

pub perform-requires-clause-state : goal.perform-requires-clause-state
perform-requires-clause-state g c =
    made_state (g.D.Doer.fits c.args.doer.now) (g.D.Doer.fits c.make_op.new.doer) (g.D.Doer.stands c.args.doer.now) (g.D.Doer.stands c.make_op.new.doer) c.in-Ok-make_op.ensures.knew
    c.args.frames.now (script_of c.args.script.now) c.args.order c.in-Ok-make_op.op c.in-Ok-make_op.ensures.makes.1 c.requires.state

pub perform-requires-clause-named : goal.perform-requires-clause-named
perform-requires-clause-named g c =
    made_named (g.D.Doer.fits c.args.doer.now) (g.D.Doer.fits c.make_op.new.doer) (g.D.Doer.stands c.args.doer.now) (g.D.Doer.stands c.make_op.new.doer) c.in-Ok-make_op.ensures.knew
    c.args.frames.now (script_of c.args.script.now) c.args.order c.in-Ok-make_op.op c.in-Ok-make_op.ensures.makes.1 c.in-Ok.values.items c.in-Ok.ensures.named c.requires.held

pub returns-in-Err-perform-clause-step : goal.returns-in-Err-perform-clause-step
returns-in-Err-perform-clause-step g c =
    order_cut (script_of c.args.script.now) c.args.frames.now c.args.order c.in-Ok-make_op.op c.in-Ok.values.items (g.D.Doer.fits c.make_op.new.doer) (g.D.Doer.fits c.perform.new.doer)
    (g.D.Doer.stands c.args.doer.now) (g.D.Doer.stands c.make_op.new.doer) (g.D.Doer.stands c.perform.new.doer) c.args.left.now c.perform.new.left (g.W.Watch.history c.args.watch.now) (g.W.Watch.history c.perform.new.watch)
    c.requires.whole c.requires.turn c.in-Ok.ensures.means c.in-Err-perform.ensures.knew c.in-Ok-make_op.ensures.makes.1
    c.in-Err-perform.ensures.performed

pub returns-in-TooDear-clause-step : goal.returns-in-TooDear-clause-step
returns-in-TooDear-clause-step g c =
    order_spent (script_of c.args.script.now) c.args.frames.now c.args.order c.in-Ok-make_op.op c.in-Ok.values.items (g.D.Doer.fits c.make_op.new.doer) (g.D.Doer.fits c.perform.new.doer)
    (g.D.Doer.stands c.args.doer.now) (g.D.Doer.stands c.make_op.new.doer) (g.D.Doer.stands c.perform.new.doer) c.args.left.now c.perform.new.left (g.W.Watch.history c.args.watch.now) (g.W.Watch.history c.perform.new.watch)
    c.requires.whole c.requires.turn c.in-Ok.ensures.means c.in-Ok-perform.ensures.knew c.in-Ok-make_op.ensures.makes.1
    (known_came c.args.order.at c.in-Ok-make_op.op c.in-Ok.values.items c.args.left.now c.perform.new.left (g.D.Doer.fits c.perform.new.doer) (g.D.Doer.stands c.make_op.new.doer) (g.D.Doer.stands c.perform.new.doer)
    (g.W.Watch.history c.args.watch.now) (g.W.Watch.history c.perform.new.watch) c.in-Ok-perform.came TooDear c.in-TooDear.is c.in-Ok-perform.ensures.performed)

pub returns-in-Unanswered-clause-step : goal.returns-in-Unanswered-clause-step
returns-in-Unanswered-clause-step g c =
    order_unanswered (script_of c.args.script.now) c.args.frames.now c.args.order c.in-Ok-make_op.op c.in-Ok.values.items (g.D.Doer.fits c.make_op.new.doer) (g.D.Doer.fits c.perform.new.doer)
    (g.D.Doer.stands c.args.doer.now) (g.D.Doer.stands c.make_op.new.doer) (g.D.Doer.stands c.perform.new.doer) c.args.left.now c.perform.new.left (g.W.Watch.history c.args.watch.now) (g.W.Watch.history c.perform.new.watch)
    c.requires.whole c.requires.turn c.in-Ok.ensures.means c.in-Ok-perform.ensures.knew c.in-Ok-make_op.ensures.makes.1
    (known_came c.args.order.at c.in-Ok-make_op.op c.in-Ok.values.items c.args.left.now c.perform.new.left (g.D.Doer.fits c.perform.new.doer) (g.D.Doer.stands c.make_op.new.doer) (g.D.Doer.stands c.perform.new.doer)
    (g.W.Watch.history c.args.watch.now) (g.W.Watch.history c.perform.new.watch) c.in-Ok-perform.came Unanswered c.in-Unanswered.is c.in-Ok-perform.ensures.performed)

pub returns-in-Raised-clause-step : goal.returns-in-Raised-clause-step
returns-in-Raised-clause-step g c =
    order_raised (script_of c.args.script.now) c.args.frames.now c.args.order c.in-Ok-make_op.op c.in-Ok.values.items (g.D.Doer.fits c.make_op.new.doer) (g.D.Doer.fits c.perform.new.doer)
    (g.D.Doer.stands c.args.doer.now) (g.D.Doer.stands c.make_op.new.doer) (g.D.Doer.stands c.perform.new.doer) c.args.left.now c.perform.new.left (g.W.Watch.history c.args.watch.now) (g.W.Watch.history c.perform.new.watch)
    c.requires.whole c.requires.turn c.in-Ok.ensures.means c.in-Ok-perform.ensures.knew c.in-Ok-make_op.ensures.makes.1 c.in-Did.method c.in-Did.answer c.in-Raised.o c.in-Raised.is
    (known_came c.args.order.at c.in-Ok-make_op.op c.in-Ok.values.items c.args.left.now c.perform.new.left (g.D.Doer.fits c.perform.new.doer) (g.D.Doer.stands c.make_op.new.doer) (g.D.Doer.stands c.perform.new.doer)
    (g.W.Watch.history c.args.watch.now) (g.W.Watch.history c.perform.new.watch) c.in-Ok-perform.came (Did c.in-Did.answer c.in-Did.method) c.in-Did.is c.in-Ok-perform.ensures.performed)

pub returns-in-End-clause-step : goal.returns-in-End-clause-step
returns-in-End-clause-step g c =
    order_ended (script_of c.args.script.now) c.args.frames.now c.args.order c.in-Ok-make_op.op c.in-Ok.values.items (g.D.Doer.fits c.make_op.new.doer) (g.D.Doer.fits c.perform.new.doer)
    (g.D.Doer.stands c.args.doer.now) (g.D.Doer.stands c.make_op.new.doer) (g.D.Doer.stands c.perform.new.doer) c.args.left.now c.perform.new.left (g.W.Watch.history c.args.watch.now) (g.W.Watch.history c.perform.new.watch)
    c.requires.whole c.requires.turn c.in-Ok.ensures.means c.in-Ok-perform.ensures.knew c.in-Ok-make_op.ensures.makes.1 c.in-Did.method c.in-Did.answer c.in-End.is
    (known_came c.args.order.at c.in-Ok-make_op.op c.in-Ok.values.items c.args.left.now c.perform.new.left (g.D.Doer.fits c.perform.new.doer) (g.D.Doer.stands c.make_op.new.doer) (g.D.Doer.stands c.perform.new.doer)
    (g.W.Watch.history c.args.watch.now) (g.W.Watch.history c.perform.new.watch) c.in-Ok-perform.came (Did c.in-Did.answer c.in-Did.method) c.in-Did.is c.in-Ok-perform.ensures.performed)

pub returns-in-Value-clause-step : goal.returns-in-Value-clause-step
returns-in-Value-clause-step g c =
    order_value (script_of c.args.script.now) c.args.frames.now c.args.order c.in-Ok-make_op.op c.in-Ok.values.items (g.D.Doer.fits c.make_op.new.doer) (g.D.Doer.fits c.perform.new.doer)
    (g.D.Doer.stands c.args.doer.now) (g.D.Doer.stands c.make_op.new.doer) (g.D.Doer.stands c.perform.new.doer) c.args.left.now c.perform.new.left (g.W.Watch.history c.args.watch.now) (g.W.Watch.history c.perform.new.watch)
    c.requires.whole c.requires.turn c.in-Ok.ensures.means c.in-Ok-perform.ensures.knew c.in-Ok-make_op.ensures.makes.1 c.in-Did.method c.in-Did.answer c.in-Value.value c.in-Value.is
    (known_came c.args.order.at c.in-Ok-make_op.op c.in-Ok.values.items c.args.left.now c.perform.new.left (g.D.Doer.fits c.perform.new.doer) (g.D.Doer.stands c.make_op.new.doer) (g.D.Doer.stands c.perform.new.doer)
    (g.W.Watch.history c.args.watch.now) (g.W.Watch.history c.perform.new.watch) c.in-Ok-perform.came (Did c.in-Did.answer c.in-Did.method) c.in-Did.is c.in-Ok-perform.ensures.performed)
    c.go_on.new.self c.go_on.result c.go_on.ensures.means

pub returns-in-Value-clause-held : goal.returns-in-Value-clause-held
returns-in-Value-clause-held g c = λ table capture fit.
    c.go_on.ensures.held table (c.requires.held table capture (c.in-Ok-make_op.ensures.knew table capture (c.in-Ok-perform.ensures.knew table capture fit)))
    (order_named (script_of c.args.script.now) c.args.frames.now c.args.order c.in-Ok-make_op.op c.in-Ok.values.items (g.D.Doer.fits c.make_op.new.doer) (g.D.Doer.fits c.perform.new.doer)
    (g.D.Doer.stands c.args.doer.now) (g.D.Doer.stands c.make_op.new.doer) (g.D.Doer.stands c.perform.new.doer) c.args.left.now c.perform.new.left (g.W.Watch.history c.args.watch.now) (g.W.Watch.history c.perform.new.watch)
    c.requires.whole c.requires.turn c.in-Ok.ensures.means c.in-Ok-perform.ensures.knew c.in-Ok-make_op.ensures.makes.1 c.in-Did.method (g.D.Doer.fits c.args.doer.now) c.in-Ok-make_op.ensures.knew c.requires.state c.in-Did.answer c.in-Value.value c.in-Value.is
    (known_came c.args.order.at c.in-Ok-make_op.op c.in-Ok.values.items c.args.left.now c.perform.new.left (g.D.Doer.fits c.perform.new.doer) (g.D.Doer.stands c.make_op.new.doer) (g.D.Doer.stands c.perform.new.doer)
    (g.W.Watch.history c.args.watch.now) (g.W.Watch.history c.perform.new.watch) c.in-Ok-perform.came (Did c.in-Did.answer c.in-Did.method) c.in-Did.is c.in-Ok-perform.ensures.performed) table capture fit)

pub returns-in-Value-clause-falls : goal.returns-in-Value-clause-falls
returns-in-Value-clause-falls g c =
    c.go_on.ensures.falls (after_lighter c.args.frames.now.top.node.at c.args.order.at c.args.order.no (want_seen no_values c.args.order.want) c.args.order.skip (after_seen c.args.order.after)
    (finish_seen no_values c.args.frames.now.top.node.finish) (map (contents no_values) c.args.frames.now.top.have.items) (c.requires.turn no_values))
