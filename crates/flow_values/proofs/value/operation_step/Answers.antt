use Rattle.py_tree.specs.Erasure.{script_of}
use Rattle.interp_eval.specs.declared.performing.Came.TheVariants.{Did, TooDear, Unanswered}
use Rattle.interp_eval.proofs.Steps.{all_named, known_came}
use Rattle.flow_values.proofs.Operating.{too_dear_from, unanswered_from, cut_performed, did_from, cut_taking, code_state, happened_named, made_cut}
use Rattle.flow_values.proofs.value.operation_step.Goals as goal

pub returns-in-Err-clause-step : goal.returns-in-Err-clause-step
returns-in-Err-clause-step g c = λ table capture fit s stood steps n enough.
    made_cut (script_of c.args.script.now) c.args.frames.now c.args.at c.args.code c.args.values.items c.args.part table capture s n (g.D.Doer.stands c.code_op.new.doer table capture) (g.W.Watch.history c.args.watch.now) (c.in-Err.ensures.makes table capture fit s stood)

pub perform-requires-clause-state : goal.perform-requires-clause-state
perform-requires-clause-state g c =
    code_state (script_of c.args.script.now) c.args.frames.now.spot.scope c.args.code c.in-Ok.op (g.D.Doer.fits c.args.doer.now) (g.D.Doer.fits c.code_op.new.doer) (g.D.Doer.stands c.args.doer.now) (g.D.Doer.stands c.code_op.new.doer)
    c.in-Ok.ensures.knew c.requires.state c.in-Ok.ensures.makes.1

pub perform-requires-clause-operation : goal.perform-requires-clause-operation
perform-requires-clause-operation g c = c.in-Ok.ensures.makes.0

pub perform-requires-clause-named : goal.perform-requires-clause-named
perform-requires-clause-named g c = λ table capture fit. all_named table c.args.values.items (c.requires.values table capture (c.in-Ok.ensures.knew table capture fit))

pub returns-in-Err-perform-clause-step : goal.returns-in-Err-perform-clause-step
returns-in-Err-perform-clause-step g c =
    cut_performed (script_of c.args.script.now) c.args.frames.now c.args.at c.args.code c.args.values.items c.args.part c.in-Ok.op c.args.frames.now (g.D.Doer.fits c.code_op.new.doer) (g.D.Doer.fits c.perform.new.doer) (g.D.Doer.stands c.args.doer.now) (g.D.Doer.stands c.code_op.new.doer) (g.D.Doer.stands c.perform.new.doer)
    c.args.left.now c.perform.new.left (g.W.Watch.history c.args.watch.now) (g.W.Watch.history c.perform.new.watch) c.in-Err-perform.ensures.knew c.in-Ok.ensures.makes.1 _ c.in-Err-perform.ensures.performed

pub returns-in-TooDear-clause-step : goal.returns-in-TooDear-clause-step
returns-in-TooDear-clause-step g c =
    too_dear_from (script_of c.args.script.now) c.args.frames.now c.args.at c.args.code c.args.values.items c.args.part c.in-Ok.op c.args.frames.now (g.D.Doer.fits c.code_op.new.doer) (g.D.Doer.fits c.perform.new.doer) (g.D.Doer.stands c.args.doer.now) (g.D.Doer.stands c.code_op.new.doer) (g.D.Doer.stands c.perform.new.doer)
    c.args.left.now c.perform.new.left (g.W.Watch.history c.args.watch.now) (g.W.Watch.history c.perform.new.watch) c.in-Ok-perform.ensures.knew c.in-Ok.ensures.makes.1
    (known_came c.args.at c.in-Ok.op c.args.values.items c.args.left.now c.perform.new.left (g.D.Doer.fits c.perform.new.doer) (g.D.Doer.stands c.code_op.new.doer) (g.D.Doer.stands c.perform.new.doer)
    (g.W.Watch.history c.args.watch.now) (g.W.Watch.history c.perform.new.watch) c.in-Ok-perform.came TooDear c.in-TooDear.is c.in-Ok-perform.ensures.performed)

pub returns-in-Unanswered-clause-step : goal.returns-in-Unanswered-clause-step
returns-in-Unanswered-clause-step g c =
    unanswered_from (script_of c.args.script.now) c.args.frames.now c.args.at c.args.code c.args.values.items c.args.part c.in-Ok.op c.args.frames.now (g.D.Doer.fits c.code_op.new.doer) (g.D.Doer.fits c.perform.new.doer) (g.D.Doer.stands c.args.doer.now) (g.D.Doer.stands c.code_op.new.doer) (g.D.Doer.stands c.perform.new.doer)
    c.args.left.now c.perform.new.left (g.W.Watch.history c.args.watch.now) (g.W.Watch.history c.perform.new.watch) c.in-Ok-perform.ensures.knew c.in-Ok.ensures.makes.1
    (known_came c.args.at c.in-Ok.op c.args.values.items c.args.left.now c.perform.new.left (g.D.Doer.fits c.perform.new.doer) (g.D.Doer.stands c.code_op.new.doer) (g.D.Doer.stands c.perform.new.doer)
    (g.W.Watch.history c.args.watch.now) (g.W.Watch.history c.perform.new.watch) c.in-Ok-perform.came Unanswered c.in-Unanswered.is c.in-Ok-perform.ensures.performed)

pub returns-in-Ok-take-clause-step : goal.returns-in-Ok-take-clause-step
returns-in-Ok-take-clause-step g c =
    did_from (script_of c.args.script.now) c.args.frames.now c.args.at c.args.code c.args.values.items c.args.part c.in-Ok.op c.take.new.frames (g.D.Doer.fits c.code_op.new.doer) (g.D.Doer.fits c.perform.new.doer) (g.D.Doer.stands c.args.doer.now) (g.D.Doer.stands c.code_op.new.doer) (g.D.Doer.stands c.perform.new.doer)
    c.args.left.now c.perform.new.left (g.W.Watch.history c.args.watch.now) (g.W.Watch.history c.perform.new.watch) c.in-Ok-perform.ensures.knew c.in-Ok.ensures.makes.1 c.in-Did.answer c.in-Did.field-1
    (known_came c.args.at c.in-Ok.op c.args.values.items c.args.left.now c.perform.new.left (g.D.Doer.fits c.perform.new.doer) (g.D.Doer.stands c.code_op.new.doer) (g.D.Doer.stands c.perform.new.doer)
    (g.W.Watch.history c.args.watch.now) (g.W.Watch.history c.perform.new.watch) c.in-Ok-perform.came (Did c.in-Did.answer c.in-Did.field-1) c.in-Did.is c.in-Ok-perform.ensures.performed) c.in-Ok-take.ensures.means

pub returns-in-Ok-take-clause-held : goal.returns-in-Ok-take-clause-held
returns-in-Ok-take-clause-held g c = λ table capture fit.
    let between = c.in-Ok-perform.ensures.knew table capture fit in
    let before = c.in-Ok.ensures.knew table capture between in
    c.in-Ok-take.ensures.held table (c.requires.held table capture before) (c.requires.stage table capture before)
    (happened_named (script_of c.args.script.now) c.args.frames.now c.args.at c.args.code c.args.values.items c.args.part c.in-Ok.op c.args.frames.now (g.D.Doer.fits c.code_op.new.doer) (g.D.Doer.fits c.perform.new.doer) (g.D.Doer.stands c.args.doer.now) (g.D.Doer.stands c.code_op.new.doer) (g.D.Doer.stands c.perform.new.doer)
    c.args.left.now c.perform.new.left (g.W.Watch.history c.args.watch.now) (g.W.Watch.history c.perform.new.watch) c.in-Ok-perform.ensures.knew c.in-Ok.ensures.makes.1 c.in-Did.answer c.in-Did.field-1 c.requires.state c.in-Ok.ensures.knew
    (known_came c.args.at c.in-Ok.op c.args.values.items c.args.left.now c.perform.new.left (g.D.Doer.fits c.perform.new.doer) (g.D.Doer.stands c.code_op.new.doer) (g.D.Doer.stands c.perform.new.doer)
    (g.W.Watch.history c.args.watch.now) (g.W.Watch.history c.perform.new.watch) c.in-Ok-perform.came (Did c.in-Did.answer c.in-Did.field-1) c.in-Did.is c.in-Ok-perform.ensures.performed) table capture fit)

pub returns-in-Err-take-clause-step : goal.returns-in-Err-take-clause-step
returns-in-Err-take-clause-step g c =
    cut_taking (script_of c.args.script.now) c.args.frames.now c.args.at c.args.code c.args.values.items c.args.part c.in-Ok.op c.take.new.frames (g.D.Doer.fits c.code_op.new.doer) (g.D.Doer.fits c.perform.new.doer) (g.D.Doer.stands c.args.doer.now) (g.D.Doer.stands c.code_op.new.doer) (g.D.Doer.stands c.perform.new.doer)
    c.args.left.now c.perform.new.left (g.W.Watch.history c.args.watch.now) (g.W.Watch.history c.perform.new.watch) c.in-Ok-perform.ensures.knew c.in-Ok.ensures.makes.1 c.in-Did.answer c.in-Did.field-1
    (known_came c.args.at c.in-Ok.op c.args.values.items c.args.left.now c.perform.new.left (g.D.Doer.fits c.perform.new.doer) (g.D.Doer.stands c.code_op.new.doer) (g.D.Doer.stands c.perform.new.doer)
    (g.W.Watch.history c.args.watch.now) (g.W.Watch.history c.perform.new.watch) c.in-Ok-perform.came (Did c.in-Did.answer c.in-Did.field-1) c.in-Did.is c.in-Ok-perform.ensures.performed) _
