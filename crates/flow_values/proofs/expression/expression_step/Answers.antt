use Rattle.py_tree.specs.Erasure.{script_of}
use Rattle.flow_values.proofs.Expressions.{held_evaluation, now_cut, now_keeps, now_taken}
use Rattle.flow_values.proofs.expression.expression_step.Goals as goal

pub now_on-requires-clause-held : goal.now_on-requires-clause-held
now_on-requires-clause-held g c = λ table capture fit. held_evaluation table c.args.frames.now.spot.scope c.args.frames.now.now (c.requires.held table capture fit).now

pub returns-in-Err-clause-step : goal.returns-in-Err-clause-step
returns-in-Err-clause-step g c =
    now_cut (script_of c.args.script.now) c.args.frames.now (record c.args.frames.now { now = c.now_on.new.now }) (g.D.Doer.fits c.args.doer.now) (g.D.Doer.fits c.now_on.new.doer) (g.D.Doer.stands c.args.doer.now) (g.D.Doer.stands c.now_on.new.doer)
    c.args.left.now c.now_on.new.left (g.W.Watch.history c.args.watch.now) (g.W.Watch.history c.now_on.new.watch) c.in-Err.ensures.knew c.args.frames.now.now c.now_on.new.now c.requires.evaluates
    (λ table capture fit. (c.requires.held table capture fit).now) _ c.in-Err.ensures.evaluated

pub returns-in-Ok-clause-step : goal.returns-in-Ok-clause-step
returns-in-Ok-clause-step g c =
    now_taken (script_of c.args.script.now) (record c.args.frames.now { now = c.now_on.new.now }) c.taken.new.frames (g.D.Doer.fits c.args.doer.now) (g.D.Doer.fits c.now_on.new.doer) (g.D.Doer.stands c.args.doer.now) (g.D.Doer.stands c.now_on.new.doer)
    c.args.left.now c.now_on.new.left (g.W.Watch.history c.args.watch.now) (g.W.Watch.history c.now_on.new.watch) c.in-Ok.ensures.knew c.args.frames.now.now c.now_on.new.now c.requires.evaluates
    (λ table capture fit. (c.requires.held table capture fit).now) c.in-Ok.next c.taken.result c.in-Ok.ensures.evaluated c.taken.ensures.means

pub returns-in-Ok-clause-held : goal.returns-in-Ok-clause-held
returns-in-Ok-clause-held g c = λ table capture fit.
    let old = c.requires.held table capture (c.in-Ok.ensures.knew table capture fit) in
    c.taken.ensures.held table (old.spot, old.below)
    (now_keeps (script_of c.args.script.now) table capture c.args.frames.now.spot.scope c.args.left.now c.now_on.new.left (g.D.Doer.fits c.now_on.new.doer) (g.D.Doer.stands c.args.doer.now) (g.D.Doer.stands c.now_on.new.doer)
    (g.W.Watch.history c.args.watch.now) (g.W.Watch.history c.now_on.new.watch) c.in-Ok.next fit c.args.frames.now.now c.now_on.new.now c.requires.evaluates old.now c.in-Ok.ensures.evaluated)
