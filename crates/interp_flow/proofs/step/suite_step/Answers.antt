use Rattle.std.proofs.Common.{true, false, ◌∙◌}
use Rattle.std.proofs.lemmas.List.{nil_from_length}
use Rattle.py_model.specs.Meaning.{level}
use Rattle.flow_frames.specs.Machine.{remaining}
use Rattle.flow_frames.specs.Seen.{flow_seen}
use Rattle.flow_frames.specs.declared.control.Now.TheVariants.{InSuite}
use Rattle.flow_values.specs.Step.{doing_now}
use Rattle.flow_values.proofs.Fronts.{at_end, in_front, begins_first, behind_begin}
use Rattle.flow_values.proofs.Stepping.{begun_so, stood_on, not_told, begun_on, begun_cut, none_left}
use Rattle.interp_flow.proofs.step.suite_step.Goals as goal

pub returns-in_default-clause-step : goal.returns-in_default-clause-step
returns-in_default-clause-step g c = λ script table capture fit s stands steps n enough.
    stood_on capture (doing_now script c.args.frames.now (InSuite c.args.stmts) table (level script n)) _ s c.args.left.now c.args.left.now (g.D.Doer.stands c.args.doer.now table capture)
    (g.W.Watch.history c.args.watch.now) (g.W.Watch.history c.args.watch.now)
    (at_end script (level script n) table c.args.frames.now c.args.stmts (nil_from_length c.args.stmts.now c.in_default.ensures.cases)) stands steps

pub returns-in-Err-clause-step : goal.returns-in-Err-clause-step
returns-in-Err-clause-step g c = λ script table capture fit s stands steps n enough.
    not_told capture (doing_now script c.args.frames.now (InSuite c.args.stmts) table (level script n)) (doing_now script c.args.frames.now (InSuite c.args.stmts) table (level script n)) s c.args.left.now c.args.left.now (g.D.Doer.stands c.begin.new.doer table capture)
    (g.W.Watch.history c.args.watch.now) (g.W.Watch.history c.begin.new.watch) (c.in-Err.ensures.begun table capture fit s stands)

pub returns-in-Ok-false-clause-step : goal.returns-in-Ok-false-clause-step
returns-in-Ok-false-clause-step g c = λ script table capture fit s stands steps n enough.
    let known = begun_so c.in-Some.stmt.now.no c.args.left.now c.begin.new.left (g.D.Doer.fits c.begin.new.doer) (g.D.Doer.stands c.args.doer.now) (g.D.Doer.stands c.begin.new.doer)
    (g.W.Watch.history c.args.watch.now) (g.W.Watch.history c.begin.new.watch) c.in-Ok-false.field-0 false c.in-Ok-false.field-0-test c.in-Ok-false.ensures.begun in
    none_left capture (doing_now script c.args.frames.now (InSuite c.args.stmts) table (level script n)) (behind_begin script (level script n) table c.args.frames.now c.args.stmts c.in-Some.stmt.now c.in-Some.rest.now) s c.args.left.now c.begin.new.left
    (g.D.Doer.stands c.begin.new.doer table capture) (g.W.Watch.history c.args.watch.now) (g.W.Watch.history c.begin.new.watch) c.in-Some.stmt.now.no
    (begins_first script (level script n) table c.args.frames.now c.args.stmts c.in-Some.stmt.now c.in-Some.rest.now c.in-Some.ensures.cases.0) steps
    known.0 known.1.0 known.1.1.0 (known.1.1.1 table capture fit s stands)

pub returns-in-Ok-clause-step : goal.returns-in-Ok-clause-step
returns-in-Ok-clause-step g c = λ script table capture fit s stands steps n enough.
    let known = begun_so c.in-Some.stmt.now.no c.args.left.now c.begin.new.left (g.D.Doer.fits c.begin.new.doer) (g.D.Doer.stands c.args.doer.now) (g.D.Doer.stands c.begin.new.doer)
    (g.W.Watch.history c.args.watch.now) (g.W.Watch.history c.begin.new.watch) c.in-Ok-true.field-0 true c.in-Ok-true.field-0-test c.in-Ok-true.ensures.begun in
    begun_on capture (doing_now script c.args.frames.now (InSuite c.args.stmts) table (level script n)) (remaining script (level script n) (flow_seen script table c.open_stmt.new.frames)) s c.args.left.now c.begin.new.left
    (g.D.Doer.stands c.begin.new.doer table capture) (g.W.Watch.history c.args.watch.now) (g.W.Watch.history c.begin.new.watch) c.in-Some.stmt.now.no
    (in_front script (level script n) table c.args.frames.now c.args.stmts c.in-Some.stmt.now c.in-Some.rest.now c.in-Some.ensures.cases.0 ∙ c.in-Ok.ensures.means script (level script n) table) steps
    known.0 (known.1 table capture fit s stands)

pub returns-in-Err-open_stmt-clause-step : goal.returns-in-Err-open_stmt-clause-step
returns-in-Err-open_stmt-clause-step g c = λ script table capture fit s stands steps n enough.
    let known = begun_so c.in-Some.stmt.now.no c.args.left.now c.begin.new.left (g.D.Doer.fits c.begin.new.doer) (g.D.Doer.stands c.args.doer.now) (g.D.Doer.stands c.begin.new.doer)
    (g.W.Watch.history c.args.watch.now) (g.W.Watch.history c.begin.new.watch) c.in-Ok-true.field-0 true c.in-Ok-true.field-0-test c.in-Ok-true.ensures.begun in
    begun_cut capture (doing_now script c.args.frames.now (InSuite c.args.stmts) table (level script n)) (behind_begin script (level script n) table c.args.frames.now c.args.stmts c.in-Some.stmt.now c.in-Some.rest.now) s c.args.left.now c.begin.new.left
    (g.D.Doer.stands c.begin.new.doer table capture) (g.W.Watch.history c.args.watch.now) (g.W.Watch.history c.begin.new.watch) c.in-Some.stmt.now.no
    (begins_first script (level script n) table c.args.frames.now c.args.stmts c.in-Some.stmt.now c.in-Some.rest.now c.in-Some.ensures.cases.0) steps
    known.0 (known.1 table capture fit s stands)

pub returns-in-Ok-clause-held : goal.returns-in-Ok-clause-held
returns-in-Ok-clause-held g c = λ table capture fit. c.in-Ok.ensures.held table (c.requires.held table capture (c.begin.ensures.knew table capture fit))
