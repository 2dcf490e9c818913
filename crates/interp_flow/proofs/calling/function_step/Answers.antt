use Rattle.std.proofs.Common.{length, ap, sym, subst, ◌∙◌}
use Rattle.py_tree.specs.Erasure.{script_of}
use Rattle.flow_calls.specs.Choosing.{IsCalledBy, MayRun}
use Rattle.flow_frames.specs.declared.control.Callee.TheVariants.{Function}
use Rattle.flow_values.specs.Calls.{calling_so}
use Rattle.flow_values.proofs.Bodies.{fails_on}
use Rattle.flow_values.proofs.Stepping.{cut_from}
use Rattle.interp_flow.proofs.calling.function_step.Goals as goal

pub returns-in-Err-clause-step : goal.returns-in-Err-clause-step
returns-in-Err-clause-step g c =
    cut_from (script_of c.args.script.now) (calling_so (script_of c.args.script.now) c.args.frames.now c.args.caller.value c.args.at (Function c.args.place) c.args.values c.args.part) c.args.frames.now c.args.left.now (g.D.Doer.fits c.args.doer.now)
    (g.D.Doer.stands c.args.doer.now) (g.W.Watch.history c.args.watch.now) _

pub returns-in-Fails-clause-step : goal.returns-in-Fails-clause-step
returns-in-Fails-clause-step g c =
    fails_on (script_of c.args.script.now) c.args.frames.now c.args.caller.value c.args.at c.args.place c.args.values c.args.part c.fail_whole.new.frames (length c.as_slice-count.result.now) c.in-Fails.reason c.args.left.now
    (g.D.Doer.fits c.args.doer.now) (g.D.Doer.stands c.args.doer.now) (g.W.Watch.history c.args.watch.now)
    (subst (IsCalledBy (script_of c.args.script.now) c.args.place (length c.as_slice-count.result.now) c.args.frames.now.spot.open_activations) c.in-Fails.is c.in-Ok.ensures) (sym (ap length c.as_slice-count.ensures)) c.fail_whole.result
    c.fail_whole.ensures.means

pub returns-in-Fails-clause-held : goal.returns-in-Fails-clause-held
returns-in-Fails-clause-held g c = λ table capture fit. c.fail_whole.ensures.held table (c.requires.held table capture fit) tt (c.requires.values table capture fit)

pub enter_step-requires-clause-counted : goal.enter_step-requires-clause-counted
enter_step-requires-clause-counted g c =
    let may = subst (IsCalledBy (script_of c.args.script.now) c.args.place (length c.as_slice-count.result.now) c.args.frames.now.spot.open_activations) c.in-Runs.is c.in-Ok.ensures in
    sym (may.counted ∙ ap length c.as_slice-count.ensures)

pub enter_step-requires-clause-room : goal.enter_step-requires-clause-room
enter_step-requires-clause-room g c =
    let may = subst (IsCalledBy (script_of c.args.script.now) c.args.place (length c.as_slice-count.result.now) c.args.frames.now.spot.open_activations) c.in-Runs.is c.in-Ok.ensures in
    may.room

pub returns-in-Runs-clause-step : goal.returns-in-Runs-clause-step
returns-in-Runs-clause-step g c =
    let may = subst (IsCalledBy (script_of c.args.script.now) c.args.place (length c.as_slice-count.result.now) c.args.frames.now.spot.open_activations) c.in-Runs.is c.in-Ok.ensures in
    c.enter_step.ensures.step (script_of c.args.script.now) c.args.place
    (subst (λ n. MayRun (script_of c.args.script.now) c.args.place n c.args.frames.now.spot.open_activations c.in-Runs.found) (ap length c.as_slice-count.ensures) may)
