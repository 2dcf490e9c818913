use Rattle.py_tree.specs.Erasure.{expr_of, script_of}
use Rattle.interp_eval.specs.Step.{remaining}
use Rattle.interp_eval.specs.Weight.{no_values}
use Rattle.interp_eval.proofs.Weights.{skip_less, begin_less}
use Rattle.interp_eval.proofs.Steps.{stood_on, cut_here, absent_step, begun_step, steps_state}
use Rattle.interp_eval.proofs.step.eval_step.Goals as goal

pub returns-in-Ok-clause-held : goal.returns-in-Ok-clause-held
returns-in-Ok-clause-held g c = λ table capture fit. c.in-Ok.ensures.held table (c.requires.held table capture fit)

pub returns-in-Ok-clause-step : goal.returns-in-Ok-clause-step
returns-in-Ok-clause-step g c = λ next here go is_at table capture fit s stands steps.
    stood_on capture (remaining (script_of c.args.script.now) next here go table c.args.frames.now) (remaining (script_of c.args.script.now) next here go table c.skip.new.self) s _ _ _
    (absent_step (script_of c.args.script.now) next here go table c.args.frames.now c.skip.new.self c.in-Absent.rest c.in-Absent.ensures (c.in-Ok.ensures.means table)) stands steps

pub returns-in-Err-clause-step : goal.returns-in-Err-clause-step
returns-in-Err-clause-step g c = λ next here go is_at table capture fit s stands steps.
    cut_here capture (remaining (script_of c.args.script.now) next here go table c.args.frames.now) s _ _ stands

pub returns-in-Ok-begin-clause-held : goal.returns-in-Ok-begin-clause-held
returns-in-Ok-begin-clause-held g c = λ table capture fit. c.in-Ok-begin.ensures.held table (c.requires.held table capture fit)

pub returns-in-Ok-begin-clause-step : goal.returns-in-Ok-begin-clause-step
returns-in-Ok-begin-clause-step g c = λ next here go is_at table capture fit s stands steps.
    stood_on capture (remaining (script_of c.args.script.now) next here go table c.args.frames.now) (remaining (script_of c.args.script.now) next here go table c.begin.new.self) s _ _ _
    (begun_step (script_of c.args.script.now) next here go table c.args.frames.now c.begin.new.self (expr_of c.in-Begin.operand.now) c.in-Begin.rest c.in-Begin.ensures (c.in-Ok-begin.ensures.means table)) stands steps

pub returns-in-Err-begin-clause-step : goal.returns-in-Err-begin-clause-step
returns-in-Err-begin-clause-step g c = λ next here go is_at table capture fit s stands steps.
    cut_here capture (remaining (script_of c.args.script.now) next here go table c.args.frames.now) s _ _ stands

pub returns-in-Ok-clause-falls : goal.returns-in-Ok-clause-falls
returns-in-Ok-clause-falls g c = skip_less c.args.frames.now c.skip.new.self c.in-Absent.rest c.in-Absent.ensures (c.in-Ok.ensures.means no_values)

pub returns-in-Ok-begin-clause-falls : goal.returns-in-Ok-begin-clause-falls
returns-in-Ok-begin-clause-falls g c = begin_less c.args.frames.now c.begin.new.self (expr_of c.in-Begin.operand.now) c.in-Begin.rest c.in-Begin.ensures (c.in-Ok-begin.ensures.means no_values)

pub returns-in-Done-clause-state : goal.returns-in-Done-clause-state
returns-in-Done-clause-state g c =
    steps_state (script_of c.args.script.now) c.args.frames.now c.turn_step.new.frames c.args.left.now c.turn_step.new.left (g.D.Doer.fits c.args.doer.now) (g.D.Doer.fits c.turn_step.new.doer)
    (g.D.Doer.stands c.args.doer.now) (g.D.Doer.stands c.turn_step.new.doer) (g.W.Watch.history c.args.watch.now) (g.W.Watch.history c.turn_step.new.watch) c.turn_step.result
    c.turn_step.ensures.knew c.requires.state c.turn_step.ensures.step
