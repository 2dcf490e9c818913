use Rattle.std.proofs.Common.{true, ap, sym, ◌∙◌, subst}
use Rattle.py_tree.specs.Erasure.{script_of}
use Rattle.interp_eval.specs.Step.{remaining}
use Rattle.interp_eval.specs.Turns.{turn_seen, IsOfOperation}
use Rattle.interp_eval.specs.Values.{behind_values}
use Rattle.interp_eval.proofs.Steps.{cut_here, call_step}
use Rattle.interp_eval.proofs.step.turn_step.Goals as goal

pub returns-in-Ok-clause-step : goal.returns-in-Ok-clause-step
returns-in-Ok-clause-step g c = λ next here go is_at table capture fit s stands steps.
    call_step (script_of c.args.script.now) next here go table c.args.frames.now c.in-Call.callee c.of.result c.args.left.now (g.D.Doer.stands c.args.doer.now table capture) (g.W.Watch.history c.args.watch.now) s c.requires.whole
    (ap (turn_seen table) (sym c.in-Call.is) ∙ c.turn.ensures.means table) (c.of.ensures ∙ c.in-Ok.ensures ∙ ap (λ vs. behind_values vs true) c.as_slice.ensures.value)
    (subst IsOfOperation c.in-Call.is c.turn.ensures.operation) stands steps

pub returns-in-Err-clause-step : goal.returns-in-Err-clause-step
returns-in-Err-clause-step g c = λ next here go is_at table capture fit s stands steps.
    cut_here capture (remaining (script_of c.args.script.now) next here go table c.args.frames.now) s _ _ stands
