use Rattle.std.proofs.Common.{sym, subst}
use Rattle.prov_base.specs.declared.refusal.Memory.{Memory}
use Rattle.interp_eval.specs.Held.{AreAllNamed}
use Rattle.flow_values.specs.Calls.{failing_so}
use Rattle.flow_values.specs.Value.{GoesOnFrom}
use Rattle.flow_values.proofs.entering.fail_call.Goals as goal

pub returns-in-Ok-clause-means : goal.returns-in-Ok-clause-means
returns-in-Ok-clause-means c =
    subst (λ vs. GoesOnFrom {E = Memory} (λ script. failing_so script c.args.frames.now c.args.at c.args.reason vs) c.wait_fail.new.frames c.wait_fail.result) c.in-Ok.ensures c.wait_fail.ensures.means

pub returns-in-Ok-clause-held : goal.returns-in-Ok-clause-held
returns-in-Ok-clause-held c = λ table old named args. c.wait_fail.ensures.held table old (subst (AreAllNamed table) (sym c.in-Ok.ensures) (named, args))
