use Rattle.std.proofs.Common.{[], ◌∷◌}
use Rattle.trial_history.specs.Restoring.{found_files}
use Rattle.trial_history.proofs.Putting.{puts_stop, puts_then}
use Rattle.trial_history.proofs.puts.put_files.Goals as goal

pub returns-in-Err-clause-puts : goal.returns-in-Err-clause-puts
returns-in-Err-clause-puts g c = puts_stop ((c.args.path.now, c.args.text.now) ∷ []) (found_files c.args.files.now) c.in-Err.fault _ _ _ _ _ _ c.in-Err.ensures.puts

pub returns-clause-puts : goal.returns-clause-puts
returns-clause-puts g c =
    puts_then ((c.args.path.now, c.args.text.now) ∷ []) (found_files c.args.files.now) c.put_inputs.result _ _ _ _ _ _ _ _ _ c.in_default.ensures.puts c.put_inputs.ensures.puts
