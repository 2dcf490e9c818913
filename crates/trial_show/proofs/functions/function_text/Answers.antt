use Rattle.std.proofs.Common.{rules, append_assoc}
use Rattle.trial_show.proofs.functions.function_text.Goals as goal

pub returns : goal.returns
returns c = search (rules, append_assoc)
