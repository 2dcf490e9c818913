use Rattle.trial_show.proofs.Shown.{shown}
use Rattle.trial_show.proofs.show.show_text.Goals as goal

pub returns-in-Ok-text-clause-shows : goal.returns-in-Ok-text-clause-shows
returns-in-Ok-text-clause-shows g c = shown _ _ c.args.number c.in-Ok.trial c.in-Ok-text.text c.in-Ok-text.ensures c.in-Ok.ensures.loads

pub returns-in-Ok-text-clause-of_trial : goal.returns-in-Ok-text-clause-of_trial
returns-in-Ok-text-clause-of_trial g c = record { trial = c.in-Ok.trial; is_trial = c.in-Ok.ensures.is_trial; lines = c.in-Ok-text.ensures }
