use Rattle.trial_slice.proofs.Questions.{answered, unloaded}
use Rattle.dep_query.specs.Dataflows.{IsDataflow, LacksDataflow}
use Rattle.dep_query.proofs.text.dataflow_text.Goals as goal

pub returns-in-Err-clause-answers : goal.returns-in-Err-clause-answers
returns-in-Err-clause-answers g c = unloaded IsDataflow LacksDataflow _ _ c.args.number c.in-Err.fault c.in-Err.ensures.loads

pub returns-in-Ok-text-clause-answers : goal.returns-in-Ok-text-clause-answers
returns-in-Ok-text-clause-answers g c = answered IsDataflow LacksDataflow _ _ c.args.number c.in-Ok.trial c.in-Ok-text.text c.in-Ok-text.ensures c.in-Ok.ensures.loads

pub returns-in-Ok-text-clause-of_trial : goal.returns-in-Ok-text-clause-of_trial
returns-in-Ok-text-clause-of_trial g c = record { trial = c.in-Ok.trial; is_trial = c.in-Ok.ensures.is_trial; answer = c.in-Ok-text.ensures }
