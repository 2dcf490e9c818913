use Rattle.std.proofs.Common.{rules}
use Rattle.trial_slice.proofs.Questions.{answered, lacking, unloaded}
use Rattle.trial_value.specs.Values.{IsValueAt, LacksEvaluation}
use Rattle.trial_value.proofs.text.recorded_value_text.Goals as goal

pub returns-in-Err-clause-answers : goal.returns-in-Err-clause-answers
returns-in-Err-clause-answers g c = unloaded (IsValueAt c.args.at c.args.k) (LacksEvaluation c.args.at c.args.k) _ _ c.args.number c.in-Err.fault c.in-Err.ensures.loads

pub returns-in-Ok-value-clause-answers : goal.returns-in-Ok-value-clause-answers
returns-in-Ok-value-clause-answers g c =
    answered (IsValueAt c.args.at c.args.k) (LacksEvaluation c.args.at c.args.k) _ _ c.args.number c.in-Ok.trial c.in-Ok-value.text c.in-Ok-value.ensures.value c.in-Ok.ensures.loads

pub returns-in-Err-NoEvaluation-clause-answers : goal.returns-in-Err-NoEvaluation-clause-answers
returns-in-Err-NoEvaluation-clause-answers g c =
    lacking (IsValueAt c.args.at c.args.k) (LacksEvaluation c.args.at c.args.k) _ _ c.args.number c.in-Ok.trial (c.recorded_value-value.ensures.absent (search rules)) c.in-Ok.ensures.loads

pub returns-in-Err-NoEvaluation-clause-of_trial : goal.returns-in-Err-NoEvaluation-clause-of_trial
returns-in-Err-NoEvaluation-clause-of_trial g c = record { trial = c.in-Ok.trial; is_trial = c.in-Ok.ensures.is_trial; so = c.recorded_value-value.ensures.absent (search rules) }
