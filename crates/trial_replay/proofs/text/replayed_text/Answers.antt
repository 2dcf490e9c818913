use Rattle.std.proofs.Common.{rules}
use Rattle.trial_slice.proofs.Questions.{answered, lacking, unloaded}
use Rattle.trial_value.specs.Values.{LacksEvaluation}
use Rattle.trial_replay.specs.Replays.{IsReplayAt}
use Rattle.trial_replay.proofs.text.replayed_text.Goals as goal

pub returns-in-Err-clause-answers : goal.returns-in-Err-clause-answers
returns-in-Err-clause-answers g c = unloaded (IsReplayAt c.args.at c.args.k) (LacksEvaluation c.args.at c.args.k) _ _ c.args.number c.in-Err.fault c.in-Err.ensures.loads

pub returns-in-Ok-told-clause-answers : goal.returns-in-Ok-told-clause-answers
returns-in-Ok-told-clause-answers g c =
    answered (IsReplayAt c.args.at c.args.k) (LacksEvaluation c.args.at c.args.k) _ _ c.args.number c.in-Ok.trial c.in-Ok-told.told c.in-Ok-told.ensures.replay c.in-Ok.ensures.loads

pub returns-in-Err-NoEvaluation-clause-answers : goal.returns-in-Err-NoEvaluation-clause-answers
returns-in-Err-NoEvaluation-clause-answers g c =
    lacking (IsReplayAt c.args.at c.args.k) (LacksEvaluation c.args.at c.args.k) _ _ c.args.number c.in-Ok.trial (c.replay_slice-told.ensures.absent (search rules)) c.in-Ok.ensures.loads

pub returns-in-Err-NoEvaluation-clause-of_trial : goal.returns-in-Err-NoEvaluation-clause-of_trial
returns-in-Err-NoEvaluation-clause-of_trial g c = record { trial = c.in-Ok.trial; is_trial = c.in-Ok.ensures.is_trial; so = c.replay_slice-told.ensures.absent (search rules) }
