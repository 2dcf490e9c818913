use Rattle.now_top.proofs.Completing.{reply_so, fine_so, replies_so}
use Rattle.now_top.proofs.OneMeaning.{slices_alike, answers_alike, one_reply}
use Rattle.now_top.specs.Reply.{telling, replaying}
use Rattle.dep_query.specs.Dataflows.{IsDataflow, LacksDataflow}
use Rattle.dep_query.specs.SiteTexts.{IsFedText, LacksSite}
use Rattle.trial_replay.specs.Replays.{IsReplayAt}
use Rattle.trial_value.specs.Values.{IsValueAt, LacksEvaluation}
use Rattle.now_top.proofs.laws.replies_by_tables.Goals as goal

pub returns-clause-one : goal.returns-clause-one
returns-clause-one c = one_reply c.trials_are_loaded_one_way.ensures.trial c.trials_are_loaded_one_way.ensures.damage c.trials_are_loaded_one_way.ensures.never_both
    (answers_alike telling IsDataflow LacksDataflow (λ trial other. c.one_dataflow_of_a_trial.ensures trial other) (λ trial other text same is lacks. lacks))
    (λ of. slices_alike c.one_slice_of_a_trial.ensures.slice c.one_slice_of_a_trial.ensures.never_both of.at of.k)
    (λ of. answers_alike telling (IsValueAt of.at of.k) (LacksEvaluation of.at of.k) (λ trial other. c.one_value_of_a_trial.ensures.value trial other of.at of.k)
    (λ trial other. c.one_value_of_a_trial.ensures.never_both trial other of.at of.k))
    (λ of. answers_alike replaying (IsReplayAt of.at of.k) (LacksEvaluation of.at of.k) (λ trial other. c.one_replay_of_a_trial.ensures.replay trial other of.at of.k)
    (λ trial other. c.one_replay_of_a_trial.ensures.never_both trial other of.at of.k))
    (λ way of. answers_alike telling (IsFedText way of.at of.k) (LacksSite of.at of.k) (λ trial other. c.one_feeding_of_a_trial.ensures.text trial other way of.at of.k)
    (λ trial other. c.one_feeding_of_a_trial.ensures.never_both trial other way of.at of.k))

pub returns-clause-replies : goal.returns-clause-replies
returns-clause-replies c = λ words before after was is status so query tables word told five six seven eight.
    let reply = reply_so words before after was is status so query tables word told (c.ends_in_one_way.ensures so.plan.ending so.plan.text so.plan.files so.ran.faults.put after.faults.put so.ran.folder after.folder so.ran.faults.write after.faults.write so.ran.console after.console status so.delivers.delivered) five six seven eight in
    replies_so words before after was is status so query tables word reply
    (c.no_fault_answered.ensures so.plan.ending so.plan.text so.plan.files so.ran.faults.put after.faults.put so.ran.folder after.folder so.ran.faults.write after.faults.write so.ran.console after.console status so.delivers.delivered (fine_so words before after was is status so query tables reply) five six eight)
    (λ no_put no_write. c.no_count_rose.ensures so.plan.ending so.plan.text so.plan.files so.ran.faults.put after.faults.put so.ran.folder after.folder so.ran.faults.write after.faults.write so.ran.console after.console status so.delivers.delivered no_put no_write eight)
