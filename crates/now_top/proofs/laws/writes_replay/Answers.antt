use Rattle.std.proofs.Common.{arith}
use Rattle.now_words.specs.declared.command.Query.TheVariants.{Replay}
use Rattle.now_top.proofs.Completing.{reply_so, reply_answers, replay_done, answers_so}
use Rattle.now_top.specs.Reply.{ReplaysOf}
use Rattle.trial_replay.specs.Replays.{IsReplayAt}
use Rattle.trial_replay.specs.declared.replaying.Replayed.TheVariants.{Lines}
use Rattle.now_top.proofs.laws.writes_replay.Goals as goal

pub returns : goal.returns
returns c = λ words before after was is status so of tables word told zero.
    let whole = c.done_is_whole.ensures so.plan.ending so.plan.text so.plan.files so.ran.faults.put after.faults.put so.ran.folder after.folder so.ran.faults.write after.faults.write so.ran.console after.console status so.delivers.delivered zero in
    answers_so words before after was is status so (λ trial text. IsReplayAt of.at of.k trial (Lines text)) of.trial tables
    (reply_answers (ReplaysOf of) (λ trial text. IsReplayAt of.at of.k trial (Lines text)) (replay_done of) tables of.trial so.plan
    (reply_so words before after was is status so (Replay of) tables word told (c.ends_in_one_way.ensures so.plan.ending so.plan.text so.plan.files so.ran.faults.put after.faults.put so.ran.folder after.folder so.ran.faults.write after.faults.write so.ran.console after.console status so.delivers.delivered)
    (λ five. absurd (omega (arith, zero, five))) (λ six. absurd (omega (arith, zero, six))) (λ seven. absurd (omega (arith, zero, seven))) (λ eight. absurd (omega (arith, zero, eight)))) whole.0)
    whole.0 whole.1.console
