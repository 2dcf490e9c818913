use Rattle.std.proofs.Common.{arith}
use Rattle.now_words.specs.declared.command.Query.TheVariants.{Sources}
use Rattle.now_top.proofs.Completing.{reply_so, reply_answers, feeding_done, answers_so}
use Rattle.now_top.specs.Reply.{FeedingsOf}
use Rattle.dep_query.specs.SiteTexts.{IsFedText}
use Rattle.feedings.specs.declared.site.Way.TheVariants.{Sources as to_it}
use Rattle.now_top.proofs.laws.writes_sources.Goals as goal

pub returns : goal.returns
returns c = λ words before after was is status so of tables word told zero.
    let whole = c.done_is_whole.ensures so.plan.ending so.plan.text so.plan.files so.ran.faults.put after.faults.put so.ran.folder after.folder so.ran.faults.write after.faults.write so.ran.console after.console status so.delivers.delivered zero in
    answers_so words before after was is status so (IsFedText to_it of.at of.k) of.trial tables
    (reply_answers (FeedingsOf to_it of) (IsFedText to_it of.at of.k) (feeding_done to_it of) tables of.trial so.plan
    (reply_so words before after was is status so (Sources of) tables word told (c.ends_in_one_way.ensures so.plan.ending so.plan.text so.plan.files so.ran.faults.put after.faults.put so.ran.folder after.folder so.ran.faults.write after.faults.write so.ran.console after.console status so.delivers.delivered)
    (λ five. absurd (omega (arith, zero, five))) (λ six. absurd (omega (arith, zero, six))) (λ seven. absurd (omega (arith, zero, seven))) (λ eight. absurd (omega (arith, zero, eight)))) whole.0)
    whole.0 whole.1.console
