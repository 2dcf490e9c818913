use Rattle.std.proofs.Common.{sym, ◌∙◌, ⊎_elim, inl, inr}
use Rattle.std.proofs.lemmas.Bool.{false≢true}
use Rattle.now_top.proofs.Completing.{keeps_or_leaves_so, leaving_status, none_at}
use Rattle.now_top.proofs.Delivering.{delivered_so}
use Rattle.now_top.proofs.laws.keeps_or_leaves.Goals as goal

pub returns-clause-either : goal.returns-clause-either
returns-clause-either c = λ words before after was is status so steps file arguments word.
    ⊎_elim (λ kept. inl kept.0) (λ left. inr left.0) (keeps_or_leaves_so words before after was is status so steps file arguments word)

pub returns-clause-kept : goal.returns-clause-kept
returns-clause-kept c = λ words before after was is status so steps file arguments word a_run.
    ⊎_elim (λ kept. kept.0) (λ left. absurd (false≢true (sym left.1 ∙ a_run))) (keeps_or_leaves_so words before after was is status so steps file arguments word)

pub returns-clause-at_delivery : goal.returns-clause-at_delivery
returns-clause-at_delivery c = λ words before after was is status so steps file arguments word at.
    delivered_so words before after was is status so
    (c.ends_in_one_way.ensures so.plan.ending so.plan.text so.plan.files so.ran.faults.put after.faults.put so.ran.folder after.folder so.ran.faults.write after.faults.write so.ran.console after.console status so.delivers.delivered)
    steps file arguments word at

pub returns-clause-left : goal.returns-clause-left
returns-clause-left c = λ words before after was is status so steps file arguments word at.
    ⊎_elim
    (λ kept. absurd (false≢true (sym (none_at so.plan.ending
    (leaving_status words before after was is status so (c.ends_in_one_way.ensures so.plan.ending so.plan.text so.plan.files so.ran.faults.put after.faults.put so.ran.folder after.folder so.ran.faults.write after.faults.write so.ran.console after.console status so.delivers.delivered) at)) ∙ kept.1)))
    (λ left. left.0)
    (keeps_or_leaves_so words before after was is status so steps file arguments word)
