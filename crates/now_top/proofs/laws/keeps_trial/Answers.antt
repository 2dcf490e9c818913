use Rattle.now_top.proofs.Completing.{keeps_so, run_status}
use Rattle.now_top.proofs.laws.keeps_trial.Goals as goal

pub returns : goal.returns
returns c = λ words before after was is status so steps file arguments word at.
    keeps_so words before after was is status so steps file arguments word
    (run_status words before after was is status so (c.ends_in_one_way.ensures so.plan.ending so.plan.text so.plan.files so.ran.faults.put after.faults.put so.ran.folder after.folder so.ran.faults.write after.faults.write so.ran.console after.console status so.delivers.delivered) at)
