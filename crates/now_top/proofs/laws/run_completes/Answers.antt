use Rattle.now_top.proofs.Finishing.{finished_so}
use Rattle.now_top.proofs.laws.run_completes.Goals as goal

pub returns : goal.returns
returns c = λ words before after was is status so steps file arguments text script word there has quiet no_put no_write still.
    finished_so words before after was is status so c.one_reading.ensures.not_both
    (c.ends_in_one_way.ensures so.plan.ending so.plan.text so.plan.files so.ran.faults.put after.faults.put so.ran.folder after.folder so.ran.faults.write after.faults.write so.ran.console after.console status so.delivers.delivered)
    no_put no_write steps file arguments text script there has word quiet still
