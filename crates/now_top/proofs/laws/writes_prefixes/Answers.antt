use Rattle.now_top.proofs.Completing.{writes_so}
use Rattle.now_top.proofs.laws.writes_prefixes.Goals as goal

pub returns : goal.returns
returns c = λ words before after was is status so. writes_so words before after was is status so
    (c.prefixes_are_written.ensures so.plan.ending so.plan.text so.plan.files so.ran.faults.put after.faults.put so.ran.folder after.folder so.ran.faults.write after.faults.write so.ran.console after.console status so.delivers.delivered)
