use Rattle.now_top.proofs.Completing.{whole_so, put_rose, write_rose}
use Rattle.now_top.proofs.laws.does_whole.Goals as goal

pub returns : goal.returns
returns c = λ words before after was is status so told source put write store room ten full. whole_so words before after was is status so told source store room ten full
    (c.no_count_rose.ensures so.plan.ending so.plan.text so.plan.files so.ran.faults.put after.faults.put so.ran.folder after.folder so.ran.faults.write after.faults.write so.ran.console after.console status so.delivers.delivered
    (λ rose. put (put_rose words before after was is status so rose)) (λ rose. write (write_rose words before after was is status so rose)) room)
