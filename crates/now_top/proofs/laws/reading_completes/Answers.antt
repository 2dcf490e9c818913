use Rattle.now_top.proofs.Completing.{ends_so}
use Rattle.now_top.proofs.laws.reading_completes.Goals as goal

pub returns : goal.returns
returns c = λ words before after was is status so query tables plan word told reply no_put no_write still.
    ends_so words before after was is status so query tables plan (c.replies_by_tables.ensures.one query tables)
    word told reply (c.ends_in_one_way.ensures so.plan.ending so.plan.text so.plan.files so.ran.faults.put after.faults.put so.ran.folder after.folder so.ran.faults.write after.faults.write so.ran.console after.console status so.delivers.delivered) no_put no_write still
