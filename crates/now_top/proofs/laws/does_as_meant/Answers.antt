use Rattle.now_top.proofs.Completing.{as_meant_so, planned_status, no_store_planned}
use Rattle.now_top.proofs.laws.does_as_meant.Goals as goal

pub returns : goal.returns
returns c = λ words before after was is status so told five six seven eight ten full.
    let at = planned_status words before after was is status so (c.ends_in_one_way.ensures so.plan.ending so.plan.text so.plan.files so.ran.faults.put after.faults.put so.ran.folder after.folder so.ran.faults.write after.faults.write so.ran.console after.console status so.delivers.delivered) five six eight in
    as_meant_so words before after was is status so told six seven eight ten full
    (c.no_fault_answered.ensures so.plan.ending so.plan.text so.plan.files so.ran.faults.put after.faults.put so.ran.folder after.folder so.ran.faults.write after.faults.write so.ran.console after.console status so.delivers.delivered (no_store_planned words before after was is status so at seven ten full) five six eight)
