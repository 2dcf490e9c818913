use Rattle.now_top.proofs.Histories.{grown}
use Rattle.now_top.proofs.laws.stores_have_trials_of_runs.Goals as goal

pub returns : goal.returns
returns c = grown (λ was is words before after status so.
    c.ends_in_one_way.ensures so.plan.ending so.plan.text so.plan.files so.ran.faults.put after.faults.put so.ran.folder after.folder so.ran.faults.write after.faults.write so.ran.console after.console status so.delivers.delivered)
