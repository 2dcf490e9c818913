use Rattle.now_words.specs.Command.{command_of}
use Rattle.now_top.specs.Kept.{tables_told}
use Rattle.now_top.proofs.Completing.{completes_so}
use Rattle.now_top.proofs.laws.completes.Goals as goal

pub returns : goal.returns
returns c = λ words before after was is status so plan means. completes_so words before after was is status so (c.one_meaning.ensures (command_of words) so.plans.prepares.world (tables_told was is)) plan means
    (c.ends_in_one_way.ensures so.plan.ending so.plan.text so.plan.files so.ran.faults.put after.faults.put so.ran.folder after.folder so.ran.faults.write after.faults.write so.ran.console after.console status so.delivers.delivered)
