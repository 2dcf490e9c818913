use Rattle.std.proofs.Common.{[]}
use Rattle.now_top.proofs.Restorings.{whole_so}
use Rattle.now_top.proofs.laws.restores_trials.Goals as goal

pub returns : goal.returns
returns c = λ number before after was is status of zero.
    let well = c.done_is_whole.ensures of.ending of.text [] of.ran.faults.put after.faults.put of.ran.folder after.folder of.ran.faults.write after.faults.write of.ran.console after.console status of.delivers.delivered zero in
    whole_so number before after was is status of well.1 well.0
