use Rattle.std.proofs.Common.{[]}
use Rattle.now_top.proofs.Restorings.{ends_so, absent_so, prefixes_so}
use Rattle.now_top.proofs.laws.restoring_ends.Goals as goal

pub returns-clause-ends : goal.returns-clause-ends
returns-clause-ends c = λ number before after was is status of. ends_so number before after was is status of (c.restores_trials.ensures number before after was is status of)

pub returns-clause-absent : goal.returns-clause-absent
returns-clause-absent c = λ number before after was is status of old new first second none.
    absent_so number before after was is status old new first second none (ends_so number before after was is status of (c.restores_trials.ensures number before after was is status of))

pub returns-clause-prefixes : goal.returns-clause-prefixes
returns-clause-prefixes c = λ number before after was is status of.
    prefixes_so number before after was is status of
    (c.prefixes_are_written.ensures of.ending of.text [] of.ran.faults.put after.faults.put of.ran.folder after.folder of.ran.faults.write after.faults.write of.ran.console after.console status of.delivers.delivered)
