use Rattle.std.proofs.Common.{refl, option_copied}
use Rattle.delivery.specs.Ending.{done, uncaught, usage, refused, nothing_there, folder_failed, store_failed, out_of_memory, out_of_steps, not_reached, collision, store_full, damaged_trial}
use Rattle.delivery.proofs.Finishing.{closed, not_closed}
use Rattle.delivery.proofs.last_line.close.Goals as goal

pub returns-in-Done-clause-closes : goal.returns-in-Done-clause-closes
returns-in-Done-clause-closes g c = rw c.in-Done.is (not_closed done _ _ _ refl refl)

pub returns-in-Uncaught-clause-closes : goal.returns-in-Uncaught-clause-closes
returns-in-Uncaught-clause-closes g c = rw c.in-Uncaught.is
    (c.close_made.ensures.closes (uncaught c.in-Uncaught.class.now c.in-Uncaught.line (option_copied c.in-Uncaught.text)) c.uncaught_line.ensures refl refl refl)

pub returns-in-Usage-clause-closes : goal.returns-in-Usage-clause-closes
returns-in-Usage-clause-closes g c = rw c.in-Usage.is (closed usage 2 _ _ _ _ _ refl refl c.write_line.ensures.tries)

pub returns-in-Refused-clause-closes : goal.returns-in-Refused-clause-closes
returns-in-Refused-clause-closes g c = rw c.in-Refused.is
    (c.close_made-in-Refused.ensures.closes (refused c.in-Refused.file.now c.in-Refused.line c.in-Refused.column) c.refused_line.ensures refl refl refl)

pub returns-in-NothingThere-clause-closes : goal.returns-in-NothingThere-clause-closes
returns-in-NothingThere-clause-closes g c = rw c.in-NothingThere.is (closed nothing_there 4 _ _ _ _ _ refl refl c.write_line-in-NothingThere.ensures.tries)

pub returns-in-FolderFailed-clause-closes : goal.returns-in-FolderFailed-clause-closes
returns-in-FolderFailed-clause-closes g c = rw c.in-FolderFailed.is
    (c.close_made-in-FolderFailed.ensures.closes (folder_failed c.in-FolderFailed.path.now) c.folder_failed_line.ensures refl refl refl)

pub returns-in-OutOfMemory-clause-closes : goal.returns-in-OutOfMemory-clause-closes
returns-in-OutOfMemory-clause-closes g c = rw c.in-OutOfMemory.is (closed out_of_memory 8 _ _ _ _ _ refl refl c.write_line-in-OutOfMemory.ensures.tries)

pub returns-in-OutOfSteps-clause-closes : goal.returns-in-OutOfSteps-clause-closes
returns-in-OutOfSteps-clause-closes g c = rw c.in-OutOfSteps.is (closed out_of_steps 9 _ _ _ _ _ refl refl c.write_line-in-OutOfSteps.ensures.tries)

pub returns-in-StoreFailed-clause-closes : goal.returns-in-StoreFailed-clause-closes
returns-in-StoreFailed-clause-closes g c = rw c.in-StoreFailed.is (closed store_failed 7 _ _ _ _ _ refl refl c.write_line-in-StoreFailed.ensures.tries)

pub returns-in-Collision-clause-closes : goal.returns-in-Collision-clause-closes
returns-in-Collision-clause-closes g c = rw c.in-Collision.is
    (c.close_made-in-Collision.ensures.closes (collision c.in-Collision.digest.bytes c.in-Collision.kept c.in-Collision.given) c.collision_line.ensures refl refl refl)

pub returns-in-StoreFull-clause-closes : goal.returns-in-StoreFull-clause-closes
returns-in-StoreFull-clause-closes g c = rw c.in-StoreFull.is (closed store_full 13 _ _ _ _ _ refl refl c.write_line-in-StoreFull.ensures.tries)

pub returns-in-DamagedTrial-clause-closes : goal.returns-in-DamagedTrial-clause-closes
returns-in-DamagedTrial-clause-closes g c = rw c.in-DamagedTrial.is
    (c.close_made-in-DamagedTrial.ensures.closes (damaged_trial c.in-DamagedTrial.trial c.in-DamagedTrial.detail.now) c.damaged_line.ensures refl refl refl)

pub returns-in-NotReached-clause-closes : goal.returns-in-NotReached-clause-closes
returns-in-NotReached-clause-closes g c = rw c.in-NotReached.is (closed not_reached 12 _ _ _ _ _ refl refl c.write_line-in-NotReached.ensures.tries)
