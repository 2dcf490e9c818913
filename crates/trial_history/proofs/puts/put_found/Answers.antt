use Rattle.trial_history.proofs.Putting.{none_put}
use Rattle.trial_history.proofs.puts.put_found.Goals as goal

pub returns-in-Absent-clause-puts : goal.returns-in-Absent-clause-puts
returns-in-Absent-clause-puts g c = rw c.in-Absent.is (none_put _ _ _)

pub returns-in-TooLarge-clause-puts : goal.returns-in-TooLarge-clause-puts
returns-in-TooLarge-clause-puts g c = rw c.in-TooLarge.is (none_put _ _ _)

pub returns-in-Failed-clause-puts : goal.returns-in-Failed-clause-puts
returns-in-Failed-clause-puts g c = rw c.in-Failed.is (none_put _ _ _)
