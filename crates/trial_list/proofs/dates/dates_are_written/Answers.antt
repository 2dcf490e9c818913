use Rattle.std.proofs.Common.{refl}
use Rattle.trial_list.specs.Dates.{passed}
use Rattle.trial_list.proofs.dates.dates_are_written.Goals as goal

pub returns-clause-epoch : goal.returns-clause-epoch
unfolding passed
returns-clause-epoch c = refl

pub returns-clause-before : goal.returns-clause-before
unfolding passed
returns-clause-before c = refl

pub returns-clause-leap_day : goal.returns-clause-leap_day
unfolding passed
returns-clause-leap_day c = refl

pub returns-clause-no_leap_day : goal.returns-clause-no_leap_day
unfolding passed
returns-clause-no_leap_day c = refl

pub returns-clause-first : goal.returns-clause-first
unfolding passed
returns-clause-first c = refl

pub returns-clause-last : goal.returns-clause-last
unfolding passed
returns-clause-last c = refl
