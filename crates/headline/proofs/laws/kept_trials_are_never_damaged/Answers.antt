use Rattle.std.proofs.Common.{◌≡◌, arith}
use Rattle.keeper.specs.Keeping.{KeeperView}
use Rattle.trial_keeping.specs.Keeping.{HasRoom}
use Rattle.trial_keeping.specs.Trial.{with_trial_of}
use Rattle.trial_tables.specs.Written.{next_trial, put}
use Rattle.headline.proofs.Composed.{recorded_so, told_so, later_so}
use Rattle.headline.proofs.Undamaged.{path_so, never_eleven}
use Rattle.headline.proofs.laws.kept_trials_are_never_damaged.Goals as goal

pub returns : goal.returns
returns c = λ words before after was is status so steps file arguments word ran at calls asking seen shown end asked query question old new tables told_before told_after told_last about.
    let kept = c.keeps_trial.ensures words before after was is status so steps file arguments word ran in
    let recorded = recorded_so file steps arguments so.plans.prepares.world so.plans.prepares.began so.plans.prepares.clock so.plans.made kept.run kept.of in
    let path = path_so file steps arguments so.plans.prepares.world so.plans.prepares.began so.plans.prepares.clock so.plans.made kept.run kept.of in
    let put_so = told_so (λ (one other : KeeperView). HasRoom one.committed × (with_trial_of kept.run one.committed ≡ put other.committed)) was.told is.told old new told_before told_after kept.tables in
    let later = later_so is at end calls new tables told_after told_last (c.stores_have_trials_of_runs.ensures is at calls) in
    let by_tables = c.replies_by_tables.ensures.replies asking seen shown at end 11 asked query tables question told_last
    (λ five. absurd (omega (arith, five))) (λ six. absurd (omega (arith, six))) (λ seven. absurd (omega (arith, seven))) (λ eight. absurd (omega (arith, eight))) in
    never_eleven query tables (next_trial old.committed) by_tables.plan about
    (λ damage bad. c.recorded_runs_are_never_damaged.ensures kept.run old.committed new.committed tables recorded path put_so.1 later damage bad) by_tables.is_reply by_tables.status_is
