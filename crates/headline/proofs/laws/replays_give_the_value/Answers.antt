use Rattle.std.proofs.Common.{◌≡◌, refl, arith}
use Rattle.keeper.specs.Keeping.{KeeperView}
use Rattle.trial_keeping.specs.Keeping.{HasRoom}
use Rattle.trial_keeping.specs.Trial.{with_trial_of}
use Rattle.trial_replay.specs.declared.replaying.Replayed.TheVariants.{Lines, NotReached}
use Rattle.trial_tables.specs.Written.{next_trial, put}
use Rattle.trial_value.specs.Lines.{value_lines}
use Rattle.now_words.specs.declared.command.Query.TheVariants.{Replay}
use Rattle.headline.proofs.Composed.{recorded_so, told_so, later_so, runs_at, sound_at, wrote_lines}
use Rattle.trial_replay.proofs.OneReplay.{quiet}
use Rattle.headline.proofs.Replaying.{given, is_reached, slice_run, twelve}
use Rattle.headline.proofs.laws.replays_give_the_value.Goals as goal

pub returns-clause-value : goal.returns-clause-value
returns-clause-value c = λ words before after was is status so steps file arguments word ran at calls asking seen shown end asked of question old new tables told_before told_after told_last number ends.
    let kept = c.keeps_trial.ensures words before after was is status so steps file arguments word ran in
    let recorded = recorded_so file steps arguments so.plans.prepares.world so.plans.prepares.began so.plans.prepares.clock so.plans.made kept.run kept.of in
    let put_so = told_so (λ (one other : KeeperView). HasRoom one.committed × (with_trial_of kept.run one.committed ≡ put other.committed)) was.told is.told old new told_before told_after kept.tables in
    let later = later_so is at end calls new tables told_after told_last (c.stores_have_trials_of_runs.ensures is at calls) in
    let wrote = c.writes_replay.ensures asking seen shown at end 0 asked of tables question told_last refl in
    let trial = wrote.answer.trial in
    let it = wrote.answer.answer in
    let slice = slice_run tables of.trial of.at of.k trial (Lines wrote.text) wrote.answer.loaded it in
    let runs = runs_at tables ends of.at of.k it.cut (next_trial old.committed) of.trial number
    (λ one. c.slices_of_kept_trials_run_again.ensures kept.run old.committed new.committed tables ends of.at of.k it.cut recorded put_so.1 later one) slice in
    let so_given = given trial ends of.at of.k it.cut runs c.replayed_slices_give_the_value.ensures.value wrote.text it in
    record {
      trial = trial;
      loaded = wrote.answer.loaded;
      sound = sound_at tables ends of.at of.k it.cut (next_trial old.committed) of.trial number
          (λ one. c.kept_trials_are_sound.ensures.sound kept.run old.committed new.committed tables one.trial ends recorded put_so.1 later one.loaded) slice;
      graph = so_given.graph;
      steps = so_given.steps;
      cost = so_given.cost;
      value = so_given.value;
      written = so_given.written;
      no_more = so_given.no_more;
      console = wrote_lines seen.console shown.console wrote.text (value_lines so_given.graph so_given.cost) so_given.text_is wrote.console;
    }

pub returns-clause-reached : goal.returns-clause-reached
returns-clause-reached c = λ words before after was is status so steps file arguments word ran at calls asking seen shown end asked of question old new tables told_before told_after told_last number.
    let kept = c.keeps_trial.ensures words before after was is status so steps file arguments word ran in
    let recorded = recorded_so file steps arguments so.plans.prepares.world so.plans.prepares.began so.plans.prepares.clock so.plans.made kept.run kept.of in
    let put_so = told_so (λ (one other : KeeperView). HasRoom one.committed × (with_trial_of kept.run one.committed ≡ put other.committed)) was.told is.told old new told_before told_after kept.tables in
    let later = later_so is at end calls new tables told_after told_last (c.stores_have_trials_of_runs.ensures is at calls) in
    let by_tables = c.replies_by_tables.ensures.replies asking seen shown at end 12 asked (Replay of) tables question told_last
    (λ five. absurd (omega (arith, five))) (λ six. absurd (omega (arith, six))) (λ seven. absurd (omega (arith, seven))) (λ eight. absurd (omega (arith, eight))) in
    twelve of tables by_tables.plan by_tables.is_reply by_tables.status_is (λ trial loaded it.
    let slice = slice_run tables of.trial of.at of.k trial NotReached loaded it in
    is_reached trial quiet of.at of.k it.cut (runs_at tables quiet of.at of.k it.cut (next_trial old.committed) of.trial number
    (λ one. c.slices_of_kept_trials_run_again.ensures kept.run old.committed new.committed tables quiet of.at of.k it.cut recorded put_so.1 later one) slice) c.replayed_slices_give_the_value.ensures.reached it)
