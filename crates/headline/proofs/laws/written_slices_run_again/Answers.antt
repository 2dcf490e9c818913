use Rattle.std.proofs.Common.{◌≡◌, refl}
use Rattle.keeper.specs.Keeping.{KeeperView}
use Rattle.trial_keeping.specs.Keeping.{HasRoom}
use Rattle.trial_keeping.specs.Trial.{with_trial_of}
use Rattle.trial_tables.specs.Written.{next_trial, put}
use Rattle.headline.proofs.Composed.{recorded_so, told_so, later_so, runs_at, sound_at}
use Rattle.headline.proofs.laws.written_slices_run_again.Goals as goal

pub returns : goal.returns
returns c = λ words before after was is status so steps file arguments word ran at calls asking seen shown end asked of question old new tables told_before told_after told_last number ends.
    let kept = c.keeps_trial.ensures words before after was is status so steps file arguments word ran in
    let recorded = recorded_so file steps arguments so.plans.prepares.world so.plans.prepares.began so.plans.prepares.clock so.plans.made kept.run kept.of in
    let put_so = told_so (λ (one other : KeeperView). HasRoom one.committed × (with_trial_of kept.run one.committed ≡ put other.committed)) was.told is.told old new told_before told_after kept.tables in
    let later = later_so is at end calls new tables told_after told_last (c.stores_have_trials_of_runs.ensures is at calls) in
    let wrote = c.writes_slice.ensures asking seen shown at end 0 asked of tables question told_last refl in
    record {
      text = wrote.text;
      slice = wrote.is_slice;
      sound = sound_at tables ends of.at of.k wrote.text (next_trial old.committed) of.trial number
          (λ slice. c.kept_trials_are_sound.ensures.sound kept.run old.committed new.committed tables slice.trial ends recorded put_so.1 later slice.loaded) wrote.is_slice;
      runs_again = runs_at tables ends of.at of.k wrote.text (next_trial old.committed) of.trial number
          (λ slice. c.slices_of_kept_trials_run_again.ensures kept.run old.committed new.committed tables ends of.at of.k wrote.text recorded put_so.1 later slice) wrote.is_slice;
      console = wrote.console;
    }
