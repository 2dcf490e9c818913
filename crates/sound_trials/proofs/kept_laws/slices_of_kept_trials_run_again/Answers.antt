use Rattle.sound_trials.proofs.kept_laws.slices_of_kept_trials_run_again.Goals as goal

pub returns : goal.returns
returns c run before after later ends at k text was is more slice =
    c.slices_of_sound_trials_run_again.ensures slice.trial ends at k slice.keep text
    (c.kept_trials_are_sound.ensures.sound run before after later slice.trial ends was is more slice.loaded) slice.loaded.script_is slice.is_slice
