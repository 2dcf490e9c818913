use Rattle.std.proofs.Common.{◌≡◌, Ok, Err, refl}
use Rattle.trial_history.specs.declared.fault.RestoreFault.TheVariants.{Trial}
use Rattle.trial_history.specs.Restoring.{not_put, put}
use Rattle.trial_history.proofs.Putting.{tells_same}
use Rattle.trial_history.proofs.Restored.{is_from, puts_of, sets_path}
use Rattle.trial_history.proofs.restoring.restore_loaded.Goals as goal

pub returns-in-Err-clause-restores : goal.returns-in-Err-clause-restores
returns-in-Err-clause-restores g c =
    not_put c.args.trial.now c.in-Err.fault refl
    (is_from _ _ c.args.number c.args.trial.now c.files-files.result.now (λ before after. after ≡ before) c.requires.is_trial c.files-files.ensures.files c.files-files.ensures.ascending c.requires.loaded
    (tells_same _ (λ before after. after ≡ before) (λ a. refl)))
    (puts_of c.as_str-path.result.now c.as_slice.result.now c.files-files.result.now c.args.trial.now (Err c.in-Err.fault) _ _ _ _ _ _ c.as_str-path.ensures c.as_slice.ensures c.files-files.ensures.files c.in-Err.ensures.puts)
    (tells_same _ (λ before after. after ≡ before) (λ a. refl))

pub returns-in-Ok-clause-restores : goal.returns-in-Ok-clause-restores
returns-in-Ok-clause-restores g c =
    put c.args.trial.now tt
    (is_from _ _ c.args.number c.args.trial.now c.files-files.result.now _ c.requires.is_trial c.files-files.ensures.files c.files-files.ensures.ascending c.requires.loaded c.in-Ok.ensures.sets)
    (puts_of c.as_str-path.result.now c.as_slice.result.now c.files-files.result.now c.args.trial.now (Ok tt) _ _ _ _ _ _ c.as_str-path.ensures c.as_slice.ensures c.files-files.ensures.files c.in_default.ensures.puts)
    (sets_path _ _ c.as_str-path.result.now c.args.trial.now.head.path c.args.number (Ok tt) (Ok tt) c.as_str-path.ensures (λ change a b sets. sets) c.in-Ok.ensures.sets)

pub returns-in-Err-make_current-clause-restores : goal.returns-in-Err-make_current-clause-restores
returns-in-Err-make_current-clause-restores g c =
    put c.args.trial.now c.in-Err-make_current.ensures.of_list
    (is_from _ _ c.args.number c.args.trial.now c.files-files.result.now _ c.requires.is_trial c.files-files.ensures.files c.files-files.ensures.ascending c.requires.loaded c.in-Err-make_current.ensures.sets)
    (puts_of c.as_str-path.result.now c.as_slice.result.now c.files-files.result.now c.args.trial.now (Ok tt) _ _ _ _ _ _ c.as_str-path.ensures c.as_slice.ensures c.files-files.ensures.files c.in_default.ensures.puts)
    (sets_path _ _ c.as_str-path.result.now c.args.trial.now.head.path c.args.number (Err c.in-Err-make_current.fault) (Err (Trial c.in-Err-make_current.fault)) c.as_str-path.ensures (λ change a b sets. sets)
    c.in-Err-make_current.ensures.sets)
