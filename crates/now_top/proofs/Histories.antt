-- What a store has after calls of the program.
use Rattle.std.proofs.Common.{◌≡◌, ℕ, false, List, [], ◌∷◌, ◌++◌, Option, Some, None, Result, Ok, Err, ⊎_elim, refl, sym, subst, ap, ◌∙◌}
use Rattle.std.proofs.lemmas.Bool.{false≢true}
use Rattle.prov_outside.specs.Tells.{Tells}
use Rattle.keeper.specs.Keeping.{KeeperView}
use Rattle.keeper.specs.Tables.{TablesView, with_current}
use Rattle.delivery.specs.Ends.{Ends}
use Rattle.now_words.specs.Command.{Command, run_bare, run_kept, reads, restores, command_of}
use Rattle.trial_keeping.specs.Keeping.{HasRoom}
use Rattle.trial_keeping.specs.Trial.{Run, with_trial_of}
use Rattle.trial_tables.specs.Written.{put}
use Rattle.now_top.specs.Calls.{Calls, no_call, one_more, HasRun, KeptBy, none_yet, not_kept, kept as was_kept, HasTrials, as_before, with_run, with_set, HasTrialsOf, restored_one, restored as was_restored}
use Rattle.now_top.specs.Kept.{KeepsRun, Stored, keeps}
use Rattle.now_top.specs.Replies.{Replies}
use Rattle.now_top.specs.Restored.{RestoresTrial}
use Rattle.now_top.specs.Seen.{Seen}
use Rattle.prov_outside.specs.Folder.{Files}
use Rattle.trial_history.specs.Current.{Sets}
use Rattle.trial_history.specs.Restoring.{Restores, not_loaded, not_put, put as all_put}
use Rattle.trial_history.specs.declared.fault.RestoreFault.{RestoreFault}
use Rattle.trial_keeping.specs.declared.fault.TrialFault.{TrialFault}
use Rattle.trial_keeping.specs.declared.fault.TrialFault.TheVariants.{NoTrial, Damaged, Keeper, Collision, Full, Memory}
use Rattle.trial_loading.specs.Loading.{Loads}
use Rattle.now_top.proofs.Completing.{tells_through, keeps_or_leaves_so, tables_stay, run_status, run_at}

joined : (runs : List Run) (a b : TablesView) → HasTrials a runs b → (more : List Run) (c : TablesView) → HasTrials b more c → HasTrials a (more ++ runs) c
joined runs a b first more c as_before = first
joined runs a b first more c (with_run {earlier = earlier} between run second room is) = with_run between run (joined runs a b first earlier between second) room is
joined runs a b first more c (with_set between path number second is) = with_set between path number (joined runs a b first more between second) is

none_more : (a b : TablesView) → b ≡ a → HasTrials a [] b
none_more a b same = subst (HasTrials a []) (sym same) as_before

nothing_more : (at : Stored) (told : Option KeeperView) → Tells told told (λ (old new : KeeperView). HasTrialsOf at at (no_call at) old.committed new.committed)
nothing_more at None = tt
nothing_more at (Some view) = ([], (none_yet at, as_before))

-- one call more
module _ (was is between : Stored) (words : List (List ℕ)) (before after : Seen) (status : ℕ) (earlier : Calls was between) (so : Replies words before after between is status)
    (ends : Ends so.plan.ending so.ran.faults.put after.faults.put so.ran.faults.write after.faults.write status) where
  -- some runs more than those before
  abbrev Grows : KeeperView → KeeperView → Type 0
  Grows old new = (more : List Run) × (((runs : List Run) → KeptBy was between earlier runs → KeptBy was is (one_more between words before after status earlier so) (more ++ runs)) × HasTrials old.committed more new.committed)

  stays : (HasRun words status → ⊥) → (one other : Option KeeperView) → Tells one other (λ (old new : KeeperView). new ≡ old) → Tells one other Grows
  stays none one None tells = tt
  stays none None (Some new) tells = absurd tells
  stays none (Some old) (Some new) tells = ([], (λ runs before_it. not_kept between words before after status earlier so runs none before_it, none_more old.committed new.committed (ap (λ (view : KeeperView). view.committed) tells)))

  has_one : (steps : ℕ) (file : List ℕ) (arguments : List (List ℕ)) (run : Run) → command_of words ≡ Some (run_kept steps file arguments)
      → KeepsRun file steps arguments so.plans.prepares.world so.plans.prepares.began so.plans.prepares.clock so.plans.made run
      → (one other : Option KeeperView) → Tells one other (λ (old new : KeeperView). HasRoom old.committed × (with_trial_of run old.committed ≡ put new.committed)) → Tells one other Grows
  has_one steps file arguments run word of one None tells = tt
  has_one steps file arguments run word of None (Some new) tells = absurd tells
  has_one steps file arguments run word of (Some old) (Some new) tells =
      (run ∷ [], (λ runs before_it. was_kept between words before after status earlier so runs steps file arguments run word of before_it, with_run old.committed run as_before tells.0 tells.1))

  keeps_none : (command : Option Command) → command_of words ≡ command → keeps command ≡ false → Tells between.told is.told Grows
  keeps_none command word none =
      stays (λ ran. false≢true (sym none ∙ ap keeps (sym word) ∙ ran.0)) between.told is.told (tables_stay words before after between is status so (ap keeps word ∙ none))

  one_call : (command : Option Command) → command_of words ≡ command → Tells between.told is.told Grows
  one_call None word = keeps_none None word refl
  one_call (Some (run_bare steps file arguments)) word = keeps_none (Some (run_bare steps file arguments)) word refl
  one_call (Some (reads query)) word = keeps_none (Some (reads query)) word refl
  one_call (Some (restores number)) word = keeps_none (Some (restores number)) word refl
  one_call (Some (run_kept steps file arguments)) word =
      ⊎_elim (λ kept. has_one steps file arguments kept.0.run word kept.0.of between.told is.told kept.0.tables)
      (λ left. stays (λ ran. false≢true (sym left.1 ∙ run_at so.plan.ending (run_status words before after between is status so ends ran.1))) between.told is.told left.0)
      (keeps_or_leaves_so words before after between is status so steps file arguments word)

  pub grown_once : Tells was.told between.told (λ (old new : KeeperView). HasTrialsOf was between earlier old.committed new.committed)
      → Tells was.told is.told (λ (old new : KeeperView). HasTrialsOf was is (one_more between words before after status earlier so) old.committed new.committed)
  grown_once before_it =
      tells_through was.told between.told is.told (λ (old new : KeeperView). HasTrialsOf was between earlier old.committed new.committed) Grows
      (λ (old new : KeeperView). HasTrialsOf was is (one_more between words before after status earlier so) old.committed new.committed)
      (λ x y z one two. (two.0 ++ one.0, (two.1.0 one.0 one.1.0, joined one.0 x.committed y.committed one.1.1 two.0 z.committed two.1.1)))
      before_it (one_call (command_of words) refl)

-- one restoring more
sets_so : (kept kept' : Option KeeperView) (path : List ℕ) (number : ℕ) (result : Result (Unit {0}) RestoreFault) → Tells kept kept' (Sets (with_current path number) result) → Tells kept kept' (λ (old new : KeeperView). HasTrials old.committed [] new.committed)
sets_so kept None path number result tells = tt
sets_so None (Some new) path number result tells = absurd tells
sets_so (Some old) (Some new) path number (Ok all) tells = with_set old.committed path number as_before (ap (λ (view : KeeperView). view.committed) tells)
sets_so (Some old) (Some new) path number (Err fault) tells = none_more old.committed new.committed (ap (λ (view : KeeperView). view.committed) tells)

stays_so : (kept kept' : Option KeeperView) → Tells kept kept' (λ (old new : KeeperView). new ≡ old) → Tells kept kept' (λ (old new : KeeperView). HasTrials old.committed [] new.committed)
stays_so kept None tells = tt
stays_so None (Some new) tells = absurd tells
stays_so (Some old) (Some new) tells = none_more old.committed new.committed (ap (λ (view : KeeperView). view.committed) tells)

loads_so : (number : ℕ) (fault : TrialFault) (old new : KeeperView) → Loads number (Err fault) old new → new ≡ old
loads_so number (NoTrial other) old new loads = loads.1
loads_so number (Damaged other damage) old new loads = loads.1
loads_so number Keeper old new loads = loads
loads_so number Memory old new loads = loads
loads_so number (Collision digest kept given) old new loads = absurd loads
loads_so number Full old new loads = absurd loads

loaded_so : (kept kept' : Option KeeperView) (number : ℕ) (fault : TrialFault) → Tells kept kept' (Loads number (Err fault)) → Tells kept kept' (λ (old new : KeeperView). new ≡ old)
loaded_so kept None number fault tells = tt
loaded_so None (Some new) number fault tells = absurd tells
loaded_so (Some old) (Some new) number fault tells = loads_so number fault old new tells

restores_so : (number : ℕ) (result : Result (Unit {0}) RestoreFault) (kept kept' : Option KeeperView) (told told' : List ℕ) (count count' : ℕ) (was is : Option Files)
    → Restores number result kept kept' told told' count count' was is → Tells kept kept' (λ (old new : KeeperView). HasTrials old.committed [] new.committed)
restores_so number result kept kept' told told' count count' was is (not_loaded fault result_is of loads none same folder) = stays_so kept kept' (loaded_so kept kept' number fault loads)
restores_so number result kept kept' told told' count count' was is (not_put trial fault result_is from puts stays) = stays_so kept kept' stays
restores_so number result kept kept' told told' count count' was is (all_put trial of from puts sets) = sets_so kept kept' trial.head.path number result sets

restored_once : (was is between : Stored) (number : ℕ) (before after : Seen) (status : ℕ) (earlier : Calls was between) (so : RestoresTrial number before after between is status)
    → Tells was.told between.told (λ (old new : KeeperView). HasTrialsOf was between earlier old.committed new.committed)
    → Tells was.told is.told (λ (old new : KeeperView). HasTrialsOf was is (restored_one between number before after status earlier so) old.committed new.committed)
restored_once was is between number before after status earlier so before_it =
    tells_through was.told between.told is.told (λ (old new : KeeperView). HasTrialsOf was between earlier old.committed new.committed) (λ (old new : KeeperView). HasTrials old.committed [] new.committed)
    (λ (old new : KeeperView). HasTrialsOf was is (restored_one between number before after status earlier so) old.committed new.committed)
    (λ x y z one two. (one.0, (was_restored between number before after status earlier so one.0 one.1.0, joined one.0 x.committed y.committed one.1.1 [] z.committed two)))
    before_it (restores_so number so.result between.told is.told _ _ _ _ _ _ so.restores)

module _ (ends : (was is : Stored) (words : List (List ℕ)) (before after : Seen) (status : ℕ) (so : Replies words before after was is status)
    → Ends so.plan.ending so.ran.faults.put after.faults.put so.ran.faults.write after.faults.write status) where
  pub grown : (was is : Stored) (calls : Calls was is) → Tells was.told is.told (λ (old new : KeeperView). HasTrialsOf was is calls old.committed new.committed)
  grown was is (no_call at) = nothing_more at at.told
  grown was is (restored_one between number before after status earlier so) = restored_once was is between number before after status earlier so (grown was between earlier)
  grown was is (one_more between words before after status earlier so) = grown_once was is between words before after status earlier so (ends between is words before after status so) (grown was between earlier)
