-- Where FILE has a script and no device and no call of the keeper failed, the run comes to its end and is kept, but for lack of memory or room.
use Rattle.std.proofs.Common.{◌≡◌, refl, sym, ap, subst, ◌∙◌, ℕ, List, true, ◌⊎◌, inl, inr, ⊎_elim, Option, Some, None, Ok, Err}
use Rattle.std.proofs.lemmas.Bool.{false≢true}
use Rattle.std.proofs.lemmas.Option.{same_Some}
use Rattle.delivery.specs.Ending.{Ending, done, uncaught, usage, refused, nothing_there, console_failed, folder_failed, store_failed, out_of_memory, out_of_steps, not_reached, collision, store_full, damaged_trial, status_of}
use Rattle.delivery.specs.Ends.{Ends, as_planned, by_console, by_folder, no_memory}
use Rattle.now_words.specs.Command.{Command, run_kept, command_of}
use Rattle.prov_base.specs.declared.place.Pos.{Pos}
use Rattle.prov_outside.specs.Count.{Rose}
use Rattle.py_model.specs.Capture.{Telling}
use Rattle.py_model.specs.Meaning.{meaning, starting}
use Rattle.py_model.specs.Running.{outcome}
use Rattle.py_parser.specs.Reading.{HasScript, IsRefusedAt}
use Rattle.py_tree.specs.Tree.{ScriptTree}
use Rattle.trial_keeping.specs.declared.fault.TrialFault.TheVariants.{NoTrial, Damaged, Keeper, Collision, Full, Memory}
use Rattle.now_top.specs.Completes.{ComesToARun}
use Rattle.now_top.specs.Kept.{ends_a_run, Clock, Stored, Keeps, no_run, a_run, a_reading, tables_told}
use Rattle.now_top.specs.Means.{MeansCommand}
use Rattle.now_top.specs.Replies.{Comes, meant, unread, store_unread, untold, no_memory as lacks_memory, Replies}
use Rattle.now_top.specs.RunCommand.{MeansRun, RunsText, no_script, runs, nowhere, stands}
use Rattle.now_top.specs.Seen.{Seen}
use Rattle.now_top.specs.World.{World, Plan, closing, StandsAt}
use Rattle.now_top.proofs.Completing.{source_rose, put_rose, write_rose, no_run_read}
use Rattle.now_top.proofs.Delivering.{run_ending}

-- the ending of a run has the status of one
run_statuses : (ending : Ending) → ends_a_run ending ≡ true → (status_of ending ≡ 0) ⊎ ((status_of ending ≡ 1) ⊎ (status_of ending ≡ 9))
run_statuses done is = inl refl
run_statuses (uncaught class line text) is = inr (inl refl)
run_statuses out_of_steps is = inr (inr refl)
run_statuses usage is = absurd (false≢true is)
run_statuses (refused file line column) is = absurd (false≢true is)
run_statuses nothing_there is = absurd (false≢true is)
run_statuses console_failed is = absurd (false≢true is)
run_statuses (folder_failed path) is = absurd (false≢true is)
run_statuses store_failed is = absurd (false≢true is)
run_statuses out_of_memory is = absurd (false≢true is)
run_statuses (collision digest kept given) is = absurd (false≢true is)
run_statuses store_full is = absurd (false≢true is)
run_statuses not_reached is = absurd (false≢true is)
run_statuses (damaged_trial trial detail) is = absurd (false≢true is)

module _ (words : List (List ℕ)) (before after : Seen) (was is : Stored) (status : ℕ) (so : Replies words before after was is status)
    (never_both : (text : List ℕ) (tree : ScriptTree) (at : Pos) → HasScript text tree → IsRefusedAt text at → ⊥)
    (ends : Ends so.plan.ending so.ran.faults.put after.faults.put so.ran.faults.write after.faults.write status)
    (no_put : Rose before.faults.put after.faults.put → ⊥) (no_write : Rose before.faults.write after.faults.write → ⊥) where
  abbrev command : Option Command
  command = command_of words

  abbrev world : World
  world = so.plans.prepares.world

  -- the status is the planned one, or 8
  planned_or_lacking : (status ≡ status_of so.plan.ending) ⊎ (status ≡ 8)
  planned_or_lacking = by ends
    where
      by : Ends so.plan.ending so.ran.faults.put after.faults.put so.ran.faults.write after.faults.write status → (status ≡ status_of so.plan.ending) ⊎ (status ≡ 8)
      by (as_planned at) = inl at
      by (by_console store at rose) = absurd (no_write (write_rose words before after was is status so rose))
      by (by_folder store at rose) = absurd (no_put (put_rose words before after was is status so rose))
      by (no_memory at) = inr at

  by_planned : (ending : Ending) → so.plan.ending ≡ ending → (status ≡ status_of ending → ComesToARun status) → ComesToARun status
  by_planned ending same comes = ⊎_elim (λ at. comes (at ∙ ap status_of same)) (λ at. inr (inl at)) planned_or_lacking

  as_a_run : ends_a_run so.plan.ending ≡ true → ComesToARun status
  as_a_run a_runs = by_planned so.plan.ending refl (λ at. inl (subst (λ (n : ℕ). (n ≡ 0) ⊎ ((n ≡ 1) ⊎ (n ≡ 9))) (sym at) (run_statuses so.plan.ending a_runs)))

  -- what is made of a file that has a script
  module _ (steps : ℕ) (file : List ℕ) (arguments : List (List ℕ)) (text : List ℕ) (script : ScriptTree) (there : StandsAt file world.files text) (has : HasScript text script) where
    runs_text : (other : List ℕ) (made : Plan) → other ≡ text → RunsText file other steps arguments world.capture made → ends_a_run made.ending ≡ true
    runs_text other made same (no_script at ref un) = absurd (never_both text script at has (subst (λ (t : List ℕ). IsRefusedAt t at) same ref))
    runs_text other made same (runs tree has_it plan of) = run_ending (outcome world.capture (meaning tree steps) (starting world.capture file arguments steps)) plan.ending of.ending

    runs_file : (made : Plan) → MeansRun file steps arguments world made → ends_a_run made.ending ≡ true
    runs_file made (nowhere where_not un) = ⊎_elim (λ no_path. absurd (false≢true (sym no_path ∙ there.path))) (λ none. absurd (none_some (sym none ∙ there.stands))) where_not
      where
        none_some : ◌≡◌ {A = Option (List ℕ)} None (Some text) → ⊥
        none_some none_is = cc
    runs_file made (stands other at plan of) = runs_text other plan (same_Some _ _ (sym at.stands ∙ there.stands)) of

    -- a run, or memory ran out
    made_so : (made : Plan) → command ≡ Some (run_kept steps file arguments) → (Rose before.faults.source after.faults.source → ⊥) → Comes command before so.plans.prepares.read world (tables_told was is) made
        → (ends_a_run made.ending ≡ true) ⊎ (made ≡ closing out_of_memory)
    made_so made word quiet (meant plan same means) = inl (runs_file plan (subst (λ (c : Option Command). MeansCommand c world (tables_told was is) plan) word means))
    made_so made word quiet (unread one other path rose un) = absurd (quiet (source_rose words before after was is status so rose))
    made_so made word quiet (store_unread query other same un) = absurd (no_run_read query steps file arguments (sym other ∙ word))
    made_so made word quiet (untold query plan other told may same un) = absurd (no_run_read query steps file arguments (sym other ∙ word))
    made_so made word quiet (lacks_memory same aside) = inr refl

    kept_so : (made delivered : Plan) (began : Telling) (clock : Clock) → command ≡ Some (run_kept steps file arguments) → (Rose was.faults is.faults → ⊥) → (ends_a_run made.ending ≡ true) ⊎ (made ≡ closing out_of_memory)
        → so.plan ≡ delivered → Keeps command world began clock made was is delivered → ComesToARun status
    kept_so made delivered began clock word still (inl a_runs) same (no_run none aside untouched) = as_a_run (ap (λ (p : Plan). ends_a_run p.ending) same ∙ a_runs)
    kept_so made delivered began clock word still (inr lacks) same (no_run none aside untouched) = by_planned out_of_memory (ap (λ (p : Plan). p.ending) (same ∙ lacks)) (λ at. inr (inl at))
    kept_so made delivered began clock word still come same (a_reading query other read_so) = absurd (no_run_read query steps file arguments (sym other ∙ word))
    kept_so made delivered began clock word still (inl a_runs) same (a_run steps' file' arguments' word' run of (Ok number) kept) = as_a_run (ap (λ (p : Plan). ends_a_run p.ending) same ∙ a_runs)
    kept_so made delivered began clock word still (inr lacks) same (a_run steps' file' arguments' word' run of (Ok number) kept) = by_planned out_of_memory (ap (λ (p : Plan). p.ending) (same ∙ lacks)) (λ at. inr (inl at))
    kept_so made delivered began clock word still come same (a_run steps' file' arguments' word' run of (Err Memory) kept) = by_planned out_of_memory (ap (λ (p : Plan). p.ending) same) (λ at. inr (inl at))
    kept_so made delivered began clock word still come same (a_run steps' file' arguments' word' run of (Err Keeper) kept) = absurd (still (kept.cause.rose refl))
    kept_so made delivered began clock word still come same (a_run steps' file' arguments' word' run of (Err (Collision digest held given)) kept) =
        by_planned (collision digest.bytes held given) (ap (λ (p : Plan). p.ending) same) (λ at. inr (inr (inl at)))
    kept_so made delivered began clock word still come same (a_run steps' file' arguments' word' run of (Err Full) kept) = by_planned store_full (ap (λ (p : Plan). p.ending) same) (λ at. inr (inr (inr at)))
    kept_so made delivered began clock word still come same (a_run steps' file' arguments' word' run of (Err (NoTrial number)) kept) = absurd kept.of_keeping
    kept_so made delivered began clock word still come same (a_run steps' file' arguments' word' run of (Err (Damaged number damage)) kept) = absurd kept.of_keeping

    pub finished_so : command ≡ Some (run_kept steps file arguments) → (Rose before.faults.source after.faults.source → ⊥) → (Rose was.faults is.faults → ⊥) → ComesToARun status
    finished_so word quiet still =
        kept_so so.plans.made so.plan so.plans.prepares.began so.plans.prepares.clock word still (made_so so.plans.made word quiet so.plans.prepares.comes) refl so.plans.keeps
