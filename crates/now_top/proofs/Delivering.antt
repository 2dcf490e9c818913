-- After a console that failed, or a folder that failed at a put, the trial of the run is there.
use Rattle.std.proofs.Common.{◌≡◌, refl, sym, ap, subst, ◌∙◌, ℕ, List, [], ◌∷◌, length, true, false, ◌⊎◌, inl, inr, ⊎_elim, Option, Some, Ok, Err, arith}
use Rattle.std.proofs.lemmas.Bool.{false≢true}
use Rattle.std.proofs.lemmas.Option.{same_Some}
use Rattle.std.specs.Prelude.{IsOk}
use Rattle.delivery.specs.Delivered.{Delivered, last_ending}
use Rattle.delivery.specs.Ending.{Ending, refused, nothing_there, folder_failed, store_failed, out_of_memory, collision, store_full, status_of, tells_of_store}
use Rattle.delivery.specs.Ends.{Ends, as_planned, by_console, by_folder, no_memory}
use Rattle.delivery.specs.PutsAll.{Outcome}
use Rattle.delivery.specs.Shown.{Closing, no_line, line_tried, line_unmade}
use Rattle.now_words.specs.Command.{Command, run_kept, command_of}
use Rattle.prov_outside.specs.declared.trouble.Trouble.TheVariants.{Failed, Memory as OutOfMemory}
use Rattle.py_model.specs.Act.{normal, broke, continued, returned, threw}
use Rattle.py_model.specs.Capture.{Telling}
use Rattle.py_model.specs.Meaning.{meaning, starting}
use Rattle.py_model.specs.Running.{Ended, over, spent, lacking, outcome}
use Rattle.trial_keeping.specs.declared.fault.TrialFault.TheVariants.{NoTrial, Damaged, Keeper, Collision, Full, Memory}
use Rattle.now_top.specs.Completes.{FailedAtDelivery, KeepsOne}
use Rattle.now_top.specs.Kept.{ends_a_run, Clock, Stored, Keeps, no_run, a_run, a_reading, tables_told}
use Rattle.now_top.specs.Means.{MeansCommand, file_of}
use Rattle.now_top.specs.Replies.{Comes, meant, unread, store_unread, untold, no_memory as lacks_memory, Replies}
use Rattle.now_top.specs.RunCommand.{MeansRun, RunsText, ending_in, no_script, runs, nowhere, stands}
use Rattle.now_top.specs.Seen.{Seen}
use Rattle.now_top.specs.World.{World, Plan, closing}
use Rattle.now_top.proofs.Completing.{source_rose, no_run_read, run_told, keeps_or_leaves_so}

-- a closing line alone is delivered with its status, or memory runs out
closing_by : (planned : Ending) (puts : List Outcome) (text_outcome : Outcome) (closing : Closing) → length puts ≡ 0 → IsOk text_outcome
    → (status_of (last_ending planned [] puts text_outcome closing) ≡ status_of planned) ⊎ (status_of (last_ending planned [] puts text_outcome closing) ≡ 8)
closing_by planned [] (Ok all) no_line none ok = inl refl
closing_by planned [] (Ok all) (line_tried (Ok whole)) none ok = inl refl
closing_by planned [] (Ok all) (line_tried (Err Failed)) none ok = inl refl
closing_by planned [] (Ok all) (line_tried (Err OutOfMemory)) none ok = inr refl
closing_by planned [] (Ok all) (line_unmade tried) none ok = inr refl
closing_by planned [] (Err trouble) last none ok = absurd (false≢true ok)
closing_by planned (put ∷ puts) text_outcome last none ok = cc

-- what a run comes to is the ending of a run
pub run_ending : (came : Ended) (ending : Ending) → ending_in came ≡ Some ending → ends_a_run ending ≡ true
run_ending (over normal s) ending is = ap ends_a_run (sym (same_Some _ _ is))
run_ending (over broke s) ending is = ap ends_a_run (sym (same_Some _ _ is))
run_ending (over continued s) ending is = ap ends_a_run (sym (same_Some _ _ is))
run_ending (over (returned v) s) ending is = ap ends_a_run (sym (same_Some _ _ is))
run_ending (over (threw o line) s) ending is = ap ends_a_run (sym (same_Some _ _ is))
run_ending (spent s) ending is = ap ends_a_run (sym (same_Some _ _ is))
run_ending (lacking s) ending is = cc

module _ (words : List (List ℕ)) (before after : Seen) (was is : Stored) (status : ℕ) (so : Replies words before after was is status) where
  abbrev command : Option Command
  command = command_of words

  abbrev world : World
  world = so.plans.prepares.world

  abbrev read : Seen
  read = so.plans.prepares.read

  -- a closing line alone
  closing_status : (ending : Ending) → so.plan ≡ closing ending → (status ≡ status_of ending) ⊎ (status ≡ 8)
  closing_status ending same =
      let d = subst (λ (p : Plan). Delivered p.ending p.text p.files so.ran.faults.put after.faults.put so.ran.folder after.folder so.ran.faults.write after.faults.write so.ran.console after.console status) same so.delivers.delivered in
      ⊎_elim (λ is. inl (d.status_is ∙ is)) (λ is. inr (d.status_is ∙ is)) (closing_by ending d.puts d.text_outcome d.closing d.each (d.no_text refl))

  apart : (n : ℕ) → (n ≡ 5 → ⊥) → (n ≡ 6 → ⊥) → status ≡ n → FailedAtDelivery before after status → ⊥
  apart n five six is at = ⊎_elim (λ here. five (sym is ∙ here)) (λ here. six (sym is ∙ here.0)) at

  eight : status ≡ 8 → FailedAtDelivery before after status → ⊥
  eight is at = apart 8 (λ e. omega (arith, e)) (λ e. omega (arith, e)) is at

  -- a closing line alone, with such a status
  never_closing : (ending : Ending) → so.plan ≡ closing ending → ((status ≡ status_of ending) → FailedAtDelivery before after status → ⊥) → FailedAtDelivery before after status → ⊥
  never_closing ending same other at = ⊎_elim (λ is. other is at) (λ is. eight is at) (closing_status ending same)

  never_text : (file text : List ℕ) (steps : ℕ) (arguments : List (List ℕ)) (made : Plan) → RunsText file text steps arguments world.capture made → so.plan ≡ made → ends_a_run so.plan.ending ≡ false → FailedAtDelivery before after status → ⊥
  never_text file text steps arguments made (no_script place ref un) same none at = never_closing (refused file place.line place.col) same (λ is. apart 3 (λ e. omega (arith, e)) (λ e. omega (arith, e)) is) at
  never_text file text steps arguments made (runs script has plan is_run) same none at =
      absurd (false≢true (sym none ∙ ap (λ (p : Plan). ends_a_run p.ending) same ∙ run_ending (outcome world.capture (meaning script steps) (starting world.capture file arguments steps)) plan.ending is_run.ending))

  never_run : (file : List ℕ) (steps : ℕ) (arguments : List (List ℕ)) (made : Plan) → MeansRun file steps arguments world made → so.plan ≡ made → ends_a_run so.plan.ending ≡ false → FailedAtDelivery before after status → ⊥
  never_run file steps arguments made (nowhere where_not un) same none at = never_closing nothing_there same (λ is. apart 4 (λ e. omega (arith, e)) (λ e. omega (arith, e)) is) at
  never_run file steps arguments made (stands text there plan of) same none at = never_text file text steps arguments plan of same none at

  never_made : (steps : ℕ) (file : List ℕ) (arguments : List (List ℕ)) (made : Plan) → command ≡ Some (run_kept steps file arguments) → Comes command before read world (tables_told was is) made → so.plan ≡ made → ends_a_run so.plan.ending ≡ false
      → FailedAtDelivery before after status → ⊥
  never_made steps file arguments made word (meant plan same_source means) same none at =
      never_run file steps arguments plan (subst (λ (c : Option Command). MeansCommand c world (tables_told was is) plan) word means) same none at
  never_made steps file arguments made word (unread one other path rose un) same none at =
      never_closing (folder_failed (file_of one)) same (λ six failed. ⊎_elim (λ here. let both : ◌≡◌ {A = ℕ} 5 6 = sym here ∙ six in omega (arith, both)) (λ here. here.1 (source_rose words before after was is status so rose)) failed) at
  never_made steps file arguments made word (store_unread query other same_source un) same none at = absurd (no_run_read query steps file arguments (sym other ∙ word))
  never_made steps file arguments made word (untold query plan other told may same_source un) same none at = absurd (no_run_read query steps file arguments (sym other ∙ word))
  never_made steps file arguments made word (lacks_memory same_source aside) same none at = never_closing out_of_memory same (λ is. eight is) at

  -- a fault of the store stands over others
  never_fault : (ending : Ending) → so.plan.ending ≡ ending → tells_of_store ending ≡ true → (status_of ending ≡ 5 → ⊥) → (status_of ending ≡ 6 → ⊥)
      → Ends so.plan.ending so.ran.faults.put after.faults.put so.ran.faults.write after.faults.write status → FailedAtDelivery before after status → ⊥
  never_fault ending same tells five six (as_planned is) at = apart (status_of ending) five six (is ∙ ap status_of same) at
  never_fault ending same tells five six (by_console store is rose) at = false≢true (sym store ∙ ap tells_of_store same ∙ tells)
  never_fault ending same tells five six (by_folder store is rose) at = false≢true (sym store ∙ ap tells_of_store same ∙ tells)
  never_fault ending same tells five six (no_memory is) at = eight is at

  module _ (ends : Ends so.plan.ending so.ran.faults.put after.faults.put so.ran.faults.write after.faults.write status) where
    never_by : (made delivered : Plan) (began : Telling) (clock : Clock) (steps : ℕ) (file : List ℕ) (arguments : List (List ℕ)) → command ≡ Some (run_kept steps file arguments)
        → Keeps command world began clock made was is delivered → so.plan ≡ delivered → Comes command before read world (tables_told was is) made → ends_a_run so.plan.ending ≡ false → FailedAtDelivery before after status → ⊥
    never_by made delivered began clock steps file arguments word (no_run none aside still) same comes no_ending at = never_made steps file arguments made word comes same no_ending at
    never_by made delivered began clock steps file arguments word (a_reading query other read_so) same comes no_ending at = no_run_read query steps file arguments (sym other ∙ word)
    never_by made delivered began clock steps file arguments word (a_run steps' file' arguments' word' run of (Ok number) kept) same comes no_ending at =
        false≢true (sym no_ending ∙ ap (λ (p : Plan). ends_a_run p.ending) (same ∙ of.made_is) ∙ run_told of.it.ended.end)
    never_by made delivered began clock steps file arguments word (a_run steps' file' arguments' word' run of (Err Memory) kept) same comes no_ending at = never_closing out_of_memory same (λ is. eight is) at
    never_by made delivered began clock steps file arguments word (a_run steps' file' arguments' word' run of (Err Keeper) kept) same comes no_ending at =
        never_fault store_failed (ap (λ (p : Plan). p.ending) same) refl (λ e. omega (arith, e)) (λ e. omega (arith, e)) ends at
    never_by made delivered began clock steps file arguments word (a_run steps' file' arguments' word' run of (Err (Collision digest there given)) kept) same comes no_ending at =
        never_fault (collision digest.bytes there given) (ap (λ (p : Plan). p.ending) same) refl (λ e. omega (arith, e)) (λ e. omega (arith, e)) ends at
    never_by made delivered began clock steps file arguments word (a_run steps' file' arguments' word' run of (Err Full) kept) same comes no_ending at =
        never_fault store_full (ap (λ (p : Plan). p.ending) same) refl (λ e. omega (arith, e)) (λ e. omega (arith, e)) ends at
    never_by made delivered began clock steps file arguments word (a_run steps' file' arguments' word' run of (Err (NoTrial number)) kept) same comes no_ending at = absurd kept.of_keeping
    never_by made delivered began clock steps file arguments word (a_run steps' file' arguments' word' run of (Err (Damaged number damage)) kept) same comes no_ending at = absurd kept.of_keeping

    pub delivered_so : (steps : ℕ) (file : List ℕ) (arguments : List (List ℕ)) → command ≡ Some (run_kept steps file arguments) → FailedAtDelivery before after status
        → KeepsOne file steps arguments world so.plans.prepares.began so.plans.prepares.clock so.plans.made was is
    delivered_so steps file arguments word at =
        ⊎_elim (λ kept. kept.0)
        (λ left. absurd (never_by so.plans.made so.plan so.plans.prepares.began so.plans.prepares.clock steps file arguments word so.plans.keeps refl so.plans.prepares.comes left.1 at))
        (keeps_or_leaves_so words before after was is status so steps file arguments word)
