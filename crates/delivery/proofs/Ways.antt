-- The ways in which a delivery can end, and what is on the console in each of them.
use Rattle.std.proofs.Common.{◌≡◌, ℕ, false, List, ◌++◌, length, take, Option, Ok, Err, IsOk, ◌⊎◌, inl, inr, ⊎_elim, refl, sym, ap, ◌∙◌, subst, arith}
use Rattle.std.proofs.lemmas.List.{take_all}
use Rattle.std.proofs.lemmas.Bool.{false≢true}
use Rattle.prov_outside.specs.Console.{ConsoleView}
use Rattle.prov_outside.specs.Count.{Rose, faults_after}
use Rattle.prov_outside.specs.Folder.{Files}
use Rattle.prov_outside.specs.Tells.{Tells}
use Rattle.prov_outside.specs.declared.trouble.Trouble.TheVariants.{Failed, Memory}
use Rattle.delivery.specs.Ending.{Ending, console_failed, folder_failed, out_of_memory, status_of, closing_line, tells_of_store}
use Rattle.delivery.specs.PutsAll.{OutFile, Outcome, ending_after_puts}
use Rattle.delivery.specs.Shown.{Closing, no_line, line_tried, line_unmade, Closes, Leaves, Shown, outlasts_console, after_text, after_line, line_of, outcome_of}
use Rattle.delivery.specs.Delivered.{Delivered, ending_to_close}
use Rattle.delivery.specs.Stands.{IsWell}
use Rattle.delivery.specs.Ends.{Ends, as_planned, by_console, by_folder, no_memory, GetsPrefixes}
use Rattle.delivery.proofs.Reading.{tells_more, rises, stays_risen, failed_rose, fault_leaves, not_outlasting, ways, no_bytes, text_ok, line_ok, front_of, line_memory}

-- ---- the ending

line_ways : (closing : Closing) (ending : Ending) → (after_line closing ending ≡ ending) ⊎ (after_line closing ending ≡ out_of_memory)
line_ways no_line ending = inl refl
line_ways (line_tried (Ok all)) ending = inl refl
line_ways (line_tried (Err Failed)) ending = inl refl
line_ways (line_tried (Err Memory)) ending = inr refl
line_ways (line_unmade outcome) ending = inr refl

text_ways : (outcome : Outcome) (ending : Ending) (n : ℕ)
    → (after_text outcome ending ≡ ending) ⊎ ((after_text outcome ending ≡ out_of_memory) ⊎ ((after_text outcome ending ≡ console_failed) × Rose n (faults_after outcome n) × (outlasts_console ending ≡ false)))
text_ways (Ok all) ending n = inl refl
text_ways (Err Failed) ending n = ⊎_elim
    (λ left. inr (inr (left.0, rises n, left.1)))
    (λ left. inl left.0)
    (fault_leaves ending)
text_ways (Err Memory) ending n = inr (inl refl)

-- ---- what is on the console

-- a prefix by its length
abbrev Front : List ℕ → List ℕ → Type 0
Front bytes shown = (n : ℕ) × (shown ≡ take n bytes)

-- all of it, where the write went well
front_whole : (bytes : List ℕ) (outcome : Outcome) (shown : List ℕ) → (left : Leaves bytes outcome shown) → IsOk outcome → take (front_of bytes outcome shown left).0 bytes ≡ bytes
unfolding front_of
front_whole bytes (Ok all) shown left good = take_all (length bytes) bytes (omega arith)
front_whole bytes (Err trouble) shown left good = absurd (false≢true good)

-- what is left of a closing line, by the ending whose line was tried
abbrev LineOf : Closing → Ending → Ending
LineOf no_line ending = ending
LineOf (line_tried outcome) ending = ending
LineOf (line_unmade outcome) ending = out_of_memory

line_shown : (closing : Closing) (ending : Ending) → Closes ending closing → line_of ending closing ≡ closing_line (LineOf closing ending)
line_shown no_line ending closes = sym (no_bytes ending closes)
line_shown (line_tried outcome) ending closes = refl
line_shown (line_unmade outcome) ending closes = refl

line_status : (closing : Closing) (ending : Ending) → (status_of (after_line closing ending) ≡ status_of (LineOf closing ending)) ⊎ (status_of (after_line closing ending) ≡ 8)
line_status no_line ending = inl refl
line_status (line_tried (Ok all)) ending = inl refl
line_status (line_tried (Err Failed)) ending = inl refl
line_status (line_tried (Err Memory)) ending = inr refl
line_status (line_unmade outcome) ending = inr refl

-- the write of the closing line went well
line_good : (closing : Closing) → IsWell closing → IsOk (outcome_of closing)
line_good no_line good = refl
line_good (line_tried outcome) good = good
line_good (line_unmade outcome) good = absurd good

-- ---- the whole

module _ (planned : Ending) (text : List ℕ) (files : List OutFile) (put_before put_after : ℕ) (told_before told_after : Option Files)
    (out_before out_after : ℕ) (console_before console_after : Option ConsoleView) (status : ℕ)
    (d : Delivered planned text files put_before put_after told_before told_after out_before out_after console_before console_after status) where
  abbrev by_puts : Ending
  by_puts = ending_after_puts planned files d.puts

  abbrev by_text : Ending
  by_text = ending_to_close planned files d.puts d.text_outcome

  ends_at : (ending : Ending) → after_line d.closing by_text ≡ ending → status ≡ status_of ending
  ends_at ending is = d.status_is ∙ ap (λ (e : Ending). status_of e) is

  -- where the console's fault ends the command, no fault of the store was planned
  console_planned : outlasts_console by_puts ≡ false → tells_of_store planned ≡ false
  console_planned lasts = ⊎_elim
      (λ good. ap (λ (e : Ending). tells_of_store e) (sym good.1) ∙ not_outlasting by_puts lasts)
      (λ more. ⊎_elim
      (λ short. absurd (false≢true (sym lasts ∙ ap (λ (e : Ending). outlasts_console e) short)))
      (λ failed. ⊎_elim
      (λ folder. folder.1)
      (λ store. ap (λ (e : Ending). tells_of_store e) (sym store.1) ∙ not_outlasting by_puts lasts)
      failed.1)
      more)
      (ways planned files d.puts d.each)

  pub ends_in_a_way : Ends planned put_before put_after out_before out_after status
  ends_in_a_way = ⊎_elim
      (λ stays. ⊎_elim
      (λ same. ⊎_elim
      (λ good. as_planned (ends_at planned (stays ∙ same ∙ good.1)))
      (λ more. ⊎_elim
      (λ short. no_memory (ends_at out_of_memory (stays ∙ same ∙ short)))
      (λ failed. ⊎_elim
      (λ folder. by_folder folder.1 (ends_at (folder_failed failed.0) (stays ∙ same ∙ folder.0)) (subst (λ (n : ℕ). Rose put_before n) (sym d.put_faults) (failed_rose files d.puts failed.0 failed.2 put_before)))
      (λ store. as_planned (ends_at planned (stays ∙ same ∙ store.1)))
      failed.1)
      more)
      (ways planned files d.puts d.each))
      (λ more. ⊎_elim
      (λ short. no_memory (ends_at out_of_memory (stays ∙ short)))
      (λ failed. by_console (console_planned failed.2) (ends_at console_failed (stays ∙ failed.0)) (subst (λ (n : ℕ). Rose out_before n) (sym d.out_faults) (stays_risen (outcome_of d.closing) out_before (faults_after d.text_outcome out_before) failed.1)))
      more)
      (text_ways d.text_outcome by_puts out_before))
      (λ short. no_memory (ends_at out_of_memory short))
      (line_ways d.closing by_text)

  -- no count of the console rose, and memory sufficed: both were written whole
  quiet_writes : (Rose out_before out_after → ⊥) → (status ≡ 8 → ⊥) → IsOk d.text_outcome × IsWell d.closing
  quiet_writes quiet room =
      let still : Rose out_before (faults_after (outcome_of d.closing) (faults_after d.text_outcome out_before)) → ⊥ = λ rose. quiet (subst (λ (n : ℕ). Rose out_before n) (sym d.out_faults) rose) in (
        text_ok d.text_outcome by_puts out_before (λ rose. still (stays_risen (outcome_of d.closing) out_before (faults_after d.text_outcome out_before) rose))
            (λ is. room (d.status_is ∙ ap (λ (e : Ending). status_of (after_line d.closing e)) is ∙ ap (λ (e : Ending). status_of e) (line_memory d.closing))),
        line_ok d.closing by_text d.text_outcome out_before still (λ is. room (d.status_is ∙ ap (λ (e : Ending). status_of e) is)),
      )

  gets_prefixes : (before after : ConsoleView) → Shown text d.text_outcome (line_of by_text d.closing) (outcome_of d.closing) before after
      → (after.lines ≡ before.lines) × GetsPrefixes text out_before out_after status before.written after.written
  gets_prefixes before after got =
      let left : Leaves (closing_line (LineOf d.closing by_text)) (outcome_of d.closing) got.closing
      = subst (λ (xs : List ℕ). Leaves xs (outcome_of d.closing) got.closing) (line_shown d.closing by_text d.closes) got.closing_is in
      let first : Front text got.shown = front_of text d.text_outcome got.shown got.shown_is in
      let second : Front (closing_line (LineOf d.closing by_text)) got.closing = front_of (closing_line (LineOf d.closing by_text)) (outcome_of d.closing) got.closing left in (
        got.lines,
        record {
          ending = LineOf d.closing by_text;
          text_bytes = first.0;
          line_bytes = second.0;
          written = got.written ∙ ap (λ (xs : List ℕ). before.written ++ xs ++ got.closing) first.1 ∙ ap (λ (xs : List ℕ). before.written ++ take first.0 text ++ xs) second.1;
          of_status = ⊎_elim (λ same. inl (d.status_is ∙ same)) (λ eight. inr (d.status_is ∙ eight)) (line_status d.closing by_text);
          whole_text = λ quiet room. front_whole text d.text_outcome got.shown got.shown_is (quiet_writes quiet room).0;
          whole_line = λ quiet room. front_whole (closing_line (LineOf d.closing by_text)) (outcome_of d.closing) got.closing left (line_good d.closing (quiet_writes quiet room).1);
        },
      )

  pub tells_prefixes : Tells console_before console_after (λ (before after : ConsoleView). (after.lines ≡ before.lines) × GetsPrefixes text out_before out_after status before.written after.written)
  tells_prefixes = tells_more console_before console_after (Shown text d.text_outcome (line_of by_text d.closing) (outcome_of d.closing))
      (λ (before after : ConsoleView). (after.lines ≡ before.lines) × GetsPrefixes text out_before out_after status before.written after.written) gets_prefixes d.console
