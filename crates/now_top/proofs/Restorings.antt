-- How a restoring ends, and what stands then.
use Rattle.std.proofs.Common.{◌≡◌, refl, sym, ap, subst, ◌∙◌, ℕ, ◌≤◌, List, [], ◌∷◌, ◌++◌, length, take, Bool, true, false, ◌⊎◌, inl, inr, ⊎_elim, Option, Some, None, Result, Ok, Err, arith, if◌then◌else◌}
use Rattle.std.proofs.lemmas.Bool.{false≢true, cases_lt}
use Rattle.std.proofs.lemmas.List.{take_all, append-nil}
use Rattle.std.specs.Prelude.{IsOk, IsTrue, IfErr}
use Rattle.delivery.specs.Delivered.{Delivered, ending_to_close, last_ending}
use Rattle.delivery.specs.Ending.{Ending, done, nothing_there, console_failed, folder_failed, store_failed, out_of_memory, damaged_trial, status_of, closing_line}
use Rattle.delivery.specs.Ends.{GetsPrefixes}
use Rattle.delivery.specs.PutsAll.{Outcome, PutsAll, faults_of}
use Rattle.delivery.specs.Shown.{Closing, no_line, line_tried, line_unmade, Closes, Leaves, Shown, after_text, after_line, line_of, outcome_of, outlasts_console}
use Rattle.delivery.specs.Stands.{HasAll, WentWell}
use Rattle.keeper.specs.Keeping.{KeeperView}
use Rattle.keeper.specs.declared.records.Head.{Head}
use Rattle.keeper.specs.Tables.{TablesView, head_at, with_current}
use Rattle.prov_outside.specs.Console.{ConsoleView}
use Rattle.prov_outside.specs.Count.{Rose, one_more, faults_after}
use Rattle.prov_outside.specs.Folder.{Files}
use Rattle.prov_outside.specs.Tells.{Tells}
use Rattle.prov_outside.specs.declared.trouble.Trouble.{Trouble}
use Rattle.prov_outside.specs.declared.trouble.Trouble.TheVariants.{Failed, Memory as NoMemory}
use Rattle.trial_history.proofs.Putting.{tells_more, tells_then, tells_same, all_were}
use Rattle.trial_history.specs.Current.{Sets, settled}
use Rattle.trial_history.specs.Fault.{has_failed}
use Rattle.trial_history.specs.Puts.{OneFile, End, all_put, refused as refused_at, short, EndsBehind, Answers, Puts, Stands, faults_by, restored_lines, with_files}
use Rattle.trial_history.specs.Restoring.{IsFrom, IsOfSetting, Restores, files_of, not_loaded, not_put, put as all_were_put}
use Rattle.trial_history.specs.declared.fault.RestoreFault.{RestoreFault}
use Rattle.trial_history.specs.declared.fault.RestoreFault.TheVariants.{Trial, Folder}
use Rattle.trial_keeping.specs.declared.fault.TrialFault.{TrialFault}
use Rattle.trial_keeping.specs.declared.fault.TrialFault.TheVariants.{NoTrial, Damaged, Keeper, Collision, Full, Memory}
use Rattle.trial_keeping.specs.Heads.{IsOfList}
use Rattle.trial_loading.specs.Loading.{IsDamaged, IsLoaded, IsOfLoading, Loads}
use Rattle.trial_loading.specs.declared.trial.Trial.{Trial as OneTrial}
use Rattle.trial_show.specs.Details.{detail}
use Rattle.trial_tables.specs.Causes.{Causes}
use Rattle.trial_tables.specs.declared.damage.Damage.{Damage}
use Rattle.now_top.specs.Completes.{WritesPrefixes}
use Rattle.now_top.specs.Kept.{Stored}
use Rattle.now_top.specs.Restored.{EndsBy, EndsByFault, RestoresTrial, RestoredWhole, RefusedPut, StayOrSet, EndsRestoring, whole, not_there, by_console, by_folder, by_store, no_memory, amiss}
use Rattle.now_top.specs.Seen.{Seen}

-- two facts of what is told
tells_both : {T : Type 0} (a b : Option T) (P Q R : T → T → Type 0) → ((x y : T) → P x y → Q x y → R x y) → Tells a b P → Tells a b Q → Tells a b R
tells_both a None P Q R both first second = tt
tells_both None (Some y) P Q R both first second = absurd first
tells_both (Some x) (Some y) P Q R both first second = both x y first second

-- ---- a delivery without files

no_outcomes : (puts : List Outcome) → length puts ≡ 0 → puts ≡ []
no_outcomes [] is = refl
no_outcomes (one ∷ more) is = absurd (omega (arith, is))

rises : (n : ℕ) → Rose n (one_more n)
rises n = ⊎_elim (λ below. inl (omega (arith, below))) (λ past. inr (omega (arith, past))) (cases_lt n 18446744073709551615)

-- how it ends: as planned; or the console failed at the text, which is not empty; or memory ran out
data Way (planned : Ending) (text : List ℕ) (out_before out_after status : ℕ) : Type 0 where
  as_told : status ≡ status_of planned → Way planned text out_before out_after status
  no_console : status ≡ 5 → (text ≡ [] → ⊥) → Rose out_before out_after → Way planned text out_before out_after status
  lacks : status ≡ 8 → Way planned text out_before out_after status

module _ (planned : Ending) (text : List ℕ) (ob oa status : ℕ) where
  line_way : (closing : Closing) → status ≡ status_of (after_line closing planned) → Way planned text ob oa status
  line_way no_line is = as_told is
  line_way (line_tried (Ok all)) is = as_told is
  line_way (line_tried (Err Failed)) is = as_told is
  line_way (line_tried (Err NoMemory)) is = lacks is
  line_way (line_unmade outcome) is = lacks is

  short_way : (closing : Closing) → status ≡ status_of (after_line closing out_of_memory) → Way planned text ob oa status
  short_way no_line is = lacks is
  short_way (line_tried (Ok all)) is = lacks is
  short_way (line_tried (Err Failed)) is = lacks is
  short_way (line_tried (Err NoMemory)) is = lacks is
  short_way (line_unmade outcome) is = lacks is

  fallen_way : (closing : Closing) → Closes console_failed closing → (text ≡ [] → ⊥) → oa ≡ faults_after (outcome_of closing) (one_more ob) → status ≡ status_of (after_line closing console_failed) → Way planned text ob oa status
  fallen_way no_line closes some faults is = no_console is some (subst (λ (n : ℕ). Rose ob n) (sym faults) (rises ob))
  fallen_way (line_tried outcome) closes some faults is = absurd (false≢true closes)
  fallen_way (line_unmade outcome) closes some faults is = absurd (false≢true closes)

  failed_way : (b : Bool) (closing : Closing) → Closes (if b then planned else console_failed) closing → (text ≡ [] → ⊥) → oa ≡ faults_after (outcome_of closing) (one_more ob)
      → status ≡ status_of (after_line closing (if b then planned else console_failed)) → Way planned text ob oa status
  failed_way true closing closes some faults is = line_way closing is
  failed_way false closing closes some faults is = fallen_way closing closes some faults is

  text_way : (outcome : Outcome) (closing : Closing) → (text ≡ [] → IsOk outcome) → Closes (after_text outcome planned) closing → oa ≡ faults_after (outcome_of closing) (faults_after outcome ob)
      → status ≡ status_of (after_line closing (after_text outcome planned)) → Way planned text ob oa status
  text_way (Ok all) closing full closes faults is = line_way closing is
  text_way (Err Failed) closing full closes faults is = failed_way (outlasts_console planned) closing closes (λ none. false≢true (full none)) faults is
  text_way (Err NoMemory) closing full closes faults is = short_way closing is

module _ (planned : Ending) (text : List ℕ) (pb pa : ℕ) (fb fa : Option Files) (ob oa : ℕ) (cb ca : Option ConsoleView) (status : ℕ) (d : Delivered planned text [] pb pa fb fa ob oa cb ca status) where
  no_puts : d.puts ≡ []
  no_puts = no_outcomes d.puts d.each

  way_of : Way planned text ob oa status
  way_of = text_way planned text ob oa status d.text_outcome d.closing d.no_text (subst (λ (puts : List Outcome). Closes (ending_to_close planned [] puts d.text_outcome) d.closing) no_puts d.closes) d.out_faults
      (subst (λ (puts : List Outcome). status ≡ status_of (last_ending planned [] puts d.text_outcome d.closing)) no_puts d.status_is)

  same_puts : pa ≡ pb
  same_puts = subst (λ (puts : List Outcome). pa ≡ faults_of puts pb) no_puts d.put_faults

  same_files : Tells fb fa (λ (old new : Files). new ≡ old)
  same_files = subst (λ (puts : List Outcome). Tells fb fa (PutsAll [] puts)) no_puts d.folder

-- ---- the line of a refused put

leaves_take : (bytes : List ℕ) (outcome : Outcome) (shown : List ℕ) → Leaves bytes outcome shown → (n : ℕ) × (shown ≡ take n bytes)
leaves_take bytes (Ok all) shown is = (length bytes, is ∙ sym (take_all (length bytes) bytes (omega arith)))
leaves_take bytes (Err trouble) shown is = is

six_line : (path : List ℕ) (closing : Closing) (status : ℕ) → status ≡ 6 → Closes (folder_failed path) closing → status ≡ status_of (after_line closing (folder_failed path)) → line_of (folder_failed path) closing ≡ closing_line (folder_failed path)
six_line path no_line status six closes is = absurd (false≢true (sym closes))
six_line path (line_tried outcome) status six closes is = refl
six_line path (line_unmade outcome) status six closes is = absurd (omega (arith, six, is))

short_line : (closing : Closing) (status : ℕ) → status ≡ 6 → status ≡ status_of (after_line closing out_of_memory) → ⊥
short_line no_line status six is = omega (arith, six, is)
short_line (line_tried (Ok all)) status six is = omega (arith, six, is)
short_line (line_tried (Err Failed)) status six is = omega (arith, six, is)
short_line (line_tried (Err NoMemory)) status six is = omega (arith, six, is)
short_line (line_unmade outcome) status six is = omega (arith, six, is)

line_at : (path : List ℕ) (outcome : Outcome) (closing : Closing) (status : ℕ) → status ≡ 6 → Closes (after_text outcome (folder_failed path)) closing → status ≡ status_of (after_line closing (after_text outcome (folder_failed path)))
    → line_of (after_text outcome (folder_failed path)) closing ≡ closing_line (folder_failed path)
line_at path (Ok all) closing status six closes is = six_line path closing status six closes is
line_at path (Err Failed) closing status six closes is = six_line path closing status six closes is
line_at path (Err NoMemory) closing status six closes is = absurd (short_line closing status six is)

written_so : (text : List ℕ) (outcome : Outcome) (line : List ℕ) (of_line : Outcome) (line_is : List ℕ) → line ≡ line_is → (old new : ConsoleView) → Shown text outcome line of_line old new
    → (n : ℕ) × (m : ℕ) × (new.written ≡ old.written ++ take n text ++ take m line_is)
written_so text outcome line of_line line_is same old new shown =
    let front = leaves_take text outcome shown.shown shown.shown_is in
    let back = leaves_take line of_line shown.closing shown.closing_is in
    (front.0, back.0, shown.written ∙ ap (λ (xs : List ℕ). old.written ++ xs ++ shown.closing) front.1 ∙ ap (λ (xs : List ℕ). old.written ++ take front.0 text ++ xs) (back.1 ∙ ap (take back.0) same))

refused_line : (path text : List ℕ) (pb pa : ℕ) (fb fa : Option Files) (ob oa : ℕ) (cb ca : Option ConsoleView) (status : ℕ) (d : Delivered (folder_failed path) text [] pb pa fb fa ob oa cb ca status) → status ≡ 6
    → Tells cb ca (λ (old new : ConsoleView). (n : ℕ) × (m : ℕ) × (new.written ≡ old.written ++ take n text ++ take m (closing_line (folder_failed path))))
refused_line path text pb pa fb fa ob oa cb ca status d six =
    let none : d.puts ≡ [] = no_puts (folder_failed path) text pb pa fb fa ob oa cb ca status d in
    let line : line_of (after_text d.text_outcome (folder_failed path)) d.closing ≡ closing_line (folder_failed path) = line_at path d.text_outcome d.closing status six
    (subst (λ (puts : List Outcome). Closes (ending_to_close (folder_failed path) [] puts d.text_outcome) d.closing) none d.closes)
    (subst (λ (puts : List Outcome). status ≡ status_of (last_ending (folder_failed path) [] puts d.text_outcome d.closing)) none d.status_is) in
    tells_more cb ca (Shown text d.text_outcome (line_of (after_text d.text_outcome (folder_failed path)) d.closing) (outcome_of d.closing))
    (λ (old new : ConsoleView). (n : ℕ) × (m : ℕ) × (new.written ≡ old.written ++ take n text ++ take m (closing_line (folder_failed path))))
    (written_so text d.text_outcome (line_of (after_text d.text_outcome (folder_failed path)) d.closing) (outcome_of d.closing) (closing_line (folder_failed path)) line)
    (subst (λ (puts : List Outcome). Tells cb ca (Shown text d.text_outcome (line_of (ending_to_close (folder_failed path) [] puts d.text_outcome) d.closing) (outcome_of d.closing))) none d.console)

-- ---- what came of the restoring

-- no fault ends with status 0
fault_status : (fault : TrialFault) (ending : Ending) → EndsByFault fault ending → status_of ending ≡ 0 → ⊥
fault_status (NoTrial number) ending ends zero = omega (arith, zero, ap status_of ends)
fault_status (Damaged number damage) ending (inl ends) zero = omega (arith, zero, ap status_of ends)
fault_status (Damaged number damage) ending (inr ends) zero = omega (arith, zero, ap status_of ends)
fault_status Keeper ending ends zero = omega (arith, zero, ap status_of ends)
fault_status Memory ending ends zero = omega (arith, zero, ap status_of ends)
fault_status (Collision digest kept given) ending ends zero = omega (arith, zero, ap status_of ends)
fault_status Full ending ends zero = omega (arith, zero, ap status_of ends)

err_status : (fault : RestoreFault) (ending : Ending) → EndsBy (Err fault) ending → status_of ending ≡ 0 → ⊥
err_status (Trial fault) ending ends zero = fault_status fault ending ends zero
err_status (Folder path) ending ends zero = omega (arith, zero, ap status_of ends)

-- what is known of a restoring that ends with status 0
record AllDone (number : ℕ) (old new : Option KeeperView) (text : List ℕ) (fb fa : Option Files) : Type 0 where
  trial : OneTrial
  from : IsFrom number trial old new
  lines : text ≡ restored_lines (files_of trial)
  files : Tells fb fa (Stands (files_of trial) all_put)
  tables : Tells old new (λ (one other : KeeperView). other ≡ settled (with_current trial.head.path number one.committed))

all_done : (number : ℕ) (result : Result (Unit {0}) RestoreFault) (old new : Option KeeperView) (text : List ℕ) (pb pa : ℕ) (fb fa : Option Files) (ending : Ending) → EndsBy result ending → status_of ending ≡ 0
    → Restores number result old new [] text pb pa fb fa → AllDone number old new text fb fa
all_done number result old new text pb pa fb fa ending ends zero (not_loaded fault is of_loading loads told count same) =
    absurd (fault_status fault ending (subst (λ (r : Result (Unit {0}) RestoreFault). EndsBy r ending) is ends) zero)
all_done number result old new text pb pa fb fa ending ends zero (not_put trial fault is from puts stays) =
    absurd (err_status fault ending (subst (λ (r : Result (Unit {0}) RestoreFault). EndsBy r ending) is ends) zero)
all_done number (Err fault) old new text pb pa fb fa ending ends zero (all_were_put trial of_setting from puts sets) = absurd (err_status fault ending ends zero)
all_done number (Ok all) old new text pb pa fb fa ending ends zero (all_were_put trial of_setting from puts sets) =
    let every = all_were (files_of trial) [] text pb pa fb fa puts in
    record { trial = trial; from = from; lines = every.lines; files = every.folder; tables = sets }

memory_of : (ended : End) (fault : TrialFault) → Answers ended (Err (Trial fault)) → fault ≡ Memory
memory_of all_put fault answers = absurd answers
memory_of (refused_at path Failed) fault answers = answers
memory_of (refused_at path NoMemory) fault answers = answers
memory_of short fault answers = answers

-- without a file nothing more stands
nothing_more : (one two three : Files) (put : List OneFile) → ((path : List ℕ) → two path ≡ with_files put one path) → three ≡ two → (path : List ℕ) → three path ≡ with_files put one path
nothing_more one two three put stands same path = ap (λ (files : Files). files path) same ∙ stands path

text_alone : (x y z text line : List ℕ) → y ≡ x → line ≡ [] → z ≡ y ++ text ++ line → z ≡ x ++ text
text_alone x y z text line same none all =
    let plain : z ≡ y ++ text ++ [] = subst (λ (l : List ℕ). z ≡ y ++ text ++ l) none all in
    let short_text : y ++ text ++ [] ≡ y ++ text = append-nil (y ++ text) in
    plain ∙ short_text ∙ ap (λ (xs : List ℕ). xs ++ text) same

module _ (number : ℕ) (before after : Seen) (was is : Stored) (status : ℕ) (of : RestoresTrial number before after was is status) where
  way : Way of.ending of.text of.ran.faults.write after.faults.write status
  way = way_of of.ending of.text of.ran.faults.put after.faults.put of.ran.folder after.folder of.ran.faults.write after.faults.write of.ran.console after.console status of.delivers.delivered

  write_rose : Rose of.ran.faults.write after.faults.write → Rose before.faults.write after.faults.write
  write_rose rose = subst (λ (n : ℕ). Rose n after.faults.write) of.aside.write rose

  put_same : after.faults.put ≡ of.ran.faults.put
  put_same = same_puts of.ending of.text of.ran.faults.put after.faults.put of.ran.folder after.folder of.ran.faults.write after.faults.write of.ran.console after.console status of.delivers.delivered

  files_same : Tells of.ran.folder after.folder (λ (old new : Files). new ≡ old)
  files_same = same_files of.ending of.text of.ran.faults.put after.faults.put of.ran.folder after.folder of.ran.faults.write after.faults.write of.ran.console after.console status of.delivers.delivered

  -- ---- all was done

  -- behind what was told by the puts the folder stays
  files_then : (put : List OneFile) → Tells before.folder of.ran.folder (Stands put all_put) → Tells before.folder after.folder (λ (old new : Files). (path : List ℕ) → new path ≡ with_files put old path)
  files_then put stands = tells_then before.folder of.ran.folder after.folder (Stands put all_put) (λ (old new : Files). new ≡ old) (λ (old new : Files). (path : List ℕ) → new path ≡ with_files put old path)
      (λ one two three first same. nothing_more one two three put first same) stands files_same

  pub whole_so : WentWell of.ending of.text [] of.ran.faults.put after.faults.put of.ran.folder after.folder of.ran.faults.write after.faults.write of.ran.console after.console status → of.ending ≡ done → RestoredWhole number before after was is
  whole_so well ended =
      let every : AllDone number was.told is.told of.text before.folder of.ran.folder = all_done number of.result was.told is.told of.text before.faults.put of.ran.faults.put before.folder of.ran.folder of.ending of.ends (ap status_of ended) of.restores in
      record {
        trial = every.trial;
        from = every.from;
        folder = files_then (files_of every.trial) every.files;
        console = subst (λ (text : List ℕ). Tells before.console after.console (λ (old new : ConsoleView). new.written ≡ old.written ++ text)) every.lines
            (subst (λ (from : Option ConsoleView). Tells from after.console (λ (old new : ConsoleView). new.written ≡ old.written ++ of.text)) of.aside.console
            (tells_more of.ran.console after.console (λ (old new : ConsoleView). (new.lines ≡ old.lines) × (new.written ≡ old.written ++ of.text ++ closing_line of.ending)) (λ (old new : ConsoleView). new.written ≡ old.written ++ of.text)
            (λ x y all. text_alone x.written x.written y.written of.text (closing_line of.ending) refl (ap closing_line ended) all.1) well.console));
        tables = every.tables;
      }

  -- ---- the ways to end

  abbrev Stays : KeeperView → KeeperView → Type 0
  Stays old new = new ≡ old

  abbrev Ending_is : Type 0
  Ending_is = EndsRestoring number before after was is status

  to_stay : Tells was.told is.told Stays → Tells was.told is.told (StayOrSet number)
  to_stay stays = tells_more was.told is.told Stays (StayOrSet number) (λ x y same. inl same) stays

  -- the trial was not loaded
  unloaded : (fault : TrialFault) → EndsByFault fault of.ending → IsOfLoading number fault → Tells was.told is.told (Loads number (Err fault)) → of.text ≡ [] → (IsTrue (has_failed {T = Unit {0}} (Err (Trial fault))) → Rose was.faults is.faults)
      → Way of.ending of.text of.ran.faults.write after.faults.write status → Ending_is
  unloaded fault ends of_loading loads none rose (no_console at some fell) = absurd (some none)
  unloaded (NoTrial other) ends of_loading loads none rose (as_told at) = not_there (at ∙ ap status_of ends) loads
  unloaded (NoTrial other) ends of_loading loads none rose (lacks at) = no_memory at (tells_more was.told is.told (Loads number (Err (NoTrial other))) (StayOrSet number) (λ x y all. inl all.1) loads)
  unloaded (Damaged other damage) (inl ends) of_loading loads none rose (as_told at) = amiss (at ∙ ap status_of ends) damage loads
  unloaded (Damaged other damage) (inr ends) of_loading loads none rose (as_told at) = no_memory (at ∙ ap status_of ends) (tells_more was.told is.told (Loads number (Err (Damaged other damage))) (StayOrSet number) (λ x y all. inl all.1) loads)
  unloaded (Damaged other damage) ends of_loading loads none rose (lacks at) = no_memory at (tells_more was.told is.told (Loads number (Err (Damaged other damage))) (StayOrSet number) (λ x y all. inl all.1) loads)
  unloaded Keeper ends of_loading loads none rose (as_told at) = by_store (at ∙ ap status_of ends) (rose refl) loads
  unloaded Keeper ends of_loading loads none rose (lacks at) = no_memory at (to_stay loads)
  unloaded Memory ends of_loading loads none rose (as_told at) = no_memory (at ∙ ap status_of ends) (to_stay loads)
  unloaded Memory ends of_loading loads none rose (lacks at) = no_memory at (to_stay loads)
  unloaded (Collision digest kept given) ends of_loading loads none rose (as_told at) = absurd of_loading
  unloaded (Collision digest kept given) ends of_loading loads none rose (lacks at) = absurd of_loading
  unloaded Full ends of_loading loads none rose (as_told at) = absurd of_loading
  unloaded Full ends of_loading loads none rose (lacks at) = absurd of_loading

  -- memory ran out behind the loading
  short_behind : (trial : OneTrial) → IsFrom number trial was.told is.told → of.ending ≡ out_of_memory → Tells was.told is.told (StayOrSet number) → Way of.ending of.text of.ran.faults.write after.faults.write status → Ending_is
  short_behind trial from ends stays (as_told at) = no_memory (at ∙ ap status_of ends) stays
  short_behind trial from ends stays (no_console at some fell) = by_console at (write_rose fell) trial from stays
  short_behind trial from ends stays (lacks at) = no_memory at stays

  -- a put was refused
  module _ (trial : OneTrial) (from : IsFrom number trial was.told is.told) (stays : Tells was.told is.told Stays) (put : List OneFile) (lines : of.text ≡ restored_lines put) where
    refused_so : (path bytes : List ℕ) (rest : List OneFile) → files_of trial ≡ put ++ (path, bytes) ∷ rest → of.ran.faults.put ≡ one_more before.faults.put → of.ending ≡ folder_failed path → status ≡ 6 → RefusedPut number before after was is
    refused_so path bytes rest behind faults ends six = record {
      trial = trial;
      from = from;
      put = put;
      path = path;
      bytes = bytes;
      rest = rest;
      files = behind;
      rose = subst (λ (n : ℕ). Rose before.faults.put n) (sym (put_same ∙ faults)) (rises before.faults.put);
      console =
          let told : Delivered (folder_failed path) of.text [] of.ran.faults.put after.faults.put of.ran.folder after.folder of.ran.faults.write after.faults.write of.ran.console after.console status =
          subst (λ (e : Ending). Delivered e of.text [] of.ran.faults.put after.faults.put of.ran.folder after.folder of.ran.faults.write after.faults.write of.ran.console after.console status) ends of.delivers.delivered in
          subst (λ (text : List ℕ). Tells before.console after.console (λ (old new : ConsoleView). (n : ℕ) × (m : ℕ) × (new.written ≡ old.written ++ take n text ++ take m (closing_line (folder_failed path))))) lines
          (subst (λ (from : Option ConsoleView). Tells from after.console (λ (old new : ConsoleView). (n : ℕ) × (m : ℕ) × (new.written ≡ old.written ++ take n of.text ++ take m (closing_line (folder_failed path))))) of.aside.console
          (refused_line path of.text of.ran.faults.put after.faults.put of.ran.folder after.folder of.ran.faults.write after.faults.write of.ran.console after.console status told six));
      tables = stays;
    }

    at_folder : (path bytes : List ℕ) (rest : List OneFile) → files_of trial ≡ put ++ (path, bytes) ∷ rest → of.ran.faults.put ≡ one_more before.faults.put → of.ending ≡ folder_failed path
        → Way of.ending of.text of.ran.faults.write after.faults.write status → Ending_is
    at_folder path bytes rest behind faults ends (as_told at) = by_folder (at ∙ ap status_of ends) (refused_so path bytes rest behind faults ends (at ∙ ap status_of ends))
    at_folder path bytes rest behind faults ends (no_console at some fell) = by_console at (write_rose fell) trial from (to_stay stays)
    at_folder path bytes rest behind faults ends (lacks at) = no_memory at (to_stay stays)

    unput : (fault : RestoreFault) (ended : End) → EndsBy (Err fault) of.ending → EndsBehind (files_of trial) put ended → Answers ended (Err fault) → of.ran.faults.put ≡ faults_by ended before.faults.put → Ending_is
    unput (Trial fault) ended ends behind answers faults = short_behind trial from (subst (λ (f : TrialFault). EndsByFault f of.ending) (memory_of ended fault answers) ends) (to_stay stays) way
    unput (Folder told) (refused_at path Failed) ends behind answers faults = at_folder path behind.0 behind.1 behind.2 faults (ends ∙ ap folder_failed answers) way
    unput (Folder told) (refused_at path NoMemory) ends behind answers faults = absurd answers
    unput (Folder told) all_put ends behind answers faults = absurd answers
    unput (Folder told) short ends behind answers faults = absurd answers

  -- all files were put
  module _ (trial : OneTrial) (from : IsFrom number trial was.told is.told) (law : status ≡ 0 → RestoredWhole number before after was is) where
    set_so : Tells was.told is.told (λ (old new : KeeperView). new ≡ settled (with_current trial.head.path number old.committed)) → Tells was.told is.told (StayOrSet number)
    set_so sets = tells_both was.told is.told (λ (old new : KeeperView). IsLoaded old.seen number trial) (λ (old new : KeeperView). new ≡ settled (with_current trial.head.path number old.committed)) (StayOrSet number)
        (λ old new loaded same. inr (trial.head, loaded.head_is, same)) from.is_loaded sets

    done_so : of.ending ≡ done → Tells was.told is.told (StayOrSet number) → Way of.ending of.text of.ran.faults.write after.faults.write status → Ending_is
    done_so ends set (as_told at) = whole (at ∙ ap status_of ends) (law (at ∙ ap status_of ends))
    done_so ends set (no_console at some fell) = by_console at (write_rose fell) trial from set
    done_so ends set (lacks at) = no_memory at set

    store_so : of.ending ≡ store_failed → Rose was.faults is.faults → Tells was.told is.told Stays → Way of.ending of.text of.ran.faults.write after.faults.write status → Ending_is
    store_so ends rose stays (as_told at) = by_store (at ∙ ap status_of ends) rose stays
    store_so ends rose stays (no_console at some fell) = by_console at (write_rose fell) trial from (to_stay stays)
    store_so ends rose stays (lacks at) = no_memory at (to_stay stays)

    all_put_so : (result : Result (Unit {0}) RestoreFault) → (IsTrue (has_failed result) → Rose was.faults is.faults) → EndsBy result of.ending → IsOfSetting result → Tells was.told is.told (Sets (with_current trial.head.path number) result) → Ending_is
    all_put_so (Ok all) rose ends of_setting sets = done_so ends (set_so sets) way
    all_put_so (Err (Trial Keeper)) rose ends of_setting sets = store_so ends (rose refl) sets way
    all_put_so (Err (Trial Memory)) rose ends of_setting sets = short_behind trial from ends (to_stay sets) way
    all_put_so (Err (Trial (NoTrial other))) rose ends of_setting sets = absurd of_setting
    all_put_so (Err (Trial (Damaged other damage))) rose ends of_setting sets = absurd of_setting
    all_put_so (Err (Trial (Collision digest kept given))) rose ends of_setting sets = absurd of_setting
    all_put_so (Err (Trial Full)) rose ends of_setting sets = absurd of_setting
    all_put_so (Err (Folder path)) rose ends of_setting sets = absurd of_setting

  module _ (law : status ≡ 0 → RestoredWhole number before after was is) where
    ends_by : (result : Result (Unit {0}) RestoreFault) → (IsTrue (has_failed result) → Rose was.faults is.faults) → EndsBy result of.ending
        → Restores number result was.told is.told [] of.text before.faults.put of.ran.faults.put before.folder of.ran.folder → Ending_is
    ends_by result rose ends (not_loaded fault same of_loading loads told count files) =
        unloaded fault (subst (λ (r : Result (Unit {0}) RestoreFault). EndsBy r of.ending) same ends) of_loading loads told
        (subst (λ (r : Result (Unit {0}) RestoreFault). IsTrue (has_failed r) → Rose was.faults is.faults) same rose) way
    ends_by result rose ends (not_put trial fault same from puts stays) =
        unput trial from stays puts.put puts.lines fault puts.ended (subst (λ (r : Result (Unit {0}) RestoreFault). EndsBy r of.ending) same ends) puts.behind puts.answers puts.faults
    ends_by result rose ends (all_were_put trial of_setting from puts sets) = all_put_so trial from law result rose ends of_setting sets

    pub ends_so : Ending_is
    ends_so = ends_by of.result of.cause.rose of.ends of.restores

  -- ---- the console in any case

  pub prefixes_so : Tells of.ran.console after.console (λ (old new : ConsoleView). (new.lines ≡ old.lines) × GetsPrefixes of.text of.ran.faults.write after.faults.write status old.written new.written) → WritesPrefixes of.text status before after
  prefixes_so got =
      subst (λ (from : Option ConsoleView). Tells from after.console (λ (old new : ConsoleView). GetsPrefixes of.text before.faults.write after.faults.write status old.written new.written)) of.aside.console
      (tells_more of.ran.console after.console (λ (old new : ConsoleView). (new.lines ≡ old.lines) × GetsPrefixes of.text of.ran.faults.write after.faults.write status old.written new.written)
      (λ (old new : ConsoleView). GetsPrefixes of.text before.faults.write after.faults.write status old.written new.written)
      (λ x y all. subst (λ (n : ℕ). GetsPrefixes of.text n after.faults.write status x.written y.written) of.aside.write all.1) got)

-- ---- where there is no such trial

told_so : (P : KeeperView → KeeperView → Type 0) (one other : Option KeeperView) (old new : KeeperView) → one ≡ Some old → other ≡ Some new → Tells one other P → P old new
told_so P one other old new first second tells = subst (λ (o : Option KeeperView). Tells (Some old) o P) second (subst (λ (o : Option KeeperView). Tells o other P) first tells)

some_none : (head : Head) (found : Option Head) → found ≡ None → found ≡ Some head → ⊥
some_none head found none at = cc

module _ (number : ℕ) (before after : Seen) (was is : Stored) (status : ℕ) (old new : KeeperView) (first : was.told ≡ Some old) (second : is.told ≡ Some new) (none : head_at old.seen.heads number ≡ None) where
  no_head : (head : Head) → head_at old.seen.heads number ≡ Some head → ⊥
  no_head head at = some_none head (head_at old.seen.heads number) none at

  no_trial : (trial : OneTrial) → IsFrom number trial was.told is.told → ⊥
  no_trial trial from = no_head trial.head (told_so (λ (one other : KeeperView). IsLoaded one.seen number trial) was.told is.told old new first second from.is_loaded).head_is

  pub absent_so : EndsRestoring number before after was is status → (status ≡ 4) ⊎ ((status ≡ 7) ⊎ (status ≡ 8))
  absent_so (whole at all) = absurd (no_trial all.trial all.from)
  absent_so (not_there at so) = inl at
  absent_so (by_console at rose trial from stays) = absurd (no_trial trial from)
  absent_so (by_folder at refused) = absurd (no_trial refused.trial refused.from)
  absent_so (by_store at rose stays) = inr (inl at)
  absent_so (no_memory at stays) = inr (inr at)
  absent_so (amiss at damage so) =
      let bad = told_so (λ (one other : KeeperView). IsDamaged one.seen number damage × (other ≡ one)) was.told is.told old new first second so in
      absurd (no_head bad.0.head bad.0.head_is)
