-- What a reader of a delivery may conclude.
use Rattle.std.proofs.Common.{◌≡◌, ℕ, List, [], ◌∷◌, ◌++◌, length, take, Bool, true, false, if◌then◌else◌, Option, Some, None, Ok, Err, IsOk, ◌⊎◌, inl, inr, ⊎_elim, refl, sym, ap, ◌∙◌, subst, arith}
use Rattle.std.proofs.lemmas.List.{take_all}
use Rattle.std.proofs.lemmas.Bool.{false≢true, cases_lt}
use Rattle.prov_outside.specs.Console.{ConsoleView}
use Rattle.prov_outside.specs.Count.{Rose, one_more, faults_after}
use Rattle.prov_outside.specs.Folder.{Files}
use Rattle.prov_outside.specs.Tells.{Tells}
use Rattle.prov_outside.specs.declared.trouble.Trouble.TheVariants.{Failed, Memory}
use Rattle.delivery.specs.Ending.{Ending, done, uncaught, usage, refused, nothing_there, console_failed, folder_failed, store_failed, out_of_memory, out_of_steps, not_reached, collision, store_full, damaged_trial, status_of, closing_line, ending_of, tells_of_store}
use Rattle.delivery.specs.declared.ending.Ending.{Ending as Planned}
use Rattle.delivery.specs.declared.ending.Ending.TheVariants.{Done, Uncaught, Usage, Refused, NothingThere, FolderFailed, StoreFailed, OutOfSteps, NotReached, Collision, StoreFull, DamagedTrial, OutOfMemory}
use Rattle.delivery.specs.PutsAll.{OutFile, Outcome, PutsAll, faults_of, first_failed, lacks_memory, ending_after_puts}
use Rattle.delivery.specs.Shown.{Closing, no_line, line_tried, line_unmade, Closes, Leaves, Shown, has_line, outlasts_console, after_text, after_line, line_of, outcome_of}
use Rattle.delivery.specs.Delivered.{Delivered, ending_to_close}
use Rattle.delivery.specs.Stands.{HasAll, all_well, IsWell, WentWell, DidAsPlanned}
use Rattle.delivery.proofs.Standing.{has_all}

pub tells_more : {T : Type 0} (old new : Option T) (P Q : T → T → Type 0) → ((a b : T) → P a b → Q a b) → Tells old new P → Tells old new Q
tells_more old None P Q more tells = tt
tells_more None (Some b) P Q more tells = absurd tells
tells_more (Some a) (Some b) P Q more tells = more a b tells

-- ---- counts

pub rises : (n : ℕ) → Rose n (one_more n)
rises n = ⊎_elim (λ below. inl (omega (arith, below))) (λ past. inr (omega (arith, past))) (cases_lt n 18446744073709551615)

rises_more : (a b : ℕ) → Rose a b → Rose a (one_more b)
rises_more a b rose = ⊎_elim
    (λ more. ⊎_elim (λ below. inl (omega (arith, more, below))) (λ past. inr (omega (arith, past))) (cases_lt b 18446744073709551615))
    (λ at_end. inr (omega (arith, at_end)))
    rose

pub stays_risen : (outcome : Outcome) (a b : ℕ) → Rose a b → Rose a (faults_after outcome b)
stays_risen (Ok all) a b rose = rose
stays_risen (Err Failed) a b rose = rises_more a b rose
stays_risen (Err Memory) a b rose = rose

all_risen : (puts : List Outcome) (a b : ℕ) → Rose a b → Rose a (faults_of puts b)
all_risen [] a b rose = rose
all_risen (put ∷ puts) a b rose = all_risen puts a (faults_after put b) (stays_risen put a b rose)

pub failed_rose : (files : List OutFile) (puts : List Outcome) (path : List ℕ) → first_failed files puts ≡ Some path → (n : ℕ) → Rose n (faults_of puts n)
failed_rose [] puts path is n = absurd (cc)
failed_rose (file ∷ files) [] path is n = absurd (cc)
failed_rose (file ∷ files) (Ok all ∷ puts) path is n = failed_rose files puts path is n
failed_rose (file ∷ files) (Err Memory ∷ puts) path is n = failed_rose files puts path is n
failed_rose (file ∷ files) (Err Failed ∷ puts) path is n = all_risen puts n (one_more n) (rises n)

failed_behind : (outcome : Outcome) (n : ℕ) → Rose n (one_more (faults_after outcome n))
failed_behind (Ok all) n = rises n
failed_behind (Err Failed) n = rises_more n (one_more n) (rises n)
failed_behind (Err Memory) n = rises n

-- ---- puts

-- how a command can end where a put failed
abbrev pub FailsAs : Ending → List ℕ → Ending → Type 0
FailsAs planned path ending = ((ending ≡ folder_failed path) × (tells_of_store planned ≡ false)) ⊎ ((tells_of_store planned ≡ true) × (ending ≡ planned))

-- how a command can end by its puts
abbrev pub Ways : Ending → List OutFile → List Outcome → Ending → Type 0
Ways planned files puts ending = ((all_well puts ≡ true) × (ending ≡ planned)) ⊎ ((ending ≡ out_of_memory) ⊎ ((path : List ℕ) × FailsAs planned path ending × (first_failed files puts ≡ Some path)))

fails_as : (planned : Ending) (path : List ℕ) (store : Bool) → tells_of_store planned ≡ store → FailsAs planned path (if store then planned else folder_failed path)
fails_as planned path true is = inr (is, refl)
fails_as planned path false is = inl (refl, is)

well_lacks : (puts : List Outcome) → all_well puts ≡ true → lacks_memory puts ≡ false
well_lacks [] good = refl
well_lacks (Ok all ∷ puts) good = well_lacks puts good
well_lacks (Err trouble ∷ puts) good = absurd (false≢true good)

well_first : (files : List OutFile) (puts : List Outcome) → all_well puts ≡ true → first_failed files puts ≡ None
well_first [] puts good = refl
well_first (file ∷ files) [] good = refl
well_first (file ∷ files) (Ok all ∷ puts) good = well_first files puts good
well_first (file ∷ files) (Err trouble ∷ puts) good = absurd (false≢true good)

well_faults : (puts : List Outcome) (n : ℕ) → all_well puts ≡ true → faults_of puts n ≡ n
well_faults [] n good = refl
well_faults (Ok all ∷ puts) n good = well_faults puts n good
well_faults (Err trouble ∷ puts) n good = absurd (false≢true good)

well_ending : (planned : Ending) (files : List OutFile) (puts : List Outcome) → all_well puts ≡ true → ending_after_puts planned files puts ≡ planned
well_ending planned files puts good = rw (well_lacks puts good) (rw (well_first files puts good) refl)

well_or_failed : (files : List OutFile) (puts : List Outcome) → length puts ≡ length files → lacks_memory puts ≡ false
    → (all_well puts ≡ true) ⊎ ((path : List ℕ) × (first_failed files puts ≡ Some path))
well_or_failed [] [] even none = inl refl
well_or_failed [] (put ∷ puts) even none = absurd (omega (arith, even))
well_or_failed (file ∷ files) [] even none = absurd (omega (arith, even))
well_or_failed (file ∷ files) (Ok all ∷ puts) even none = well_or_failed files puts (omega (arith, even)) none
well_or_failed (file ∷ files) (Err Failed ∷ puts) even none = inr (file.0, refl)
well_or_failed (file ∷ files) (Err Memory ∷ puts) even none = absurd (cc)

ways_by : (planned : Ending) (files : List OutFile) (puts : List Outcome) (short : Bool) → length puts ≡ length files → lacks_memory puts ≡ short → Ways planned files puts (ending_after_puts planned files puts)
ways_by planned files puts true even is = inr (inl (rw is refl))
ways_by planned files puts false even is = ⊎_elim
    (λ good. inl (good, well_ending planned files puts good))
    (λ failed. inr (inr (failed.0, rw is (rw failed.1 (fails_as planned failed.0 (tells_of_store planned) refl)), failed.1)))
    (well_or_failed files puts even is)

pub ways : (planned : Ending) (files : List OutFile) (puts : List Outcome) → length puts ≡ length files → Ways planned files puts (ending_after_puts planned files puts)
ways planned files puts even = ways_by planned files puts (lacks_memory puts) even refl

-- ---- the endings by their statuses

zero_is : (ending : Ending) → status_of ending ≡ 0 → ending ≡ done
zero_is done is = refl
zero_is (uncaught class line text) is = absurd (omega (arith, is))
zero_is usage is = absurd (omega (arith, is))
zero_is (refused file line column) is = absurd (omega (arith, is))
zero_is nothing_there is = absurd (omega (arith, is))
zero_is console_failed is = absurd (omega (arith, is))
zero_is (folder_failed path) is = absurd (omega (arith, is))
zero_is store_failed is = absurd (omega (arith, is))
zero_is out_of_memory is = absurd (omega (arith, is))
zero_is out_of_steps is = absurd (omega (arith, is))
zero_is not_reached is = absurd (omega (arith, is))
zero_is (collision digest kept given) is = absurd (omega (arith, is))
zero_is store_full is = absurd (omega (arith, is))
zero_is (damaged_trial trial detail) is = absurd (omega (arith, is))

five_is : (ending : Ending) → status_of ending ≡ 5 → ending ≡ console_failed
five_is done is = absurd (omega (arith, is))
five_is (uncaught class line text) is = absurd (omega (arith, is))
five_is usage is = absurd (omega (arith, is))
five_is (refused file line column) is = absurd (omega (arith, is))
five_is nothing_there is = absurd (omega (arith, is))
five_is console_failed is = refl
five_is (folder_failed path) is = absurd (omega (arith, is))
five_is store_failed is = absurd (omega (arith, is))
five_is out_of_memory is = absurd (omega (arith, is))
five_is out_of_steps is = absurd (omega (arith, is))
five_is not_reached is = absurd (omega (arith, is))
five_is (collision digest kept given) is = absurd (omega (arith, is))
five_is store_full is = absurd (omega (arith, is))
five_is (damaged_trial trial detail) is = absurd (omega (arith, is))

six_is : (ending : Ending) → status_of ending ≡ 6 → (path : List ℕ) × (ending ≡ folder_failed path)
six_is done is = absurd (omega (arith, is))
six_is (uncaught class line text) is = absurd (omega (arith, is))
six_is usage is = absurd (omega (arith, is))
six_is (refused file line column) is = absurd (omega (arith, is))
six_is nothing_there is = absurd (omega (arith, is))
six_is console_failed is = absurd (omega (arith, is))
six_is (folder_failed path) is = (path, refl)
six_is store_failed is = absurd (omega (arith, is))
six_is out_of_memory is = absurd (omega (arith, is))
six_is out_of_steps is = absurd (omega (arith, is))
six_is not_reached is = absurd (omega (arith, is))
six_is (collision digest kept given) is = absurd (omega (arith, is))
six_is store_full is = absurd (omega (arith, is))
six_is (damaged_trial trial detail) is = absurd (omega (arith, is))

-- ---- behind the text

-- a fault at the text leaves one of these
pub fault_leaves : (ending : Ending) → let left : Ending = if outlasts_console ending then ending else console_failed in ((left ≡ console_failed) × (outlasts_console ending ≡ false)) ⊎ ((left ≡ ending) × (outlasts_console ending ≡ true))
fault_leaves done = inl (refl, refl)
fault_leaves (uncaught class line text) = inl (refl, refl)
fault_leaves usage = inl (refl, refl)
fault_leaves (refused file line column) = inl (refl, refl)
fault_leaves nothing_there = inl (refl, refl)
fault_leaves console_failed = inl (refl, refl)
fault_leaves (folder_failed path) = inr (refl, refl)
fault_leaves store_failed = inr (refl, refl)
fault_leaves out_of_memory = inr (refl, refl)
fault_leaves out_of_steps = inl (refl, refl)
fault_leaves not_reached = inl (refl, refl)
fault_leaves (collision digest kept given) = inr (refl, refl)
fault_leaves store_full = inr (refl, refl)
fault_leaves (damaged_trial trial detail) = inl (refl, refl)

-- what does not outlast a fault at the text is no fault of the store
pub not_outlasting : (ending : Ending) → outlasts_console ending ≡ false → tells_of_store ending ≡ false
not_outlasting done is = refl
not_outlasting (uncaught class line text) is = refl
not_outlasting usage is = refl
not_outlasting (refused file line column) is = refl
not_outlasting nothing_there is = refl
not_outlasting console_failed is = refl
not_outlasting (folder_failed path) is = refl
not_outlasting store_failed is = is
not_outlasting out_of_memory is = refl
not_outlasting out_of_steps is = refl
not_outlasting not_reached is = refl
not_outlasting (collision digest kept given) is = is
not_outlasting store_full is = is
not_outlasting (damaged_trial trial detail) is = refl

-- what outlasts a fault at the text and is no fault of the store
outlasting : (ending : Ending) → outlasts_console ending ≡ true → tells_of_store ending ≡ false → (status_of ending ≡ 6) ⊎ (status_of ending ≡ 8)
outlasting done lasts store = absurd (false≢true lasts)
outlasting (uncaught class line text) lasts store = absurd (false≢true lasts)
outlasting usage lasts store = absurd (false≢true lasts)
outlasting (refused file line column) lasts store = absurd (false≢true lasts)
outlasting nothing_there lasts store = absurd (false≢true lasts)
outlasting console_failed lasts store = absurd (false≢true lasts)
outlasting (folder_failed path) lasts store = inl refl
outlasting store_failed lasts store = absurd (false≢true (sym store))
outlasting out_of_memory lasts store = inr refl
outlasting out_of_steps lasts store = absurd (false≢true lasts)
outlasting not_reached lasts store = absurd (false≢true lasts)
outlasting (collision digest kept given) lasts store = absurd (false≢true (sym store))
outlasting store_full lasts store = absurd (false≢true (sym store))
outlasting (damaged_trial trial detail) lasts store = absurd (false≢true lasts)

text_done : (outcome : Outcome) (ending : Ending) → after_text outcome ending ≡ done → IsOk outcome × (ending ≡ done)
text_done (Ok all) ending is = (refl, is)
text_done (Err Failed) ending is = ⊎_elim
    (λ left. let at : console_failed ≡ done = sym left.0 ∙ is in absurd (cc))
    (λ left. absurd (false≢true (subst (λ (e : Ending). outlasts_console e ≡ true) (sym left.0 ∙ is) left.1)))
    (fault_leaves ending)
text_done (Err Memory) ending is = absurd (cc)

text_console : (outcome : Outcome) (ending : Ending) (n : ℕ) → after_text outcome ending ≡ console_failed → (ending ≡ console_failed) ⊎ Rose n (faults_after outcome n)
text_console (Ok all) ending n is = inl is
text_console (Err Failed) ending n is = inr (rises n)
text_console (Err Memory) ending n is = absurd (cc)

text_folder : (outcome : Outcome) (ending : Ending) (path : List ℕ) → after_text outcome ending ≡ folder_failed path → ending ≡ folder_failed path
text_folder (Ok all) ending path is = is
text_folder (Err Failed) ending path is = ⊎_elim
    (λ left. let at : console_failed ≡ folder_failed path = sym left.0 ∙ is in absurd (cc))
    (λ left. sym left.0 ∙ is)
    (fault_leaves ending)
text_folder (Err Memory) ending path is = absurd (cc)

text_memory : (outcome : Outcome) → after_text outcome out_of_memory ≡ out_of_memory
text_memory (Ok all) = refl
text_memory (Err Failed) = refl
text_memory (Err Memory) = refl

-- ---- behind the closing line

line_done : (closing : Closing) (ending : Ending) → Closes ending closing → after_line closing ending ≡ done → IsWell closing × (ending ≡ done)
line_done no_line ending closes is = (tt, is)
line_done (line_tried (Ok all)) ending closes is = absurd (false≢true (subst (λ (e : Ending). has_line e ≡ true) is closes))
line_done (line_tried (Err Failed)) ending closes is = absurd (false≢true (subst (λ (e : Ending). has_line e ≡ true) is closes))
line_done (line_tried (Err Memory)) ending closes is = absurd (cc)
line_done (line_unmade outcome) ending closes is = absurd (cc)

line_console : (closing : Closing) (ending : Ending) → after_line closing ending ≡ console_failed → ending ≡ console_failed
line_console no_line ending is = is
line_console (line_tried (Ok all)) ending is = is
line_console (line_tried (Err Failed)) ending is = is
line_console (line_tried (Err Memory)) ending is = absurd (cc)
line_console (line_unmade outcome) ending is = absurd (cc)

line_folder : (closing : Closing) (ending : Ending) (path : List ℕ) → after_line closing ending ≡ folder_failed path → ending ≡ folder_failed path
line_folder no_line ending path is = is
line_folder (line_tried (Ok all)) ending path is = is
line_folder (line_tried (Err Failed)) ending path is = is
line_folder (line_tried (Err Memory)) ending path is = absurd (cc)
line_folder (line_unmade outcome) ending path is = absurd (cc)

pub line_memory : (closing : Closing) → after_line closing out_of_memory ≡ out_of_memory
line_memory no_line = refl
line_memory (line_tried (Ok all)) = refl
line_memory (line_tried (Err Failed)) = refl
line_memory (line_tried (Err Memory)) = refl
line_memory (line_unmade outcome) = refl

line_well : (closing : Closing) (ending : Ending) → IsWell closing → after_line closing ending ≡ ending
line_well no_line ending good = refl
line_well (line_tried (Ok all)) ending good = refl
line_well (line_tried (Err trouble)) ending good = absurd (false≢true good)
line_well (line_unmade outcome) ending good = absurd good

line_faults : (closing : Closing) (n : ℕ) → IsWell closing → faults_after (outcome_of closing) n ≡ n
line_faults no_line n good = refl
line_faults (line_tried (Ok all)) n good = refl
line_faults (line_tried (Err trouble)) n good = absurd (false≢true good)
line_faults (line_unmade outcome) n good = absurd good

text_faults : (outcome : Outcome) (n : ℕ) → IsOk outcome → faults_after outcome n ≡ n
text_faults (Ok all) n good = refl
text_faults (Err trouble) n good = absurd (false≢true good)

text_well : (outcome : Outcome) (ending : Ending) → IsOk outcome → after_text outcome ending ≡ ending
text_well (Ok all) ending good = refl
text_well (Err trouble) ending good = absurd (false≢true good)

pub no_bytes : (ending : Ending) → has_line ending ≡ false → closing_line ending ≡ []
no_bytes done is = refl
no_bytes console_failed is = refl
no_bytes (uncaught class line text) is = absurd (false≢true (sym is))
no_bytes usage is = absurd (false≢true (sym is))
no_bytes (refused file line column) is = absurd (false≢true (sym is))
no_bytes nothing_there is = absurd (false≢true (sym is))
no_bytes (folder_failed path) is = absurd (false≢true (sym is))
no_bytes store_failed is = absurd (false≢true (sym is))
no_bytes out_of_memory is = absurd (false≢true (sym is))
no_bytes out_of_steps is = absurd (false≢true (sym is))
no_bytes not_reached is = absurd (false≢true (sym is))
no_bytes (collision digest kept given) is = absurd (false≢true (sym is))
no_bytes store_full is = absurd (false≢true (sym is))
no_bytes (damaged_trial trial detail) is = absurd (false≢true (sym is))

-- the console got all of both
abbrev GetsBoth : List ℕ → List ℕ → ConsoleView → ConsoleView → Type 0
GetsBoth text line before after = (after.lines ≡ before.lines) × (after.written ≡ before.written ++ text ++ line)

shown_whole : (text line : List ℕ) (o p : Outcome) (before after : ConsoleView) → IsOk o → IsOk p → Shown text o line p before after → GetsBoth text line before after
shown_whole text line (Ok all) (Ok both) before after first second got =
    (got.lines, got.written ∙ ap (λ (xs : List ℕ). before.written ++ xs ++ got.closing) got.shown_is ∙ ap (λ (xs : List ℕ). before.written ++ text ++ xs) got.closing_is)
shown_whole text line (Err trouble) p before after first second got = absurd (false≢true first)
shown_whole text line (Ok all) (Err trouble) before after first second got = absurd (false≢true second)

shown_well : (text : List ℕ) (ending : Ending) (o : Outcome) (closing : Closing) (before after : ConsoleView) → IsOk o → IsWell closing → Closes ending closing
    → Shown text o (line_of ending closing) (outcome_of closing) before after → GetsBoth text (closing_line ending) before after
shown_well text ending o no_line before after first second closes got =
    subst (λ (xs : List ℕ). GetsBoth text xs before after) (sym (no_bytes ending closes)) (shown_whole text [] o (Ok tt) before after first refl got)
shown_well text ending o (line_tried p) before after first second closes got = shown_whole text (closing_line ending) o p before after first second got
shown_well text ending o (line_unmade p) before after first second closes got = absurd second

-- ---- what went well, by the counts and the status

pub text_ok : (outcome : Outcome) (ending : Ending) (n : ℕ) → (Rose n (faults_after outcome n) → ⊥) → (after_text outcome ending ≡ out_of_memory → ⊥) → IsOk outcome
text_ok (Ok all) ending n quiet room = refl
text_ok (Err Failed) ending n quiet room = absurd (quiet (rises n))
text_ok (Err Memory) ending n quiet room = absurd (room refl)

pub line_ok : (closing : Closing) (ending : Ending) (outcome : Outcome) (n : ℕ) → (Rose n (faults_after (outcome_of closing) (faults_after outcome n)) → ⊥)
    → (after_line closing ending ≡ out_of_memory → ⊥) → IsWell closing
line_ok no_line ending outcome n quiet room = tt
line_ok (line_tried (Ok all)) ending outcome n quiet room = refl
line_ok (line_tried (Err Failed)) ending outcome n quiet room = absurd (quiet (failed_behind outcome n))
line_ok (line_tried (Err Memory)) ending outcome n quiet room = absurd (room refl)
line_ok (line_unmade line_outcome) ending outcome n quiet room = absurd (room refl)

-- ---- what is as planned, by the status

-- a closing line behind which memory has not run out
line_stays : (closing : Closing) (ending : Ending) → (status_of (after_line closing ending) ≡ 8 → ⊥) → after_line closing ending ≡ ending
line_stays no_line ending room = refl
line_stays (line_tried (Ok all)) ending room = refl
line_stays (line_tried (Err Failed)) ending room = refl
line_stays (line_tried (Err Memory)) ending room = absurd (room refl)
line_stays (line_unmade outcome) ending room = absurd (room refl)

text_stays : (outcome : Outcome) (ending : Ending) → tells_of_store ending ≡ false → (status_of (after_text outcome ending) ≡ 5 → ⊥) → (status_of (after_text outcome ending) ≡ 6 → ⊥) → (status_of (after_text outcome ending) ≡ 8 → ⊥)
    → IsOk outcome
text_stays (Ok all) ending store five six eight = refl
text_stays (Err Failed) ending store five six eight = ⊎_elim
    (λ left. absurd (five (ap (λ (e : Ending). status_of e) left.0)))
    (λ left. ⊎_elim
    (λ is. absurd (six (ap (λ (e : Ending). status_of e) left.0 ∙ is)))
    (λ is. absurd (eight (ap (λ (e : Ending). status_of e) left.0 ∙ is)))
    (outlasting ending left.1 store))
    (fault_leaves ending)
text_stays (Err Memory) ending store five six eight = absurd (eight refl)

-- the console got all of the text, and then a prefix of the line
abbrev GetsFront : List ℕ → List ℕ → ConsoleView → ConsoleView → Type 0
GetsFront text line before after = (after.lines ≡ before.lines) × ((n : ℕ) × (after.written ≡ before.written ++ text ++ take n line))

unfoldable pub front_of : (line : List ℕ) (outcome : Outcome) (shown : List ℕ) → Leaves line outcome shown → (n : ℕ) × (shown ≡ take n line)
front_of line (Ok all) shown is = (length line, is ∙ sym (take_all (length line) line (omega arith)))
front_of line (Err trouble) shown is = is

shown_front : (text line : List ℕ) (o p : Outcome) (before after : ConsoleView) → IsOk o → Shown text o line p before after → GetsFront text line before after
shown_front text line (Ok all) p before after good got =
    let front : (n : ℕ) × (got.closing ≡ take n line) = front_of line p got.closing got.closing_is in
    (got.lines, (front.0, got.written ∙ ap (λ (xs : List ℕ). before.written ++ xs ++ got.closing) got.shown_is ∙ ap (λ (xs : List ℕ). before.written ++ text ++ xs) front.1))
shown_front text line (Err trouble) p before after good got = absurd (false≢true good)

shown_as_planned : (text : List ℕ) (ending : Ending) (o : Outcome) (closing : Closing) (before after : ConsoleView) → IsOk o → Closes ending closing → (status_of (after_line closing ending) ≡ 8 → ⊥)
    → Shown text o (line_of ending closing) (outcome_of closing) before after → GetsFront text (closing_line ending) before after
shown_as_planned text ending o no_line before after good closes room got =
    subst (λ (xs : List ℕ). GetsFront text xs before after) (sym (no_bytes ending closes)) (shown_front text [] o (Ok tt) before after good got)
shown_as_planned text ending o (line_tried p) before after good closes room got = shown_front text (closing_line ending) o p before after good got
shown_as_planned text ending o (line_unmade p) before after good closes room got = absurd (room refl)

-- ---- the whole

module _ (planned : Ending) (text : List ℕ) (files : List OutFile) (put_before put_after : ℕ) (told_before told_after : Option Files)
    (out_before out_after : ℕ) (console_before console_after : Option ConsoleView) (status : ℕ)
    (d : Delivered planned text files put_before put_after told_before told_after out_before out_after console_before console_after status) where
  abbrev pub by_puts : Ending
  by_puts = ending_after_puts planned files d.puts

  abbrev pub by_text : Ending
  by_text = ending_to_close planned files d.puts d.text_outcome

  pub went_well : all_well d.puts ≡ true → IsOk d.text_outcome → IsWell d.closing
      → WentWell planned text files put_before put_after told_before told_after out_before out_after console_before console_after status
  went_well puts_good text_good line_good =
      let is : by_text ≡ planned = text_well d.text_outcome by_puts text_good ∙ well_ending planned files d.puts puts_good in
      record {
        folder = tells_more told_before told_after (PutsAll files d.puts) (HasAll files) (λ a b all. has_all files d.puts a b all puts_good) d.folder;
        console = subst (λ (e : Ending). Tells console_before console_after (GetsBoth text (closing_line e))) is
            (tells_more console_before console_after (Shown text d.text_outcome (line_of by_text d.closing) (outcome_of d.closing)) (GetsBoth text (closing_line by_text))
            (λ a b got. shown_well text by_text d.text_outcome d.closing a b text_good line_good d.closes got) d.console);
        put_faults = d.put_faults ∙ well_faults d.puts put_before puts_good;
        out_faults = d.out_faults ∙ line_faults d.closing (faults_after d.text_outcome out_before) line_good ∙ text_faults d.text_outcome out_before text_good;
        status_is = d.status_is ∙ ap (λ (e : Ending). status_of e) (line_well d.closing by_text line_good ∙ is);
      }

  -- out of memory at the puts or at the text
  is_eight : by_text ≡ out_of_memory → status ≡ 8
  is_eight is = d.status_is ∙ ap (λ (e : Ending). status_of (after_line d.closing e)) is ∙ ap (λ (e : Ending). status_of e) (line_memory d.closing)

  pub done_is : status ≡ 0
      → (planned ≡ done) × WentWell planned text files put_before put_after told_before told_after out_before out_after console_before console_after status
  done_is zero =
      let line : IsWell d.closing × (by_text ≡ done) = line_done d.closing by_text d.closes (zero_is (after_line d.closing by_text) (sym d.status_is ∙ zero)) in
      let shown : IsOk d.text_outcome × (by_puts ≡ done) = text_done d.text_outcome by_puts line.1 in
      ⊎_elim
      (λ good. (sym good.1 ∙ shown.1, went_well good.0 shown.0 line.0))
      (λ more. ⊎_elim
      (λ short. let at : done ≡ out_of_memory = sym shown.1 ∙ short in absurd (cc))
      (λ failed. ⊎_elim
      (λ folder. let at : done ≡ folder_failed failed.0 = sym shown.1 ∙ folder.0 in absurd (cc))
      (λ store. absurd (false≢true (subst (λ (e : Ending). tells_of_store e ≡ true) (sym store.1 ∙ shown.1) store.0)))
      failed.1)
      more)
      (ways planned files d.puts d.each)

  pub console_is : (planned ≡ console_failed → ⊥) → status ≡ 5 → Rose out_before out_after
  console_is other five =
      let is : by_text ≡ console_failed = line_console d.closing by_text (five_is (after_line d.closing by_text) (sym d.status_is ∙ five)) in
      ⊎_elim
      (λ at_puts. ⊎_elim
      (λ good. absurd (other (sym good.1 ∙ at_puts)))
      (λ more. ⊎_elim
      (λ short. let at : console_failed ≡ out_of_memory = sym at_puts ∙ short in absurd (cc))
      (λ failed. ⊎_elim
      (λ folder. let at : console_failed ≡ folder_failed failed.0 = sym at_puts ∙ folder.0 in absurd (cc))
      (λ store. absurd (other (sym store.1 ∙ at_puts)))
      failed.1)
      more)
      (ways planned files d.puts d.each))
      (λ rose. subst (λ (n : ℕ). Rose out_before n) (sym d.out_faults) (stays_risen (outcome_of d.closing) out_before (faults_after d.text_outcome out_before) rose))
      (text_console d.text_outcome by_puts out_before is)

  pub folder_is : status ≡ 6 → Rose put_before put_after ⊎ ((path : List ℕ) × (planned ≡ folder_failed path))
  folder_is six =
      let at : (path : List ℕ) × (after_line d.closing by_text ≡ folder_failed path) = six_is (after_line d.closing by_text) (sym d.status_is ∙ six) in
      let is : by_puts ≡ folder_failed at.0 = text_folder d.text_outcome by_puts at.0 (line_folder d.closing by_text at.0 at.1) in
      ⊎_elim
      (λ good. inr (at.0, sym good.1 ∙ is))
      (λ more. ⊎_elim
      (λ short. let apart : folder_failed at.0 ≡ out_of_memory = sym is ∙ short in absurd (cc))
      (λ failed. inl (subst (λ (n : ℕ). Rose put_before n) (sym d.put_faults) (failed_rose files d.puts failed.0 failed.2 put_before)))
      more)
      (ways planned files d.puts d.each)

  -- no count rose, and memory sufficed
  pub quiet_is : (Rose put_before put_after → ⊥) → (Rose out_before out_after → ⊥) → (status ≡ 8 → ⊥)
      → WentWell planned text files put_before put_after told_before told_after out_before out_after console_before console_after status
  quiet_is put_quiet out_quiet room =
      let no_room : (by_text ≡ out_of_memory) → ⊥ = λ is. room (is_eight is) in
      let still : Rose out_before (faults_after (outcome_of d.closing) (faults_after d.text_outcome out_before)) → ⊥ = λ rose. out_quiet (subst (λ (n : ℕ). Rose out_before n) (sym d.out_faults) rose) in
      went_well
      (⊎_elim
      (λ good. good.0)
      (λ more. ⊎_elim
      (λ short. absurd (no_room (ap (λ (e : Ending). after_text d.text_outcome e) short ∙ text_memory d.text_outcome)))
      (λ failed. absurd (put_quiet (subst (λ (n : ℕ). Rose put_before n) (sym d.put_faults) (failed_rose files d.puts failed.0 failed.2 put_before))))
      more)
      (ways planned files d.puts d.each))
      (text_ok d.text_outcome by_puts out_before (λ rose. still (stays_risen (outcome_of d.closing) out_before (faults_after d.text_outcome out_before) rose)) no_room)
      (line_ok d.closing by_text d.text_outcome out_before still (λ is. room (d.status_is ∙ ap (λ (e : Ending). status_of e) is)))

  -- puts do not make a fault of the store
  puts_outlast : tells_of_store planned ≡ false → tells_of_store by_puts ≡ false
  puts_outlast store = ⊎_elim
      (λ good. ap (λ (e : Ending). tells_of_store e) good.1 ∙ store)
      (λ more. ⊎_elim
      (λ short. ap (λ (e : Ending). tells_of_store e) short)
      (λ failed. ⊎_elim
      (λ folder. ap (λ (e : Ending). tells_of_store e) folder.0)
      (λ kept. absurd (false≢true (sym store ∙ kept.0)))
      failed.1)
      more)
      (ways planned files d.puts d.each)

  -- the status is none of those that tell of a fault of a device or of a lack of memory
  pub planned_is : tells_of_store planned ≡ false → (status ≡ 5 → ⊥) → (status ≡ 6 → ⊥) → (status ≡ 8 → ⊥)
      → DidAsPlanned planned text files put_before put_after told_before told_after console_before console_after status
  planned_is store five six eight =
      let room : status_of (after_line d.closing by_text) ≡ 8 → ⊥ = λ is. eight (d.status_is ∙ is) in
      let stays : after_line d.closing by_text ≡ by_text = line_stays d.closing by_text room in
      let by_status : status ≡ status_of by_text = d.status_is ∙ ap (λ (e : Ending). status_of e) stays in
      let text_good : IsOk d.text_outcome = text_stays d.text_outcome by_puts (puts_outlast store) (λ is. five (by_status ∙ is)) (λ is. six (by_status ∙ is)) (λ is. eight (by_status ∙ is)) in
      let same : by_text ≡ by_puts = text_well d.text_outcome by_puts text_good in
      let of_puts : status ≡ status_of by_puts = by_status ∙ ap (λ (e : Ending). status_of e) same in
      let good : (all_well d.puts ≡ true) × (by_puts ≡ planned) = ⊎_elim
      (λ all. all)
      (λ more. ⊎_elim
      (λ short. absurd (eight (of_puts ∙ ap (λ (e : Ending). status_of e) short)))
      (λ failed. ⊎_elim
      (λ folder. absurd (six (of_puts ∙ ap (λ (e : Ending). status_of e) folder.0)))
      (λ kept. absurd (false≢true (sym store ∙ kept.0)))
      failed.1)
      more)
      (ways planned files d.puts d.each) in
      record {
        folder = tells_more told_before told_after (PutsAll files d.puts) (HasAll files) (λ a b all. has_all files d.puts a b all good.0) d.folder;
        console = subst (λ (e : Ending). Tells console_before console_after (GetsFront text (closing_line e))) (same ∙ good.1)
            (tells_more console_before console_after (Shown text d.text_outcome (line_of by_text d.closing) (outcome_of d.closing)) (GetsFront text (closing_line by_text))
            (λ a b got. shown_as_planned text by_text d.text_outcome d.closing a b text_good d.closes room got) d.console);
        put_faults = d.put_faults ∙ well_faults d.puts put_before good.0;
        status_is = of_puts ∙ ap (λ (e : Ending). status_of e) good.1;
      }

-- no command is planned to end by a fault of the console
pub not_console : (planned : Planned) → ending_of planned ≡ console_failed → ⊥
not_console Done is = cc
not_console (Uncaught class line text) is = cc
not_console Usage is = cc
not_console (Refused file line column) is = cc
not_console NothingThere is = cc
not_console (FolderFailed path) is = cc
not_console StoreFailed is = cc
not_console OutOfSteps is = cc
not_console NotReached is = cc
not_console (Collision digest kept given) is = cc
not_console StoreFull is = cc
not_console (DamagedTrial trial detail) is = cc
not_console OutOfMemory is = cc
