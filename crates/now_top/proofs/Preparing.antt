-- How a plan comes about: where nothing is read, where FILE has no text, and where it has one.
use Rattle.std.proofs.Common.{false, ◌↔◌, ◌≡◌, refl, sym, ap, subst, ℕ, ◌<◌, List, length, ◌⊎◌, inl, inr, Option, Some, None, Ok, Err, arith}
use Rattle.std.proofs.lemmas.Bool.{false≢true}
use Rattle.answer_source.proofs.Fitting.{own_fits}
use Rattle.answer_source.specs.Live.{capture_of}
use Rattle.now_words.specs.Command.{Command, run_bare, run_kept, reads as reads_command}
use Rattle.now_words.specs.declared.command.Query.{Query}
use Rattle.delivery.specs.Ending.{Ending, done, uncaught, usage, refused, nothing_there, console_failed, folder_failed, store_failed, out_of_memory, out_of_steps, not_reached, collision, store_full, damaged_trial}
use Rattle.prov_outside.specs.Folder.{Files, largest_file}
use Rattle.prov_outside.specs.Tells.{Tells}
use Rattle.run_engine.specs.Bare.{nothing_kept}
use Rattle.py_parser.specs.Reading.{too_large}
use Rattle.py_parser.specs.Faults.{origin}
use Rattle.now_top.specs.World.{World, Plan, closing, StandsAt, IsNowhere, IsUnasked}
use Rattle.now_top.specs.RunCommand as running
use Rattle.now_top.specs.Means.{MeansCommand, file_of}
use Rattle.now_top.specs.Reading.{Agrees, IsReadAs, ReadsFile}
use Rattle.now_top.specs.Running.{RunsOver}
use Rattle.now_top.specs.Seen.{Seen, told_by, OnlyReads}
use Rattle.now_top.specs.Replies.{Comes, meant, unread, store_unread, untold, no_memory, Prepares, PlansWith}
use Rattle.now_top.specs.Kept.{keeps, ends_a_run, HasNoRun, HasNoReading, not_asked, Stored, IsUntouched, tables_told, no_run, a_reading}
use Rattle.now_top.specs.Asking.{IsAnswer, AnswersQuery, replied, untold as untold_answer, failed, lacking}
use Rattle.now_top.specs.KeepingRun.{KeepsOver, KeepsText}
use Rattle.keeper.specs.Tables.{TablesView}
use Rattle.keeper.specs.Keeping.{KeeperView}

-- the files that a folder tells, or none
abbrev files_of : Option Files → Files
files_of None = λ path. None
files_of (Some files) = files

agrees_of : (told : Option Files) → Agrees told (files_of told)
agrees_of None = tt
agrees_of (Some files) = refl

tells_same : (told : Option Files) → Tells told told (λ before after. after ≡ before)
tells_same None = tt
tells_same (Some files) = refl

untouched : (seen : Seen) → OnlyReads seen seen
untouched seen = record { console = refl; moments = refl; folder = tells_same seen.folder; line = refl; write = refl; file = refl; put = refl; time = refl; word = refl }

-- the world of a command that runs no script
abbrev still : Files → Seen → World
still files seen = record { files = files; capture = capture_of nothing_kept (told_by seen) }

unasked : (seen : Seen) → IsUnasked (capture_of nothing_kept (told_by seen))
unasked seen = record { answers = refl; files = refl }

unrun : (command : Option Command) (tables : Option TablesView) (before read : Seen) (plan : Plan) (files : Files) → HasNoRun command plan → OnlyReads before read → Agrees read.folder files → Comes command before read (still files read) tables plan → Prepares command tables before read plan
unrun command tables before read plan files still_none reads agrees comes = record {
  world = still files read;
  read = read;
  began = told_by read;
  clock = (None, None);
  reads = reads;
  agrees = agrees;
  asked = not_asked still_none;
  starts = refl;
  gave = own_fits nothing_kept (told_by read) tt;
  ends = refl;
  comes = comes;
}

-- the words are no command
pub no_command : (tables : Option TablesView) (before : Seen) → Prepares None tables before before (closing usage)
no_command tables before = unrun None tables before before (closing usage) (files_of before.folder) (inl refl) (untouched before) (agrees_of before.folder) (meant (closing usage) refl (unasked before, refl))

-- memory runs out before anything is read
pub lacks_memory : (command : Option Command) (tables : Option TablesView) (before : Seen) → Prepares command tables before before (closing out_of_memory)
lacks_memory command tables before = unrun command tables before before (closing out_of_memory) (files_of before.folder) (inr refl) (untouched before) (agrees_of before.folder) (no_memory refl (λ none. unasked before))

-- ---- FILE has no text that could be read

module _ (one : Command) (tables : Option TablesView) (before read : Seen) (reads : OnlyReads before read)
    (nowhere : (files : Files) → IsNowhere (file_of one) files → MeansCommand (Some one) (still files read) tables (closing nothing_there))
    (large : (files : Files) (text : List ℕ) → StandsAt (file_of one) files text → largest_file < length text → MeansCommand (Some one) (still files read) tables (closing (refused (file_of one) 1 1))) where
  ends_so : (files : Files) (ending : Ending) → IsReadAs (file_of one) files before.faults.source read.faults.source (Err ending) → Comes (Some one) before read (still files read) tables (closing ending)
  ends_so files nothing_there b = meant (closing nothing_there) b.0 (nowhere files b.1)
  ends_so files (refused name line column) b = subst (λ e. Comes (Some one) before read (still files read) tables (closing e)) (sym b.1.3) (meant (closing (refused (file_of one) 1 1)) b.0 (large files b.1.0 b.1.1 b.1.2))
  ends_so files (folder_failed path) b = subst (λ p. Comes (Some one) before read (still files read) tables (closing (folder_failed p))) (sym b.1.1) (unread one refl b.1.0 b.0 (unasked read))
  ends_so files out_of_memory b = no_memory b (λ none. unasked read)
  ends_so files done b = absurd b
  ends_so files usage b = absurd b
  ends_so files console_failed b = absurd b
  ends_so files out_of_steps b = absurd b
  ends_so files not_reached b = absurd b
  ends_so files store_failed b = absurd b
  ends_so files (collision digest kept given) b = absurd b
  ends_so files store_full b = absurd b
  ends_so files (damaged_trial trial detail) b = absurd b
  ends_so files (uncaught class line text) b = absurd b

  -- no run ends so
  pub no_run_in : (files : Files) (ending : Ending) → IsReadAs (file_of one) files before.faults.source read.faults.source (Err ending) → ends_a_run ending ≡ false
  no_run_in files nothing_there b = refl
  no_run_in files (refused name line column) b = refl
  no_run_in files (folder_failed path) b = refl
  no_run_in files out_of_memory b = refl
  no_run_in files done b = absurd b
  no_run_in files usage b = absurd b
  no_run_in files console_failed b = absurd b
  no_run_in files out_of_steps b = absurd b
  no_run_in files not_reached b = absurd b
  no_run_in files store_failed b = absurd b
  no_run_in files (collision digest kept given) b = absurd b
  no_run_in files store_full b = absurd b
  no_run_in files (damaged_trial trial detail) b = absurd b
  no_run_in files (uncaught class line text) b = absurd b

  pub without_text : (ending : Ending) → ReadsFile (file_of one) read.folder before.faults.source read.faults.source (Err ending) → Prepares (Some one) tables before read (closing ending)
  without_text ending r = unrun (Some one) tables before read (closing ending) r.files (inr (no_run_in r.files ending r.because)) reads r.agrees (ends_so r.files ending r.because)

longer : (n : ℕ) → largest_file < n → 262144 < n
longer n far = omega (arith, far)

pub run_without_text : (file : List ℕ) (steps : ℕ) (arguments : List (List ℕ)) (tables : Option TablesView) (before read : Seen) → OnlyReads before read → (ending : Ending) → ReadsFile file read.folder before.faults.source read.faults.source (Err ending)
    → Prepares (Some (run_bare steps file arguments)) tables before read (closing ending)
run_without_text file steps arguments tables before read reads = without_text (run_bare steps file arguments) tables before read reads (λ files where_not. running.nowhere where_not (unasked read))
    (λ files text st far. running.stands text st (closing (refused file 1 1)) (running.no_script origin (too_large (longer (length text) far) refl) (unasked read)))

-- ---- FILE has a text

run_so : (file : List ℕ) (steps : ℕ) (arguments : List (List ℕ)) (tables : Option TablesView) (before read : Seen) (files : Files) (text : List ℕ) (plan : Plan) (world : World) → world.files ≡ files → IsReadAs file files before.faults.source read.faults.source (Ok text)
    → running.RunsText file text steps arguments world.capture plan ⊎ (plan ≡ closing out_of_memory) → Comes (Some (run_bare steps file arguments)) before read world tables plan
run_so file steps arguments tables before read files text plan world same b (inl so) = meant plan b.0 (running.stands text (subst (λ (f : Files). StandsAt file f text) (sym same) b.1) plan so)
run_so file steps arguments tables before read files text plan world same b (inr lacks) = subst (Comes (Some (run_bare steps file arguments)) before read world tables) (sym lacks) (no_memory b.0 (λ none. absurd (false≢true (sym none))))

pub run_with_text : (file : List ℕ) (steps : ℕ) (arguments : List (List ℕ)) (tables : Option TablesView) (before read ran : Seen) → OnlyReads before read → (text : List ℕ) → ReadsFile file read.folder before.faults.source read.faults.source (Ok text) → (plan : Plan)
    → RunsOver file text steps arguments read ran plan → Prepares (Some (run_bare steps file arguments)) tables before ran plan
run_with_text file steps arguments tables before read ran reads text r plan over = record {
  world = record { files = r.files; capture = over.capture };
  read = read;
  began = told_by read;
  clock = (None, None);
  reads = reads;
  agrees = r.agrees;
  asked = not_asked (inl refl);
  starts = refl;
  gave = over.gave;
  ends = sym over.ends;
  comes = run_so file steps arguments tables before read r.files text plan (record { files = r.files; capture = over.capture }) refl r.because over.comes;
}

-- the same of the bytes of the text as they are shown
pub run_with_shown : (file : List ℕ) (steps : ℕ) (arguments : List (List ℕ)) (tables : Option TablesView) (before read ran : Seen) → OnlyReads before read → (text shown : List ℕ) → shown ≡ text
    → ReadsFile file read.folder before.faults.source read.faults.source (Ok text) → (plan : Plan) → RunsOver file shown steps arguments read ran plan → Prepares (Some (run_bare steps file arguments)) tables before ran plan
run_with_shown file steps arguments tables before read ran reads text shown same r plan over =
    run_with_text file steps arguments tables before read ran reads text r plan (subst (λ (t : List ℕ). RunsOver file t steps arguments read ran plan) same over)

-- ---- a run that is to be kept

pub same_store : (store : Stored) → IsUntouched store store
same_store store = record { told = refl; faults = refl }

-- what asks nothing of the store leaves it
pub keeps_nothing : (command : Option Command) (before ran : Seen) (store : Stored) (may : TablesView → Type 0) (plan : Plan) → HasNoRun command plan → HasNoReading command plan
    → Prepares command (tables_told store store) before ran plan → PlansWith command before ran store store may may plan
keeps_nothing command before ran store may plan none aside prepares = record { plans = record { made = plan; prepares = prepares; keeps = no_run none aside (same_store store) }; stops = λ tables. (λ one. one, λ one. one) }

pub kept_without_text : (file : List ℕ) (steps : ℕ) (arguments : List (List ℕ)) (before read : Seen) (store : Stored) (may : TablesView → Type 0) → OnlyReads before read → (ending : Ending)
    → ReadsFile file read.folder before.faults.source read.faults.source (Err ending) → PlansWith (Some (run_kept steps file arguments)) before read store store may may (closing ending)
kept_without_text file steps arguments before read store may reads ending r =
    let gone = λ (files : Files) (where_not : IsNowhere file files). running.nowhere where_not (unasked read) in
    let large = λ (files : Files) (text : List ℕ) (st : StandsAt file files text) (far : largest_file < length text).
    running.stands text st (closing (refused file 1 1)) (running.no_script origin (too_large (longer (length text) far) refl) (unasked read)) in
    keeps_nothing (Some (run_kept steps file arguments)) before read store may (closing ending)
    (inr (no_run_in (run_kept steps file arguments) (tables_told store store) before read reads gone large r.files ending r.because)) (inl refl)
    (without_text (run_kept steps file arguments) (tables_told store store) before read reads gone large ending r)

kept_so : (file : List ℕ) (steps : ℕ) (arguments : List (List ℕ)) (tables : Option TablesView) (before read : Seen) (files : Files) (text : List ℕ) (plan : Plan) (world : World) → world.files ≡ files → IsReadAs file files before.faults.source read.faults.source (Ok text)
    → running.RunsText file text steps arguments world.capture plan ⊎ (plan ≡ closing out_of_memory) → Comes (Some (run_kept steps file arguments)) before read world tables plan
kept_so file steps arguments tables before read files text plan world same b (inl going) = meant plan b.0 (running.stands text (subst (λ (f : Files). StandsAt file f text) (sym same) b.1) plan going)
kept_so file steps arguments tables before read files text plan world same b (inr lacks) = subst (Comes (Some (run_kept steps file arguments)) before read world tables) (sym lacks) (no_memory b.0 (λ none. absurd (false≢true (sym none))))

kept_with_text : (file : List ℕ) (steps : ℕ) (arguments : List (List ℕ)) (before read ran : Seen) (was is : Stored) (may may' : TablesView → Type 0) → OnlyReads before read → (text : List ℕ)
    → (r : ReadsFile file read.folder before.faults.source read.faults.source (Ok text)) → (plan : Plan) → KeepsOver file text steps arguments r.files read ran was is may may' plan
    → PlansWith (Some (run_kept steps file arguments)) before ran was is may may' plan
kept_with_text file steps arguments before read ran was is may may' reads text r plan over = record {
  plans = record {
    made = over.made;
    prepares = record {
      world = record { files = r.files; capture = over.capture };
      read = read;
      began = over.began;
      clock = over.clock;
      reads = reads;
      agrees = r.agrees;
      asked = over.asked;
      starts = over.starts;
      gave = over.gave;
      ends = over.ends;
      comes = kept_so file steps arguments (tables_told was is) before read r.files text over.made (record { files = r.files; capture = over.capture }) refl r.because over.comes;
    };
    keeps = over.keeps;
  };
  stops = over.stops;
}

-- the same of the bytes of the text as they are shown
pub kept_with_shown : (file : List ℕ) (steps : ℕ) (arguments : List (List ℕ)) (before read ran : Seen) (was is : Stored) (may may' : TablesView → Type 0) → OnlyReads before read → (text shown : List ℕ) → shown ≡ text
    → ReadsFile file read.folder before.faults.source read.faults.source (Ok text) → (plan : Plan) → KeepsText file shown steps arguments read ran was is may may' plan → PlansWith (Some (run_kept steps file arguments)) before ran was is may may' plan
kept_with_shown file steps arguments before read ran was is may may' reads text shown same r plan keeps =
    kept_with_text file steps arguments before read ran was is may may' reads text r plan ((subst (λ (t : List ℕ). KeepsText file t steps arguments read ran was is may may' plan) same keeps) r.files r.because.1)

-- what is planned of the words that the program read
pub plans_for : (command found : Option Command) (before ran : Seen) (was is : Stored) (may may' : TablesView → Type 0) (plan : Plan) → found ≡ command → PlansWith found before ran was is may may' plan → PlansWith command before ran was is may may' plan
plans_for command found before ran was is may may' plan same plans = subst (λ (c : Option Command). PlansWith c before ran was is may may' plan) same plans

-- ---- a keeper that is as before

pub untouched_store : {T : Type 0} (told : T → Option KeeperView) (faults : T → ℕ) (old new : T) → new ≡ old → IsUntouched (record { told = told old; faults = faults old }) (record { told = told new; faults = faults new })
untouched_store told faults old new same = record { told = ap told same; faults = ap faults same }

pub same_stops : {T : Type 0} (may : T → TablesView → Type 0) (old new : T) → new ≡ old → (tables : TablesView) → may new tables ↔ may old tables
same_stops {T = T} may old new same tables = subst (λ (k : T). may k tables ↔ may old tables) (sym same) (λ one. one, λ one. one)

-- ---- a question to the store

answer_comes : (query : Query) (before : Seen) (files : Files) (tables : Option TablesView) (plan : Plan) → IsAnswer query tables plan → Comes (Some (reads_command query)) before before (still files before) tables plan
answer_comes query before files tables plan (replied told _ reply) = meant plan refl (unasked before, reply)
answer_comes query before files tables plan (untold_answer _ may) = untold query plan refl refl may refl (unasked before)
answer_comes query before files tables plan (failed _) = store_unread query refl refl (unasked before)
answer_comes query before files tables plan (lacking _) = no_memory refl (λ none. unasked before)

pub answers_so : (query : Query) (before : Seen) (was is : Stored) (may may' : TablesView → Type 0) (plan : Plan) → AnswersQuery query was is may may' plan → PlansWith (Some (reads_command query)) before before was is may may' plan
answers_so query before was is may may' plan so = record {
  plans = record {
    made = plan;
    prepares = unrun (Some (reads_command query)) (tables_told was is) before before plan (files_of before.folder) (inl refl) (untouched before) (agrees_of before.folder)
        (answer_comes query before (files_of before.folder) (tables_told was is) plan so.answer);
    keeps = a_reading query refl so.read;
  };
  stops = so.stops;
}
