-- How a call of the program ends, by what its words mean.
use Rattle.std.proofs.Common.{◌≡◌, refl, sym, ap, subst, ◌∙◌, ℕ, ℤ, ◌≤◌, List, [], ◌++◌, length, take, true, false, ◌⊎◌, inl, inr, ⊎_elim, Option, Some, None, Ok, Err, arith}
use Rattle.std.proofs.lemmas.List.{append-nil}
use Rattle.std.proofs.lemmas.Bool.{false≢true, cases_lt}
use Rattle.std.proofs.lemmas.Option.{same_Some}
use Rattle.std.specs.Option.{option_map}
use Rattle.std.specs.Prelude.{IsSome, IsTrue}
use Rattle.prov_base.specs.Path.{is_path}
use Rattle.now_words.specs.Command.{Command, run_bare, run_kept, reads, restores, command_of}
use Rattle.now_words.specs.declared.command.Evaluation.{Evaluation}
use Rattle.now_words.specs.declared.command.Query.{Query}
use Rattle.now_words.specs.declared.command.Query.TheVariants.{List as list_query, History, Show, Dataflow, Slice, Value, Replay, Sources, Effects}
use Rattle.delivery.specs.Ending.{Ending, done, uncaught, usage, refused, nothing_there, console_failed, folder_failed, store_failed, out_of_memory, out_of_steps, not_reached, collision, store_full, damaged_trial, status_of, closing_line, tells_of_store}
use Rattle.delivery.specs.Ends.{Ends, as_planned, by_console as by_planned_console, by_folder as by_planned_folder, no_memory as lacked_memory, GetsPrefixes}
use Rattle.delivery.specs.PutsAll.{OutFile}
use Rattle.delivery.specs.Stands.{HasAll, WentWell, DidAsPlanned}
use Rattle.prov_outside.specs.Console.{ConsoleView}
use Rattle.prov_outside.specs.Count.{Rose, one_more}
use Rattle.prov_outside.specs.Folder.{Files}
use Rattle.prov_outside.specs.Tells.{Tells}
use Rattle.py_model.specs.Capture.{Telling}
use Rattle.keeper.specs.Keeping.{KeeperView}
use Rattle.keeper.specs.Tables.{TablesView}
use Rattle.trial_keeping.specs.Keeping.{KeepsTrial, HasRoom, IsOfKeeping, full_store}
use Rattle.trial_keeping.specs.Trial.{Run, with_trial_of}
use Rattle.trial_keeping.specs.declared.fault.TrialFault.{TrialFault}
use Rattle.trial_keeping.specs.declared.fault.TrialFault.TheVariants.{NoTrial, Damaged, Keeper, Collision, Full, Memory}
use Rattle.trial_loading.specs.Loading.{IsLoaded}
use Rattle.trial_loading.specs.declared.trial.Trial.{Trial}
use Rattle.trial_slice.specs.Questions.{HasAnswer}
use Rattle.trial_slice.specs.Slices.{HasSlice}
use Rattle.dep_query.specs.Dataflows.{IsDataflow}
use Rattle.trial_replay.specs.Replays.{IsReplayAt}
use Rattle.trial_replay.specs.declared.replaying.Replayed.{Replayed}
use Rattle.trial_replay.specs.declared.replaying.Replayed.TheVariants.{Lines, NotReached}
use Rattle.trial_tables.specs.Written.{put, clash}
use Rattle.trial_value.specs.Values.{IsValueAt}
use Rattle.dep_query.specs.SiteTexts.{IsFedText}
use Rattle.feedings.specs.declared.site.Way.{Way}
use Rattle.feedings.specs.declared.site.Way.TheVariants.{Sources as to_it, Effects as from_it}
use Rattle.now_top.specs.Completes.{IsTold, Completes, as_meant, by_console, by_folder, by_store, by_collision, by_full, no_memory, DoesWhole, DoesAsMeant, WritesPrefixes, WritesSlice, WritesAnswer, KeepsOne, RepliesBy, leaves_tables}
use Rattle.capture.specs.declared.ended.RunEnd.{RunEnd}
use Rattle.capture.specs.declared.ended.RunEnd.TheVariants.{Finished, Raised, Spent}
use Rattle.now_top.specs.Planned.{ending_told}
use Rattle.now_top.specs.Kept.{keeps, reads_store, ends_a_run, Clock, Asks, HasNoReading, KeepsRun, Stored, IsUntouched, is_store_failed, KeepsIn, Keeps, no_run, a_run, a_reading, tables_told}
use Rattle.now_top.specs.Unkept.{with_keeping}
use Rattle.now_top.specs.Means.{MeansCommand, file_of}
use Rattle.now_top.specs.Replies.{Comes, meant, unread, store_unread, untold, no_memory as lacks_memory, Prepares, Replies}
use Rattle.now_top.specs.Seen.{Seen, told_by}
use Rattle.now_top.specs.Reply.{RepliesOf, well_kept, not_there, amiss, Slices, sliced, unevaluated, Answered, answered, unanswered, telling, DataflowOf, ValuesOf, FeedingsOf, replaying, ReplaysOf, Reply}
use Rattle.now_top.specs.World.{World, Plan, closing}

-- what is told goes through what is told between
pub tells_through : {T : Type 0} (a b c : Option T) (P Q R : T → T → Type 0) → ((x y z : T) → P x y → Q y z → R x z) → Tells a b P → Tells b c Q → Tells a c R
tells_through a b None P Q R both first second = tt
tells_through a None (Some z) P Q R both first second = absurd second
tells_through None (Some y) (Some z) P Q R both first second = absurd first
tells_through (Some x) (Some y) (Some z) P Q R both first second = both x y z first second

tells_as : {T : Type 0} (a b : Option T) (P Q : T → T → Type 0) → ((x y : T) → P x y → Q x y) → Tells a b P → Tells a b Q
tells_as a None P Q more first = tt
tells_as None (Some y) P Q more first = absurd first
tells_as (Some x) (Some y) P Q more first = more x y first

-- what stands in a folder stands in it as it was before, where nothing has changed it
has_all_from : (files : List OutFile) (one two three : Files) → two ≡ one → HasAll files two three → HasAll files one three
has_all_from files one two three same all = subst (λ (f : Files). HasAll files f three) same all

-- the console's bytes, told before and after
written_of : (one two : Option ConsoleView) → Tells (option_map (λ (view : ConsoleView). view.written) one) (option_map (λ (view : ConsoleView). view.written) two) (λ old new. new ≡ old)
    → Tells one two (λ (old new : ConsoleView). new.written ≡ old.written)
written_of one None tells = tt
written_of None (Some new) tells = absurd tells
written_of (Some old) (Some new) tells = tells

none_of : (n : ℕ) → (n ≡ 0 → ⊥) → (n ≡ 1 → ⊥) → (n ≡ 9 → ⊥) → (n ≡ 0) ⊎ ((n ≡ 1) ⊎ (n ≡ 9)) → ⊥
none_of n zero one nine is = ⊎_elim (λ e. zero e) (λ more. ⊎_elim (λ e. one e) (λ e. nine e) more) is

risen : (n : ℕ) → Rose n (one_more n)
risen n = ⊎_elim (λ below. inl (omega (arith, below))) (λ past. inr (omega (arith, past))) (cases_lt n 18446744073709551615)

rose_from : (a b c d : ℕ) → b ≡ a → d ≡ c → Rose b d → Rose a c
rose_from a b c d first second rose = subst (λ (n : ℕ). Rose n c) first (subst (λ (n : ℕ). Rose b n) second rose)

-- where nothing closes it, the text alone was written
pub only_text : (x y z text : List ℕ) (ending : Ending) → ending ≡ done → y ≡ x → z ≡ y ++ text ++ closing_line ending → z ≡ x ++ text
only_text x y z text ending is same all =
    let plain : z ≡ y ++ text ++ [] = subst (λ (e : Ending). z ≡ y ++ text ++ closing_line e) is all in
    let short : y ++ text ++ [] ≡ y ++ text = append-nil (y ++ text) in
    plain ∙ short ∙ ap (λ (xs : List ℕ). xs ++ text) same

-- ---- a plan and why it came about

-- the clock changes no other count, no file and nothing written
asks_put : (clock : Option (Option ℤ)) (a b : Telling) → Asks clock a b → b.put_faults ≡ a.put_faults
asks_put None a b same = ap (λ t. t.put_faults) same
asks_put (Some time) a b asks = ap (λ t. t.put_faults) asks.rest

asks_write : (clock : Option (Option ℤ)) (a b : Telling) → Asks clock a b → b.write_faults ≡ a.write_faults
asks_write None a b same = ap (λ t. t.write_faults) same
asks_write (Some time) a b asks = ap (λ t. t.write_faults) asks.rest

asks_source : (clock : Option (Option ℤ)) (a b : Telling) → Asks clock a b → b.source_faults ≡ a.source_faults
asks_source None a b same = ap (λ t. t.source_faults) same
asks_source (Some time) a b asks = ap (λ t. t.source_faults) asks.rest

asks_files : (clock : Option (Option ℤ)) (a b : Telling) → Asks clock a b → b.files ≡ a.files
asks_files None a b same = ap (λ t. t.files) same
asks_files (Some time) a b asks = ap (λ t. t.files) asks.rest

asks_written : (clock : Option (Option ℤ)) (a b : Telling) → Asks clock a b → b.written ≡ a.written
asks_written None a b same = ap (λ t. t.written) same
asks_written (Some time) a b asks = ap (λ t. t.written) asks.rest

-- an ending that tells of no fault of the store, by its status
no_store : (ending : Ending) → (status_of ending ≡ 7 → ⊥) → (status_of ending ≡ 10 → ⊥) → (status_of ending ≡ 13 → ⊥) → tells_of_store ending ≡ false
no_store done seven ten full = refl
no_store (uncaught class line text) seven ten full = refl
no_store usage seven ten full = refl
no_store (refused file line column) seven ten full = refl
no_store nothing_there seven ten full = refl
no_store console_failed seven ten full = refl
no_store (folder_failed path) seven ten full = refl
no_store store_failed seven ten full = absurd (seven refl)
no_store out_of_memory seven ten full = refl
no_store out_of_steps seven ten full = refl
no_store not_reached seven ten full = refl
no_store (collision digest kept given) seven ten full = absurd (ten refl)
no_store store_full seven ten full = absurd (full refl)
no_store (damaged_trial trial detail) seven ten full = refl

-- how a run ended is the ending of a run
pub run_told : (end : RunEnd) → ends_a_run (ending_told end) ≡ true
run_told Finished = refl
run_told (Raised class line text) = refl
run_told Spent = refl

-- what ends with such a status is no run
pub none_at : (ending : Ending) → leaves_tables (status_of ending) ≡ true → ends_a_run ending ≡ false
none_at done is = absurd (false≢true is)
none_at (uncaught class line text) is = absurd (false≢true is)
none_at out_of_steps is = absurd (false≢true is)
none_at not_reached is = absurd (false≢true is)
none_at usage is = refl
none_at (refused file line column) is = refl
none_at nothing_there is = refl
none_at console_failed is = refl
none_at (folder_failed path) is = refl
none_at store_failed is = refl
none_at out_of_memory is = refl
none_at (collision digest kept given) is = refl
none_at store_full is = refl
none_at (damaged_trial trial detail) is = refl

-- what ends with the status of a run is a run
pub run_at : (ending : Ending) → (status_of ending ≡ 0) ⊎ ((status_of ending ≡ 1) ⊎ (status_of ending ≡ 9)) → ends_a_run ending ≡ true
run_at done is = refl
run_at (uncaught class line text) is = refl
run_at out_of_steps is = refl
run_at not_reached is = absurd (none_of 12 (λ e. omega (arith, e)) (λ e. omega (arith, e)) (λ e. omega (arith, e)) is)
run_at usage is = absurd (none_of 2 (λ e. omega (arith, e)) (λ e. omega (arith, e)) (λ e. omega (arith, e)) is)
run_at (refused file line column) is = absurd (none_of 3 (λ e. omega (arith, e)) (λ e. omega (arith, e)) (λ e. omega (arith, e)) is)
run_at nothing_there is = absurd (none_of 4 (λ e. omega (arith, e)) (λ e. omega (arith, e)) (λ e. omega (arith, e)) is)
run_at console_failed is = absurd (none_of 5 (λ e. omega (arith, e)) (λ e. omega (arith, e)) (λ e. omega (arith, e)) is)
run_at (folder_failed path) is = absurd (none_of 6 (λ e. omega (arith, e)) (λ e. omega (arith, e)) (λ e. omega (arith, e)) is)
run_at store_failed is = absurd (none_of 7 (λ e. omega (arith, e)) (λ e. omega (arith, e)) (λ e. omega (arith, e)) is)
run_at out_of_memory is = absurd (none_of 8 (λ e. omega (arith, e)) (λ e. omega (arith, e)) (λ e. omega (arith, e)) is)
run_at (collision digest kept given) is = absurd (none_of 10 (λ e. omega (arith, e)) (λ e. omega (arith, e)) (λ e. omega (arith, e)) is)
run_at store_full is = absurd (none_of 13 (λ e. omega (arith, e)) (λ e. omega (arith, e)) (λ e. omega (arith, e)) is)
run_at (damaged_trial trial detail) is = absurd (none_of 11 (λ e. omega (arith, e)) (λ e. omega (arith, e)) (λ e. omega (arith, e)) is)

-- a question names no file
no_file : (query : Query) (one : Command) → Some one ≡ Some (reads query) → IsTrue (is_path (file_of one)) → ⊥
no_file query one same path = false≢true (subst (λ (c : Command). is_path (file_of c) ≡ true) (same_Some _ _ same) path)

none_told : (told : TablesView) → ◌≡◌ {A = Option TablesView} None (Some told) → ⊥
none_told told is = cc

told_alike : (one other : Option KeeperView) → other ≡ one → Tells one other (λ (old new : KeeperView). new ≡ old)
told_alike None None same = tt
told_alike (Some one) None same = tt
told_alike None (Some other) same = cc
told_alike (Some one) (Some other) same = same_Some _ _ same

-- what reads the store keeps no run
pub no_run_read : (query : Query) (steps : ℕ) (file : List ℕ) (arguments : List (List ℕ)) → ◌≡◌ {A = Option Command} (Some (reads query)) (Some (run_kept steps file arguments)) → ⊥
no_run_read query steps file arguments is = cc

-- a plan that tells of a fault of the store tells of no lack of memory
not_both : ◌≡◌ {A = ℕ} 7 8 → ⊥
not_both is = omega (arith, is)

no_reading_in : (command : Option Command) (query : Query) (made : Plan) → command ≡ Some (reads query) → HasNoReading command made → made ≡ closing store_failed → ⊥
no_reading_in command query made word (inl none) same = false≢true (sym none ∙ ap (λ (c : Option Command). reads_store c) word)
no_reading_in command query made word (inr lacks) same = not_both (ap (λ (p : Plan). status_of p.ending) (sym same ∙ lacks))

not_told_in : (command : Option Command) (query : Query) (tables : Option TablesView) → command ≡ Some (reads query) → tables ≡ None → IsTold command tables → ⊥
not_told_in command query tables word none told = false≢true (subst (λ (t : Option TablesView). IsSome t) none (told (ap (λ (c : Option Command). reads_store c) word)))

-- ---- what a question is answered

-- no reply tells of a fault of the store
answer_is_fine : (answers : Trial → Plan → Type 0) → ((trial : Trial) (plan : Plan) → answers trial plan → tells_of_store plan.ending ≡ false) → (tables : TablesView) (number : ℕ) (plan : Plan)
    → RepliesOf answers tables number plan → tells_of_store plan.ending ≡ false
answer_is_fine answers fine tables number plan (well_kept trial loaded _ is) = fine trial plan is
answer_is_fine answers fine tables number plan (not_there none) = refl
answer_is_fine answers fine tables number plan (amiss damage is) = refl

question_is_fine : {T : Type 0} (tells : T → Plan) → ((it : T) → tells_of_store (tells it).ending ≡ false) → (answers : Trial → T → Type 0) (lacks : Trial → Type 0) (trial : Trial) (plan : Plan)
    → Answered tells answers lacks trial plan → tells_of_store plan.ending ≡ false
question_is_fine tells fine answers lacks trial plan (answered it is) = fine it
question_is_fine tells fine answers lacks trial plan (unanswered so) = refl

replay_is_fine : (told : Replayed) → tells_of_store (replaying told).ending ≡ false
replay_is_fine (Lines text) = refl
replay_is_fine NotReached = refl

slice_is_fine : (of : Evaluation) (trial : Trial) (plan : Plan) → Slices of.at of.k trial plan → tells_of_store plan.ending ≡ false
slice_is_fine of trial plan (sliced keep text is) = refl
slice_is_fine of trial plan (unevaluated lacks) = refl

reply_is_fine : (query : Query) (tables : TablesView) (plan : Plan) → Reply query tables plan → tells_of_store plan.ending ≡ false
reply_is_fine list_query tables plan is = ap (λ (p : Plan). tells_of_store p.ending) is
reply_is_fine History tables plan is = ap (λ (p : Plan). tells_of_store p.ending) is
reply_is_fine (Show number) tables plan is = answer_is_fine _ (λ trial shown so. ap (λ (p : Plan). tells_of_store p.ending) so) tables number plan is
reply_is_fine (Dataflow number) tables plan is = answer_is_fine DataflowOf (question_is_fine telling (λ text. refl) _ _) tables number plan is
reply_is_fine (Slice of) tables plan is = answer_is_fine (Slices of.at of.k) (slice_is_fine of) tables of.trial plan is
reply_is_fine (Value of) tables plan is = answer_is_fine (ValuesOf of) (question_is_fine telling (λ text. refl) _ _) tables of.trial plan is
reply_is_fine (Replay of) tables plan is = answer_is_fine (ReplaysOf of) (question_is_fine replaying replay_is_fine _ _) tables of.trial plan is
reply_is_fine (Sources of) tables plan is = answer_is_fine (FeedingsOf to_it of) (question_is_fine telling (λ text. refl) _ _) tables of.trial plan is
reply_is_fine (Effects of) tables plan is = answer_is_fine (FeedingsOf from_it of) (question_is_fine telling (λ text. refl) _ _) tables of.trial plan is

-- a slice with which the command is done is one by the tables
slice_done : (of : Evaluation) (tables : TablesView) (trial : Trial) (plan : Plan) → IsLoaded tables of.trial trial → Slices of.at of.k trial plan → plan.ending ≡ done → HasSlice tables of.trial of.at of.k plan.text
slice_done of tables trial plan loaded (sliced keep text is) done_so = record { trial = trial; loaded = loaded; keep = keep; is_slice = is }
slice_done of tables trial plan loaded (unevaluated lacks) done_so = absurd (cc)

reply_slices : (of : Evaluation) (tables : TablesView) (plan : Plan) → RepliesOf (Slices of.at of.k) tables of.trial plan → plan.ending ≡ done → HasSlice tables of.trial of.at of.k plan.text
reply_slices of tables plan (well_kept trial loaded _ is) done_so = slice_done of tables trial plan loaded is done_so
reply_slices of tables plan (not_there none) done_so = absurd (cc)
reply_slices of tables plan (amiss damage is) done_so = absurd (cc)

-- a text with which the command is done answers the question, by the tables
pub reply_answers : (comes : Trial → Plan → Type 0) (answers : Trial → List ℕ → Type 0) → ((trial : Trial) (plan : Plan) → comes trial plan → plan.ending ≡ done → answers trial plan.text)
    → (tables : TablesView) (number : ℕ) (plan : Plan) → RepliesOf comes tables number plan → plan.ending ≡ done → HasAnswer answers tables number plan.text
reply_answers comes answers of tables number plan (well_kept trial loaded _ is) done_so = record { trial = trial; loaded = loaded; answer = of trial plan is done_so }
reply_answers comes answers of tables number plan (not_there none) done_so = absurd (cc)
reply_answers comes answers of tables number plan (amiss damage is) done_so = absurd (cc)

pub flow_done : (trial : Trial) (plan : Plan) → DataflowOf trial plan → plan.ending ≡ done → IsDataflow trial plan.text
flow_done trial plan (answered text is) done_so = is
flow_done trial plan (unanswered so) done_so = absurd (cc)

pub feeding_done : (way : Way) (of : Evaluation) (trial : Trial) (plan : Plan) → FeedingsOf way of trial plan → plan.ending ≡ done → IsFedText way of.at of.k trial plan.text
feeding_done way of trial plan (answered text is) done_so = is
feeding_done way of trial plan (unanswered so) done_so = absurd (cc)

pub value_done : (of : Evaluation) (trial : Trial) (plan : Plan) → ValuesOf of trial plan → plan.ending ≡ done → IsValueAt of.at of.k trial plan.text
value_done of trial plan (answered text is) done_so = is
value_done of trial plan (unanswered so) done_so = absurd (cc)

pub replay_done : (of : Evaluation) (trial : Trial) (plan : Plan) → ReplaysOf of trial plan → plan.ending ≡ done → IsReplayAt of.at of.k trial (Lines plan.text)
replay_done of trial plan (answered (Lines text) is) done_so = is
replay_done of trial plan (answered NotReached is) done_so = absurd (cc)
replay_done of trial plan (unanswered so) done_so = absurd (cc)

module _ (words : List (List ℕ)) (before after : Seen) (was is : Stored) (status : ℕ) (so : Replies words before after was is status) where
  abbrev command : Option Command
  command = command_of words

  abbrev world : World
  world = so.plans.prepares.world

  abbrev read : Seen
  read = so.plans.prepares.read

  -- the tables that the store told before and after, if it did
  abbrev tables : Option TablesView
  tables = tables_told was is

  abbrev prepares : Prepares command tables before so.ran so.plans.made
  prepares = so.plans.prepares

  -- how the call ends where this ending is meant
  abbrev Ending_is : Ending → Type 0
  Ending_is ending = Completes world prepares.began prepares.clock so.plans.made ending before.faults after.faults was is status

  -- the counts, from the first moment to the last
  put_same : so.ran.faults.put ≡ before.faults.put
  put_same = asks_put prepares.clock.1 prepares.world.capture.ends (told_by so.ran) prepares.ends ∙ prepares.gave.untouched.put_faults ∙ asks_put prepares.clock.0 (told_by prepares.read) prepares.began prepares.starts ∙ prepares.reads.put

  write_same : so.ran.faults.write ≡ before.faults.write
  write_same = asks_write prepares.clock.1 prepares.world.capture.ends (told_by so.ran) prepares.ends ∙ prepares.gave.untouched.write_faults ∙ asks_write prepares.clock.0 (told_by prepares.read) prepares.began prepares.starts ∙ prepares.reads.write

  source_same : after.faults.source ≡ read.faults.source
  source_same = so.delivers.source ∙ asks_source prepares.clock.1 prepares.world.capture.ends (told_by so.ran) prepares.ends ∙ prepares.gave.untouched.source_faults ∙ asks_source prepares.clock.0 (told_by prepares.read) prepares.began prepares.starts

  pub put_rose : Rose so.ran.faults.put after.faults.put → Rose before.faults.put after.faults.put
  put_rose rose = rose_from before.faults.put so.ran.faults.put after.faults.put after.faults.put put_same refl rose

  pub write_rose : Rose so.ran.faults.write after.faults.write → Rose before.faults.write after.faults.write
  write_rose rose = rose_from before.faults.write so.ran.faults.write after.faults.write after.faults.write write_same refl rose

  pub source_rose : read.faults.source ≡ one_more before.faults.source → Rose before.faults.source after.faults.source
  source_rose is = subst (λ (n : ℕ). Rose before.faults.source n) (sym (source_same ∙ is)) (risen before.faults.source)

  -- what the folder and the console tell, from the first moment to the last
  folder_same : Tells before.folder so.ran.folder (λ (was is : Files). is ≡ was)
  folder_same = tells_through before.folder read.folder so.ran.folder (λ (was is : Files). is ≡ was) (λ (was is : Files). is ≡ was) (λ (was is : Files). is ≡ was) (λ x y z a b. b ∙ a)
      prepares.reads.folder
      (subst (λ (told : Option Files). Tells told so.ran.folder (λ (was is : Files). is ≡ was)) (asks_files prepares.clock.0 (told_by prepares.read) prepares.began prepares.starts)
      (subst (λ (told : Option Files). Tells prepares.began.files told (λ (was is : Files). is ≡ was)) (sym (asks_files prepares.clock.1 prepares.world.capture.ends (told_by so.ran) prepares.ends)) prepares.gave.folder))

  pub written_same : Tells before.console so.ran.console (λ (was is : ConsoleView). is.written ≡ was.written)
  written_same = subst (λ (c : Option ConsoleView). Tells c so.ran.console (λ (was is : ConsoleView). is.written ≡ was.written)) prepares.reads.console
      (written_of read.console so.ran.console
      (subst (λ (told : Option (List ℕ)). Tells told (told_by so.ran).written (λ (was is : List ℕ). is ≡ was)) (asks_written prepares.clock.0 (told_by prepares.read) prepares.began prepares.starts)
      (subst (λ (told : Option (List ℕ)). Tells prepares.began.written told (λ (was is : List ℕ). is ≡ was)) (sym (asks_written prepares.clock.1 prepares.world.capture.ends (told_by so.ran) prepares.ends)) prepares.gave.untouched.written)))

  -- ---- the ways to end

  -- by the way in which the plan was delivered
  by_way : (ending : Ending) → Ends ending so.ran.faults.put after.faults.put so.ran.faults.write after.faults.write status → Ending_is ending
  by_way ending (as_planned is) = as_meant is
  by_way ending (by_planned_console store is rose) = by_console is (write_rose rose)
  by_way ending (by_planned_folder store is rose) = by_folder is (inr (put_rose rose))
  by_way ending (lacked_memory is) = no_memory is

  -- where FILE could not be read, whatever the words mean
  by_unread : (file : List ℕ) (ending : Ending) → Rose before.faults.source after.faults.source
      → Ends (folder_failed file) so.ran.faults.put after.faults.put so.ran.faults.write after.faults.write status → Ending_is ending
  by_unread file ending rose (as_planned is) = by_folder is (inl rose)
  by_unread file ending rose (by_planned_console store is also) = by_console is (write_rose also)
  by_unread file ending rose (by_planned_folder store is also) = by_folder is (inl rose)
  by_unread file ending rose (lacked_memory is) = no_memory is

  -- where memory ran out before anything was delivered
  by_lack : (ending : Ending) → Ends out_of_memory so.ran.faults.put after.faults.put so.ran.faults.write after.faults.write status → Ending_is ending
  by_lack ending (as_planned is) = no_memory is
  by_lack ending (by_planned_console store is also) = by_console is (write_rose also)
  by_lack ending (by_planned_folder store is also) = by_folder is (inr (put_rose also))
  by_lack ending (lacked_memory is) = no_memory is

  -- where the store failed, and counted that
  by_fault : (ending : Ending) → Rose was.faults is.faults → Ends store_failed so.ran.faults.put after.faults.put so.ran.faults.write after.faults.write status → Ending_is ending
  by_fault ending rose (as_planned at) = by_store at rose
  by_fault ending rose (by_planned_console store at also) = by_console at (write_rose also)
  by_fault ending rose (by_planned_folder store at also) = by_folder at (inr (put_rose also))
  by_fault ending rose (lacked_memory at) = no_memory at

  -- a question that is answered by a fault of the store, which counted it
  store_rose : (made delivered : Plan) (began : Telling) (clock : Clock) → Keeps command world began clock made was is delivered → (query : Query) → command ≡ Some (reads query) → made ≡ closing store_failed → Rose was.faults is.faults
  store_rose made delivered began clock (no_run none aside still) query word same = absurd (no_reading_in command query made word aside same)
  store_rose made delivered began clock (a_reading one other read_so) query word same = read_so.cause.rose (ap (λ (p : Plan). is_store_failed p.ending) same)
  store_rose made delivered began clock (a_run steps file arguments other run of number kept) query word same = absurd (no_run_read query steps file arguments (sym word ∙ other))

  -- over a store that does not tell, a question means nothing
  no_meaning : (query : Query) → command ≡ Some (reads query) → tables ≡ None → (plan : Plan) → MeansCommand command world tables plan → ⊥
  no_meaning query word none plan means = subst (λ (c : Option Command). MeansCommand c world None plan) word (subst (λ (t : Option TablesView). MeansCommand command world t plan) none means)

  module _ (one_plan : (one other : Plan) → MeansCommand command world tables one → MeansCommand command world tables other → one ≡ other) where
    completes_by : (made plan : Plan) → Comes command before read world tables made → ((query : Query) → command ≡ Some (reads query) → made ≡ closing store_failed → Rose was.faults is.faults) → MeansCommand command world tables plan
        → Ends made.ending so.ran.faults.put after.faults.put so.ran.faults.write after.faults.write status → Ending_is plan.ending
    completes_by made plan (meant one same is) fails means ends = by_way plan.ending (subst (λ (p : Plan). Ends p.ending so.ran.faults.put after.faults.put so.ran.faults.write after.faults.write status) (one_plan made plan is means) ends)
    completes_by made plan (unread one word path rose un) fails means ends = by_unread (file_of one) plan.ending (source_rose rose) ends
    completes_by made plan (store_unread query word same un) fails means ends = by_fault plan.ending (fails query word refl) ends
    completes_by made plan (untold query one word none may same un) fails means ends = absurd (no_meaning query word none plan means)
    completes_by made plan (lacks_memory same aside) fails means ends = by_lack plan.ending ends

    -- by what came of the keeping
    unkept_by : (steps : ℕ) (file : List ℕ) (arguments : List (List ℕ)) (run : Run) (fault : TrialFault) (made plan : Plan) → KeepsRun file steps arguments world prepares.began prepares.clock so.plans.made run → KeepsIn run (Err fault) was is → Ends (with_keeping (Err fault) made).ending so.ran.faults.put after.faults.put so.ran.faults.write after.faults.write status
        → Ending_is plan.ending
    unkept_by steps file arguments run Memory made plan of kept ends = by_lack plan.ending ends
    unkept_by steps file arguments run Keeper made plan of kept (as_planned at) = by_store at (kept.cause.rose refl)
    unkept_by steps file arguments run Keeper made plan of kept (by_planned_console store at rose) = by_console at (write_rose rose)
    unkept_by steps file arguments run Keeper made plan of kept (by_planned_folder store at rose) = by_folder at (inr (put_rose rose))
    unkept_by steps file arguments run Keeper made plan of kept (lacked_memory at) = no_memory at
    unkept_by steps file arguments run (Collision digest there given) made plan of kept (as_planned at) = by_collision at (record {
      steps = steps;
      file = file;
      arguments = arguments;
      run = run;
      of = of;
      digest = digest;
      kept = there;
      given = given;
      tables = tells_as was.told is.told (KeepsTrial run (Err (Collision digest there given))) (λ (old new : KeeperView). with_trial_of run old.committed ≡ clash digest there given) (λ old new keeps. keeps.0.1) kept.keeps;
    })
    unkept_by steps file arguments run (Collision digest there given) made plan of kept (by_planned_console store at rose) = by_console at (write_rose rose)
    unkept_by steps file arguments run (Collision digest there given) made plan of kept (by_planned_folder store at rose) = by_folder at (inr (put_rose rose))
    unkept_by steps file arguments run (Collision digest there given) made plan of kept (lacked_memory at) = no_memory at
    unkept_by steps file arguments run Full made plan of kept (as_planned at) = by_full at
        (tells_as was.told is.told (KeepsTrial run (Err Full)) (λ (old new : KeeperView). full_store ≤ length old.committed.heads) (λ old new keeps. keeps.0) kept.keeps)
    unkept_by steps file arguments run Full made plan of kept (by_planned_console store at rose) = by_console at (write_rose rose)
    unkept_by steps file arguments run Full made plan of kept (by_planned_folder store at rose) = by_folder at (inr (put_rose rose))
    unkept_by steps file arguments run Full made plan of kept (lacked_memory at) = no_memory at
    unkept_by steps file arguments run (NoTrial number) made plan of kept ends = absurd kept.of_keeping
    unkept_by steps file arguments run (Damaged number damage) made plan of kept ends = absurd kept.of_keeping

    completes_kept : (delivered plan : Plan) → Keeps command world prepares.began prepares.clock so.plans.made was is delivered → Comes command before read world tables so.plans.made → MeansCommand command world tables plan
        → Ends delivered.ending so.ran.faults.put after.faults.put so.ran.faults.write after.faults.write status → Ending_is plan.ending
    completes_kept delivered plan (no_run none aside still) comes means ends = completes_by so.plans.made plan comes (store_rose so.plans.made delivered prepares.began prepares.clock (no_run none aside still)) means ends
    completes_kept delivered plan (a_reading query word read_so) comes means ends = completes_by so.plans.made plan comes (store_rose so.plans.made delivered prepares.began prepares.clock (a_reading query word read_so)) means ends
    completes_kept delivered plan (a_run steps file arguments word run of (Ok number) kept) comes means ends =
        completes_by so.plans.made plan comes (store_rose so.plans.made delivered prepares.began prepares.clock (a_run steps file arguments word run of (Ok number) kept)) means ends
    completes_kept delivered plan (a_run steps file arguments word run of (Err fault) kept) comes means ends = unkept_by steps file arguments run fault so.plans.made plan of kept ends

    pub completes_so : (plan : Plan) → MeansCommand command world tables plan
        → Ends so.plan.ending so.ran.faults.put after.faults.put so.ran.faults.write after.faults.write status → Ending_is plan.ending
    completes_so plan means ends = completes_kept so.plan plan so.plans.keeps prepares.comes means ends

  -- ---- what stands

  -- the plan is as it was made, but for a fault of the store, which shows by the status
  as_made : (made delivered : Plan) (began : Telling) (clock : Clock) → Keeps command world began clock made was is delivered
      → ((Rose was.faults is.faults → ⊥) ⊎ (status_of delivered.ending ≡ 7 → ⊥)) → (status_of delivered.ending ≡ 8 → ⊥) → (status_of delivered.ending ≡ 10 → ⊥) → (status_of delivered.ending ≡ 13 → ⊥)
      → made ≡ delivered
  as_made made delivered began clock (no_run none aside still) quiet room other full = refl
  as_made made delivered began clock (a_reading query word read_so) quiet room other full = refl
  as_made made delivered began clock (a_run steps file arguments word run of (Ok number) kept) quiet room other full = refl
  as_made made delivered began clock (a_run steps file arguments word run of (Err Memory) kept) quiet room other full = absurd (room refl)
  as_made made delivered began clock (a_run steps file arguments word run of (Err Keeper) kept) (inl quiet) room other full = absurd (quiet (kept.cause.rose refl))
  as_made made delivered began clock (a_run steps file arguments word run of (Err Keeper) kept) (inr seven) room other full = absurd (seven refl)
  as_made made delivered began clock (a_run steps file arguments word run of (Err (Collision digest there given)) kept) quiet room other full = absurd (other refl)
  as_made made delivered began clock (a_run steps file arguments word run of (Err Full) kept) quiet room other full = absurd (full refl)
  as_made made delivered began clock (a_run steps file arguments word run of (Err (NoTrial number)) kept) quiet room other full = absurd kept.of_keeping
  as_made made delivered began clock (a_run steps file arguments word run of (Err (Damaged number damage)) kept) quiet room other full = absurd kept.of_keeping

  made_is : ((Rose was.faults is.faults → ⊥) ⊎ (status_of so.plan.ending ≡ 7 → ⊥)) → (status_of so.plan.ending ≡ 8 → ⊥) → (status_of so.plan.ending ≡ 10 → ⊥) → (status_of so.plan.ending ≡ 13 → ⊥) → so.plans.made ≡ so.plan
  made_is = as_made so.plans.made so.plan prepares.began prepares.clock so.plans.keeps

  -- a plan that came about otherwise shows by the status or by a count
  meant_by : (made : Plan) → Comes command before read world tables made → IsTold command tables → ((query : Query) → command ≡ Some (reads query) → made ≡ closing store_failed → ⊥) → (Rose before.faults.source after.faults.source → ⊥) → (status_of made.ending ≡ 8 → ⊥) → MeansCommand command world tables made
  meant_by made (meant one same is) told seven quiet room = is
  meant_by made (unread one word path rose un) told seven quiet room = absurd (quiet (source_rose rose))
  meant_by made (store_unread query word same un) told seven quiet room = absurd (seven query word refl)
  meant_by made (untold query one word none may same un) told seven quiet room = absurd (not_told_in command query tables word none told)
  meant_by made (lacks_memory same aside) told seven quiet room = absurd (room refl)

  pub whole_so : IsTold command tables → (Rose before.faults.source after.faults.source → ⊥) → (Rose was.faults is.faults → ⊥) → (status ≡ 8 → ⊥) → (status ≡ 10 → ⊥) → (status ≡ 13 → ⊥)
      → WentWell so.plan.ending so.plan.text so.plan.files so.ran.faults.put after.faults.put so.ran.folder after.folder so.ran.faults.write after.faults.write so.ran.console after.console status
      → DoesWhole command world tables so.plan before after status
  whole_so told quiet still room other full well = record {
    means =
        let same : so.plans.made ≡ so.plan = made_is (inl still) (λ at. room (well.status_is ∙ at)) (λ at. other (well.status_is ∙ at)) (λ at. full (well.status_is ∙ at)) in
        subst (λ (p : Plan). MeansCommand command world tables p) same (meant_by so.plans.made prepares.comes told
        (λ query word failed. still (store_rose so.plans.made so.plan prepares.began prepares.clock so.plans.keeps query word failed)) quiet (λ at. room (well.status_is ∙ ap (λ (p : Plan). status_of p.ending) (sym same) ∙ at)));
    folder = tells_through before.folder so.ran.folder after.folder (λ (was is : Files). is ≡ was) (HasAll so.plan.files) (HasAll so.plan.files) (λ x y z same all. has_all_from so.plan.files x y z same all) folder_same well.folder;
    console = tells_through before.console so.ran.console after.console (λ (was is : ConsoleView). is.written ≡ was.written)
        (λ (was is : ConsoleView). (is.lines ≡ was.lines) × (is.written ≡ was.written ++ so.plan.text ++ closing_line so.plan.ending))
        (λ (was is : ConsoleView). is.written ≡ was.written ++ so.plan.text ++ closing_line so.plan.ending)
        (λ x y z same got. got.1 ∙ ap (λ (xs : List ℕ). xs ++ so.plan.text ++ closing_line so.plan.ending) same) written_same well.console;
    status_is = well.status_is;
  }

  -- the meaning by the status alone
  meant_at : (made : Plan) → Comes command before read world tables made → IsTold command tables → (status_of made.ending ≡ 7 → ⊥) → (status_of made.ending ≡ 6 → ⊥) → (status_of made.ending ≡ 8 → ⊥) → MeansCommand command world tables made
  meant_at made (meant one same is) told seven six room = is
  meant_at made (unread one word path rose un) told seven six room = absurd (six refl)
  meant_at made (store_unread query word same un) told seven six room = absurd (seven refl)
  meant_at made (untold query one word none may same un) told seven six room = absurd (not_told_in command query tables word none told)
  meant_at made (lacks_memory same aside) told seven six room = absurd (room refl)

  -- a status that tells of no fault and of no lack of memory is the planned one
  pub planned_status : Ends so.plan.ending so.ran.faults.put after.faults.put so.ran.faults.write after.faults.write status → (status ≡ 5 → ⊥) → (status ≡ 6 → ⊥) → (status ≡ 8 → ⊥) → status ≡ status_of so.plan.ending
  planned_status (as_planned at) five six eight = at
  planned_status (by_planned_console store at rose) five six eight = absurd (five at)
  planned_status (by_planned_folder store at rose) five six eight = absurd (six at)
  planned_status (lacked_memory at) five six eight = absurd (eight at)

  pub no_store_planned : status ≡ status_of so.plan.ending → (status ≡ 7 → ⊥) → (status ≡ 10 → ⊥) → (status ≡ 13 → ⊥) → tells_of_store so.plan.ending ≡ false
  no_store_planned at seven ten full = no_store so.plan.ending (λ e. seven (at ∙ e)) (λ e. ten (at ∙ e)) (λ e. full (at ∙ e))

  pub as_meant_so : IsTold command tables → (status ≡ 6 → ⊥) → (status ≡ 7 → ⊥) → (status ≡ 8 → ⊥) → (status ≡ 10 → ⊥) → (status ≡ 13 → ⊥)
      → DidAsPlanned so.plan.ending so.plan.text so.plan.files so.ran.faults.put after.faults.put so.ran.folder after.folder so.ran.console after.console status
      → DoesAsMeant command world tables so.plan before after status
  as_meant_so told six seven room other full did = record {
    means =
        let same : so.plans.made ≡ so.plan = made_is (inr (λ at. seven (did.status_is ∙ at))) (λ at. room (did.status_is ∙ at)) (λ at. other (did.status_is ∙ at)) (λ at. full (did.status_is ∙ at)) in
        let of : status_of so.plan.ending ≡ status_of so.plans.made.ending = ap (λ (p : Plan). status_of p.ending) (sym same) in
        subst (λ (p : Plan). MeansCommand command world tables p) same (meant_at so.plans.made prepares.comes told (λ at. seven (did.status_is ∙ of ∙ at)) (λ at. six (did.status_is ∙ of ∙ at)) (λ at. room (did.status_is ∙ of ∙ at)));
    folder = tells_through before.folder so.ran.folder after.folder (λ (was is : Files). is ≡ was) (HasAll so.plan.files) (HasAll so.plan.files) (λ x y z same all. has_all_from so.plan.files x y z same all) folder_same did.folder;
    console = tells_through before.console so.ran.console after.console (λ (was is : ConsoleView). is.written ≡ was.written)
        (λ (was is : ConsoleView). (is.lines ≡ was.lines) × ((n : ℕ) × (is.written ≡ was.written ++ so.plan.text ++ take n (closing_line so.plan.ending))))
        (λ (was is : ConsoleView). (n : ℕ) × (is.written ≡ was.written ++ so.plan.text ++ take n (closing_line so.plan.ending)))
        (λ x y z same got. (got.1.0, got.1.1 ∙ ap (λ (xs : List ℕ). xs ++ so.plan.text ++ take got.1.0 (closing_line so.plan.ending)) same)) written_same did.console;
    status_is = did.status_is;
  }

  -- ---- the console in any case

  from_before : (x y z : ConsoleView) → y.written ≡ x.written
      → (z.lines ≡ y.lines) × GetsPrefixes so.plan.text so.ran.faults.write after.faults.write status y.written z.written
      → GetsPrefixes so.plan.text before.faults.write after.faults.write status x.written z.written
  from_before x y z same got = subst (λ (xs : List ℕ). GetsPrefixes so.plan.text before.faults.write after.faults.write status xs z.written) same
      (subst (λ (n : ℕ). GetsPrefixes so.plan.text n after.faults.write status y.written z.written) write_same got.1)

  pub writes_so : Tells so.ran.console after.console (λ (was is : ConsoleView). (is.lines ≡ was.lines) × GetsPrefixes so.plan.text so.ran.faults.write after.faults.write status was.written is.written)
      → WritesPrefixes so.plan.text status before after
  writes_so got = tells_through before.console so.ran.console after.console (λ (was is : ConsoleView). is.written ≡ was.written)
      (λ (was is : ConsoleView). (is.lines ≡ was.lines) × GetsPrefixes so.plan.text so.ran.faults.write after.faults.write status was.written is.written)
      (λ (was is : ConsoleView). GetsPrefixes so.plan.text before.faults.write after.faults.write status was.written is.written) from_before written_same got

  -- ---- answers

  -- a text alone was written
  text_alone : so.plan.ending ≡ done → Tells so.ran.console after.console (λ (was is : ConsoleView). (is.lines ≡ was.lines) × (is.written ≡ was.written ++ so.plan.text ++ closing_line so.plan.ending))
      → Tells before.console after.console (λ (was is : ConsoleView). is.written ≡ was.written ++ so.plan.text)
  text_alone is got = tells_through before.console so.ran.console after.console (λ (was now : ConsoleView). now.written ≡ was.written)
      (λ (was now : ConsoleView). (now.lines ≡ was.lines) × (now.written ≡ was.written ++ so.plan.text ++ closing_line so.plan.ending))
      (λ (was now : ConsoleView). now.written ≡ was.written ++ so.plan.text)
      (λ x y z same all. only_text x.written y.written z.written so.plan.text so.plan.ending is same all.1) written_same got

  pub answers_so : (answers : Trial → List ℕ → Type 0) (number : ℕ) (told : TablesView) → HasAnswer answers told number so.plan.text → so.plan.ending ≡ done
      → Tells so.ran.console after.console (λ (was is : ConsoleView). (is.lines ≡ was.lines) × (is.written ≡ was.written ++ so.plan.text ++ closing_line so.plan.ending))
      → WritesAnswer answers number told before after
  answers_so answers number told has is got = record { text = so.plan.text; answer = has; console = text_alone is got }

  pub slices_so : (of : Evaluation) (told : TablesView) → Reply (Slice of) told so.plan → so.plan.ending ≡ done
      → Tells so.ran.console after.console (λ (was is : ConsoleView). (is.lines ≡ was.lines) × (is.written ≡ was.written ++ so.plan.text ++ closing_line so.plan.ending))
      → WritesSlice of told before after
  slices_so of told reply is got = record {
    text = so.plan.text;
    is_slice = reply_slices of told so.plan reply is;
    console = text_alone is got;
  }

  -- ---- the store

  -- the parts of a run that is kept, by its command
  abbrev steps_in : Command → ℕ
  steps_in (run_bare steps file arguments) = steps
  steps_in (run_kept steps file arguments) = steps
  steps_in (reads query) = 0
  steps_in (restores number) = 0

  abbrev arguments_in : Command → List (List ℕ)
  arguments_in (run_bare steps file arguments) = arguments
  arguments_in (run_kept steps file arguments) = arguments
  arguments_in (reads query) = []
  arguments_in (restores number) = []

  -- a command that keeps its run kept it, where the status is that of a run
  keeps_by : (made delivered : Plan) (began : Telling) (clock : Clock) (steps : ℕ) (file : List ℕ) (arguments : List (List ℕ)) → command ≡ Some (run_kept steps file arguments) → Keeps command world began clock made was is delivered
      → (status_of delivered.ending ≡ 0) ⊎ ((status_of delivered.ending ≡ 1) ⊎ (status_of delivered.ending ≡ 9)) → KeepsOne file steps arguments world began clock made was is
  keeps_by made delivered began clock steps file arguments word (no_run (inl none) aside still) at = absurd (false≢true (sym none ∙ ap (λ (c : Option Command). keeps c) word))
  keeps_by made delivered began clock steps file arguments word (no_run (inr none) aside still) at = absurd (false≢true (sym none ∙ run_at made.ending at))
  keeps_by made delivered began clock steps file arguments word (a_reading query other read_so) at = absurd (no_run_read query steps file arguments (sym other ∙ word))
  keeps_by made delivered began clock steps file arguments word (a_run steps' file' arguments' word' run of (Ok number) kept) at =
      let same : run_kept steps' file' arguments' ≡ run_kept steps file arguments = same_Some _ _ (sym word' ∙ word) in
      record {
        run = run;
        of = subst (λ (c : Command). KeepsRun (file_of c) (steps_in c) (arguments_in c) world began clock made run) same of;
        tables = tells_as was.told is.told (KeepsTrial run (Ok number)) (λ (old new : KeeperView). HasRoom old.committed × (with_trial_of run old.committed ≡ put new.committed)) (λ old new all. (all.0.0, all.1.0)) kept.keeps;
      }
  keeps_by made delivered began clock steps file arguments word (a_run steps' file' arguments' word' run of (Err Memory) kept) at = absurd (none_of 8 (λ e. omega (arith, e)) (λ e. omega (arith, e)) (λ e. omega (arith, e)) at)
  keeps_by made delivered began clock steps file arguments word (a_run steps' file' arguments' word' run of (Err Keeper) kept) at = absurd (none_of 7 (λ e. omega (arith, e)) (λ e. omega (arith, e)) (λ e. omega (arith, e)) at)
  keeps_by made delivered began clock steps file arguments word (a_run steps' file' arguments' word' run of (Err (Collision digest there given)) kept) at = absurd (none_of 10 (λ e. omega (arith, e)) (λ e. omega (arith, e)) (λ e. omega (arith, e)) at)
  keeps_by made delivered began clock steps file arguments word (a_run steps' file' arguments' word' run of (Err Full) kept) at = absurd (none_of 13 (λ e. omega (arith, e)) (λ e. omega (arith, e)) (λ e. omega (arith, e)) at)
  keeps_by made delivered began clock steps file arguments word (a_run steps' file' arguments' word' run of (Err (NoTrial number)) kept) at = absurd kept.of_keeping
  keeps_by made delivered began clock steps file arguments word (a_run steps' file' arguments' word' run of (Err (Damaged number damage)) kept) at = absurd kept.of_keeping

  pub keeps_so : (steps : ℕ) (file : List ℕ) (arguments : List (List ℕ)) → command ≡ Some (run_kept steps file arguments) → (status_of so.plan.ending ≡ 0) ⊎ ((status_of so.plan.ending ≡ 1) ⊎ (status_of so.plan.ending ≡ 9))
      → KeepsOne file steps arguments world prepares.began prepares.clock so.plans.made was is
  keeps_so steps file arguments word at = keeps_by so.plans.made so.plan prepares.began prepares.clock steps file arguments word so.plans.keeps at

  -- the tables stay where the trial was not kept
  stays_by_fault : (run : Run) (fault : TrialFault) → IsOfKeeping fault → Tells was.told is.told (KeepsTrial run (Err fault)) → Tells was.told is.told (λ (old new : KeeperView). new ≡ old)
  stays_by_fault run (Collision digest there given) of tells = tells_as was.told is.told (KeepsTrial run (Err (Collision digest there given))) (λ (old new : KeeperView). new ≡ old) (λ old new all. all.1) tells
  stays_by_fault run Full of tells = tells_as was.told is.told (KeepsTrial run (Err Full)) (λ (old new : KeeperView). new ≡ old) (λ old new all. all.1) tells
  stays_by_fault run Keeper of tells = tells
  stays_by_fault run Memory of tells = tells
  stays_by_fault run (NoTrial number) of tells = absurd of
  stays_by_fault run (Damaged number damage) of tells = absurd of

  -- a fault in keeping is told in place of how the run ended
  no_run_told : (fault : TrialFault) (made : Plan) → ends_a_run (with_keeping (Err fault) made).ending ≡ false
  no_run_told (Collision digest there given) made = refl
  no_run_told Full made = refl
  no_run_told Keeper made = refl
  no_run_told Memory made = refl
  no_run_told (NoTrial number) made = refl
  no_run_told (Damaged number damage) made = refl

  kept_or_not : (made delivered : Plan) (began : Telling) (clock : Clock) (steps : ℕ) (file : List ℕ) (arguments : List (List ℕ)) → command ≡ Some (run_kept steps file arguments) → Keeps command world began clock made was is delivered
      → (KeepsOne file steps arguments world began clock made was is × (ends_a_run delivered.ending ≡ true)) ⊎ (Tells was.told is.told (λ (old new : KeeperView). new ≡ old) × (ends_a_run delivered.ending ≡ false))
  kept_or_not made delivered began clock steps file arguments word (no_run (inl none) aside still) = absurd (false≢true (sym none ∙ ap (λ (c : Option Command). keeps c) word))
  kept_or_not made delivered began clock steps file arguments word (no_run (inr none) aside still) = inr (told_alike was.told is.told still.told, none)
  kept_or_not made delivered began clock steps file arguments word (a_reading query other read_so) = absurd (no_run_read query steps file arguments (sym other ∙ word))
  kept_or_not made delivered began clock steps file arguments word (a_run steps' file' arguments' word' run of (Ok number) kept) =
      let same : run_kept steps' file' arguments' ≡ run_kept steps file arguments = same_Some _ _ (sym word' ∙ word) in
      inl (
        record {
          run = run;
          of = subst (λ (c : Command). KeepsRun (file_of c) (steps_in c) (arguments_in c) world began clock made run) same of;
          tables = tells_as was.told is.told (KeepsTrial run (Ok number)) (λ (old new : KeeperView). HasRoom old.committed × (with_trial_of run old.committed ≡ put new.committed)) (λ old new all. (all.0.0, all.1.0)) kept.keeps;
        },
        ap (λ (p : Plan). ends_a_run p.ending) of.made_is ∙ run_told of.it.ended.end,
      )
  kept_or_not made delivered began clock steps file arguments word (a_run steps' file' arguments' word' run of (Err fault) kept) =
      inr (stays_by_fault run fault kept.of_keeping kept.keeps, no_run_told fault made)

  pub keeps_or_leaves_so : (steps : ℕ) (file : List ℕ) (arguments : List (List ℕ)) → command ≡ Some (run_kept steps file arguments)
      → (KeepsOne file steps arguments world prepares.began prepares.clock so.plans.made was is × (ends_a_run so.plan.ending ≡ true)) ⊎ (Tells was.told is.told (λ (old new : KeeperView). new ≡ old) × (ends_a_run so.plan.ending ≡ false))
  keeps_or_leaves_so steps file arguments word = kept_or_not so.plans.made so.plan prepares.began prepares.clock steps file arguments word so.plans.keeps

  untouched_by : (made delivered : Plan) (began : Telling) (clock : Clock) → keeps command ≡ false → reads_store command ≡ false → Keeps command world began clock made was is delivered → IsUntouched was is
  untouched_by made delivered began clock none blind (no_run other aside still) = still
  untouched_by made delivered began clock none blind (a_reading query word read_so) = absurd (false≢true (sym blind ∙ ap (λ (c : Option Command). reads_store c) word))
  untouched_by made delivered began clock none blind (a_run steps file arguments word run of number kept) = absurd (false≢true (sym none ∙ ap (λ (c : Option Command). keeps c) word))

  pub untouched_so : keeps command ≡ false → reads_store command ≡ false → IsUntouched was is
  untouched_so none blind = untouched_by so.plans.made so.plan prepares.began prepares.clock none blind so.plans.keeps

  tables_by : (made delivered : Plan) (began : Telling) (clock : Clock) → keeps command ≡ false → Keeps command world began clock made was is delivered → Tells was.told is.told (λ (old new : KeeperView). new ≡ old)
  tables_by made delivered began clock none (no_run other aside still) = told_alike was.told is.told still.told
  tables_by made delivered began clock none (a_reading query word read_so) = read_so.told
  tables_by made delivered began clock none (a_run steps file arguments word run of number kept) = absurd (false≢true (sym none ∙ ap (λ (c : Option Command). keeps c) word))

  pub tables_stay : keeps command ≡ false → Tells was.told is.told (λ (old new : KeeperView). new ≡ old)
  tables_stay none = tables_by so.plans.made so.plan prepares.began prepares.clock none so.plans.keeps

  -- ---- questions

  -- what is planned of a question to a store that tells: its reply, or a fault of the store, or that memory ran out
  abbrev IsPlanned : Query → TablesView → Plan → Type 0
  IsPlanned query told plan = Reply query told plan ⊎ ((plan ≡ closing store_failed) ⊎ (plan ≡ closing out_of_memory))

  planned_by : (query : Query) (told : TablesView) (made : Plan) → command ≡ Some (reads query) → tables ≡ Some told → Comes command before read world tables made → IsPlanned query told made
  planned_by query told made word is_told (meant one same is) =
      let means : MeansCommand (Some (reads query)) world (Some told) one = subst (λ (t : Option TablesView). MeansCommand (Some (reads query)) world t one) is_told (subst (λ (c : Option Command). MeansCommand c world tables one) word is) in
      inl means.1
  planned_by query told made word is_told (unread one other path rose un) = absurd (no_file query one (sym other ∙ word) path)
  planned_by query told made word is_told (store_unread one other same un) = inr (inl refl)
  planned_by query told made word is_told (untold one plan other none may same un) = absurd (none_told told (sym none ∙ is_told))
  planned_by query told made word is_told (lacks_memory same aside) = inr (inr refl)

  -- a question's plan stays as it was made
  pub same_plan : (query : Query) (made delivered : Plan) (began : Telling) (clock : Clock) → command ≡ Some (reads query) → Keeps command world began clock made was is delivered → made ≡ delivered
  same_plan query made delivered began clock word (no_run other aside still) = refl
  same_plan query made delivered began clock word (a_reading one other read_so) = refl
  same_plan query made delivered began clock word (a_run steps file arguments other run of number kept) = absurd (no_run_read query steps file arguments (sym word ∙ other))

  planned_so : (query : Query) (told : TablesView) → command ≡ Some (reads query) → tables ≡ Some told → IsPlanned query told so.plan
  planned_so query told word is_told = subst (λ (p : Plan). IsPlanned query told p) (same_plan query so.plans.made so.plan prepares.began prepares.clock word so.plans.keeps)
      (planned_by query told so.plans.made word is_told prepares.comes)

  replied_by : (query : Query) (told : TablesView) → IsPlanned query told so.plan → (status_of so.plan.ending ≡ 7 → ⊥) → (status_of so.plan.ending ≡ 8 → ⊥) → Reply query told so.plan
  replied_by query told (inl reply) seven room = reply
  replied_by query told (inr (inl failed)) seven room = absurd (seven (ap (λ (p : Plan). status_of p.ending) failed))
  replied_by query told (inr (inr lacks)) seven room = absurd (room (ap (λ (p : Plan). status_of p.ending) lacks))

  -- with a status that tells of no fault the reply is planned
  pub reply_so : (query : Query) (told : TablesView) → command ≡ Some (reads query) → tables ≡ Some told
      → Ends so.plan.ending so.ran.faults.put after.faults.put so.ran.faults.write after.faults.write status → (status ≡ 5 → ⊥) → (status ≡ 6 → ⊥) → (status ≡ 7 → ⊥) → (status ≡ 8 → ⊥) → Reply query told so.plan
  reply_so query told word is_told ends five six seven room =
      let at : status ≡ status_of so.plan.ending = planned_status ends five six room in
      replied_by query told (planned_so query told word is_told) (λ e. seven (at ∙ e)) (λ e. room (at ∙ e))

  pub fine_so : (query : Query) (told : TablesView) → Reply query told so.plan → tells_of_store so.plan.ending ≡ false
  fine_so query told reply = reply_is_fine query told so.plan reply

  pub replies_so : (query : Query) (told : TablesView) → command ≡ Some (reads query) → Reply query told so.plan
      → DidAsPlanned so.plan.ending so.plan.text so.plan.files so.ran.faults.put after.faults.put so.ran.folder after.folder so.ran.console after.console status
      → ((Rose so.ran.faults.put after.faults.put → ⊥) → (Rose so.ran.faults.write after.faults.write → ⊥)
      → WentWell so.plan.ending so.plan.text so.plan.files so.ran.faults.put after.faults.put so.ran.folder after.folder so.ran.faults.write after.faults.write so.ran.console after.console status)
      → RepliesBy query told before after was is status
  replies_so query told word reply did well = record {
    plan = so.plan;
    is_reply = reply;
    status_is = did.status_is;
    console = tells_through before.console so.ran.console after.console (λ (was is : ConsoleView). is.written ≡ was.written)
        (λ (was is : ConsoleView). (is.lines ≡ was.lines) × ((n : ℕ) × (is.written ≡ was.written ++ so.plan.text ++ take n (closing_line so.plan.ending))))
        (λ (was is : ConsoleView). (n : ℕ) × (is.written ≡ was.written ++ so.plan.text ++ take n (closing_line so.plan.ending)))
        (λ x y z same got. (got.1.0, got.1.1 ∙ ap (λ (xs : List ℕ). xs ++ so.plan.text ++ take got.1.0 (closing_line so.plan.ending)) same)) written_same did.console;
    whole = λ no_put no_write. tells_through before.console so.ran.console after.console (λ (was is : ConsoleView). is.written ≡ was.written)
        (λ (was is : ConsoleView). (is.lines ≡ was.lines) × (is.written ≡ was.written ++ so.plan.text ++ closing_line so.plan.ending))
        (λ (was is : ConsoleView). is.written ≡ was.written ++ so.plan.text ++ closing_line so.plan.ending)
        (λ x y z same got. got.1 ∙ ap (λ (xs : List ℕ). xs ++ so.plan.text ++ closing_line so.plan.ending) same) written_same
        (well (λ rose. no_put (put_rose rose)) (λ rose. no_write (write_rose rose))).console;
    store = tables_stay (ap (λ (c : Option Command). keeps c) word);
  }

  -- without a fault of the console, a put or the store the status is that of the reply, or 8
  ends_by : (query : Query) (told : TablesView) (plan : Plan) → ((one other : Plan) → Reply query told one → Reply query told other → one ≡ other) → Reply query told plan → IsPlanned query told so.plan → (so.plan ≡ closing store_failed → Rose was.faults is.faults)
      → Ends so.plan.ending so.ran.faults.put after.faults.put so.ran.faults.write after.faults.write status
      → (Rose before.faults.put after.faults.put → ⊥) → (Rose before.faults.write after.faults.write → ⊥) → (Rose was.faults is.faults → ⊥) → (status ≡ status_of plan.ending) ⊎ (status ≡ 8)
  ends_by query told plan one_reply reply planned fails (by_planned_console store at rose) no_put no_write still = absurd (no_write (write_rose rose))
  ends_by query told plan one_reply reply planned fails (by_planned_folder store at rose) no_put no_write still = absurd (no_put (put_rose rose))
  ends_by query told plan one_reply reply planned fails (lacked_memory at) no_put no_write still = inr at
  ends_by query told plan one_reply reply (inl is_reply) fails (as_planned at) no_put no_write still = inl (at ∙ ap (λ (p : Plan). status_of p.ending) (one_reply so.plan plan is_reply reply))
  ends_by query told plan one_reply reply (inr (inl failed)) fails (as_planned at) no_put no_write still = absurd (still (fails failed))
  ends_by query told plan one_reply reply (inr (inr lacks)) fails (as_planned at) no_put no_write still = inr (at ∙ ap (λ (p : Plan). status_of p.ending) lacks)

  pub ends_so : (query : Query) (told : TablesView) (plan : Plan) → ((one other : Plan) → Reply query told one → Reply query told other → one ≡ other) → command ≡ Some (reads query) → tables ≡ Some told → Reply query told plan
      → Ends so.plan.ending so.ran.faults.put after.faults.put so.ran.faults.write after.faults.write status
      → (Rose before.faults.put after.faults.put → ⊥) → (Rose before.faults.write after.faults.write → ⊥) → (Rose was.faults is.faults → ⊥) → (status ≡ status_of plan.ending) ⊎ (status ≡ 8)
  ends_so query told plan one_reply word is_told reply ends no_put no_write still = ends_by query told plan one_reply reply (planned_so query told word is_told)
      (λ failed. store_rose so.plans.made so.plan prepares.began prepares.clock so.plans.keeps query word (same_plan query so.plans.made so.plan prepares.began prepares.clock word so.plans.keeps ∙ failed)) ends no_put no_write still

  -- such a status is the planned one
  pub leaving_status : Ends so.plan.ending so.ran.faults.put after.faults.put so.ran.faults.write after.faults.write status → leaves_tables status ≡ true → leaves_tables (status_of so.plan.ending) ≡ true
  leaving_status ends at =
      subst (λ (s : ℕ). leaves_tables s ≡ true)
      (planned_status ends (λ is. false≢true (ap leaves_tables (sym is) ∙ at)) (λ is. false≢true (ap leaves_tables (sym is) ∙ at)) (λ is. false≢true (ap leaves_tables (sym is) ∙ at))) at

  -- a status of a run is the planned one
  pub run_status : Ends so.plan.ending so.ran.faults.put after.faults.put so.ran.faults.write after.faults.write status → (status ≡ 0) ⊎ ((status ≡ 1) ⊎ (status ≡ 9))
      → (status_of so.plan.ending ≡ 0) ⊎ ((status_of so.plan.ending ≡ 1) ⊎ (status_of so.plan.ending ≡ 9))
  run_status ends at =
      let apart : (n : ℕ) → (n ≡ 0 → ⊥) → (n ≡ 1 → ⊥) → (n ≡ 9 → ⊥) → status ≡ n → ⊥ = λ n zero one nine is.
      none_of n zero one nine (subst (λ (s : ℕ). (s ≡ 0) ⊎ ((s ≡ 1) ⊎ (s ≡ 9))) is at) in
      let same : status ≡ status_of so.plan.ending = planned_status ends
      (apart 5 (λ e. omega (arith, e)) (λ e. omega (arith, e)) (λ e. omega (arith, e)))
      (apart 6 (λ e. omega (arith, e)) (λ e. omega (arith, e)) (λ e. omega (arith, e)))
      (apart 8 (λ e. omega (arith, e)) (λ e. omega (arith, e)) (λ e. omega (arith, e))) in
      subst (λ (s : ℕ). (s ≡ 0) ⊎ ((s ≡ 1) ⊎ (s ≡ 9))) same at
