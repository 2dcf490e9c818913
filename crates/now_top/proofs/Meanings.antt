-- A run over devices is what its command means.
use Rattle.std.proofs.Common.{true, false, ◌↔◌, ◌≡◌, refl, sym, ap, subst, ◌∙◌, ℕ, List, [], ◌∷◌, map, ◌⊎◌, inl, inr, Option, Some, None, is_some, Ok, Err}
use Rattle.std.specs.Option.{option_map}
use Rattle.answer_source.proofs.Fitting.{own_fits}
use Rattle.answer_source.proofs.Replaying.{found_exactly}
use Rattle.answer_source.specs.Live.{asking_seen, kept_seen, file_seen, capture_of, has_file}
use Rattle.answer_source.specs.Sources.{found_seen}
use Rattle.capture.specs.Capture.{CaptureView}
use Rattle.capture.specs.Files.{file_at}
use Rattle.capture.specs.declared.answer.Asked.{Asked}
use Rattle.capture.specs.declared.ended.Ended.{Ended as EndedRun}
use Rattle.capture.specs.declared.ended.RunEnd.{RunEnd as EndTold}
use Rattle.capture.specs.declared.ended.RunEnd.TheVariants.{Finished, Raised, Spent}
use Rattle.delivery.specs.Ending.{Ending, uncaught, refused, out_of_memory, done, usage, nothing_there, console_failed, folder_failed, out_of_steps, not_reached, store_failed, collision, store_full, damaged_trial}
use Rattle.prov_base.specs.declared.refusal.Memory.{Memory}
use Rattle.prov_outside.specs.declared.folder.Found.{Found as FoundThere}
use Rattle.op_state.specs.Uncaught.{class_raised, text_raised}
use Rattle.py_model.specs.Act.{How, normal, broke, continued, returned, threw}
use Rattle.py_model.specs.Capture.{Telling, found_in}
use Rattle.py_model.specs.Meaning.{RunEnd, finished, uncaught as uncaught_at, out_of_steps as out_of_steps_at, unanswered_run, meaning, starting}
use Rattle.py_model.specs.Running.{State, Ended, over, spent, lacking, outcome}
use Rattle.py_model.specs.Store.{RunStore}
use Rattle.py_tree.specs.Tree.{ScriptTree}
use Rattle.run_engine.specs.Bare.{EndsAs, IsEnded, RunsBare, nothing_kept}
use Rattle.py_parser.specs.Reading.{HasScript}
use Rattle.now_top.specs.World.{Plan, closing}
use Rattle.now_top.specs.Reading.{IsRefusedAs}
use Rattle.now_top.specs.RunCommand.{ending_in, asking_of, IsRunOf, RunsText, no_script, runs}
use Rattle.now_top.specs.Planned.{ending_told, plan_of_run}
use Rattle.now_top.specs.Running.{RunsOver}
use Rattle.now_top.specs.Seen.{Seen, told_by}
use Rattle.now_top.specs.Kept.{ends_a_run, not_asked, begun, over as over_clock, Stored, IsUntouched, KeepsIn, no_run, a_run}
use Rattle.now_top.specs.KeepingRun.{KeepsText}
use Rattle.keeper.specs.Tables.{TablesView}
use Rattle.prov_outside.specs.Tells.{Tells}
use Rattle.trial_keeping.specs.Keeping.{StopLeaves}
use Rattle.now_top.specs.Unkept.{with_keeping}
use Rattle.recorded_runs.specs.KeptRun.{TimesRun, run_in}
use Rattle.recorded_runs.specs.RecordedRun.{with_capture}
use Rattle.recorded_runs.specs.declared.keeping.KeptRun.{KeptRun}

abbrev object_in : RunEnd → ℕ
object_in (uncaught_at o line) = o
object_in finished = 0
object_in out_of_steps_at = 0
object_in unanswered_run = 0

abbrev line_in : RunEnd → ℕ
line_in (uncaught_at o line) = line
line_in finished = 0
line_in out_of_steps_at = 0
line_in unanswered_run = 0

-- an exception that nothing caught, as the end of the run and as what is told of it
raised : (store : RunStore) (o line told at : ℕ) (class : List ℕ) (text : Option (List ℕ)) → uncaught_at o line ≡ uncaught_at told at → class_raised store told ≡ class → text_raised store told ≡ text
    → Some (uncaught (class_raised store o) line (text_raised store o)) ≡ Some (uncaught class at text)
raised store o line told at class text same is_class is_text = ap Some (ap (λ c. uncaught c line (text_raised store o)) (ap (class_raised store) (ap object_in same) ∙ is_class)
    ∙ (ap (λ n. uncaught class n (text_raised store o)) (ap line_in same) ∙ ap (uncaught class at) (ap (text_raised store) (ap object_in same) ∙ is_text)))

-- ends that are not the same
end_not_raised : (o line : ℕ) → finished ≡ uncaught_at o line → ⊥
end_not_raised o line is = cc

spent_not_raised : (o line : ℕ) → out_of_steps_at ≡ uncaught_at o line → ⊥
spent_not_raised o line is = cc

lacking_not_raised : (o line : ℕ) → unanswered_run ≡ uncaught_at o line → ⊥
lacking_not_raised o line is = cc

by_how : (how : How) (s : State) (end : EndTold) → EndsAs (over how s) end → ending_in (over how s) ≡ Some (ending_told end)
by_how (threw o line) s (Raised class at text) so = raised s.store o line so.0 at class text so.1.0 so.1.1.0 so.1.1.1
by_how (threw o line) s Finished so = cc
by_how (threw o line) s Spent so = cc
by_how normal s Finished so = refl
by_how normal s (Raised class at text) so = absurd (end_not_raised so.0 at so.1.0)
by_how normal s Spent so = cc
by_how broke s Finished so = refl
by_how broke s (Raised class at text) so = absurd (end_not_raised so.0 at so.1.0)
by_how broke s Spent so = cc
by_how continued s Finished so = refl
by_how continued s (Raised class at text) so = absurd (end_not_raised so.0 at so.1.0)
by_how continued s Spent so = cc
by_how (returned v) s Finished so = refl
by_how (returned v) s (Raised class at text) so = absurd (end_not_raised so.0 at so.1.0)
by_how (returned v) s Spent so = cc

ends_as : (e : Ended) (end : EndTold) → EndsAs e end → ending_in e ≡ Some (ending_told end)
ends_as (over how s) end so = by_how how s end so
ends_as (spent s) Spent so = refl
ends_as (spent s) Finished so = cc
ends_as (spent s) (Raised class at text) so = absurd (spent_not_raised so.0 at so.1.0)
ends_as (lacking s) Spent so = cc
ends_as (lacking s) Finished so = cc
ends_as (lacking s) (Raised class at text) so = absurd (lacking_not_raised so.0 at so.1.0)

askings_as : (answers : List Asked) → map asking_seen answers ≡ map asking_of (map kept_seen answers)
askings_as [] = refl
askings_as (asked ∷ answers) = ap (λ rest. asking_seen asked ∷ rest) (askings_as answers)

files_as : (view : CaptureView) (path : List ℕ) → has_file view path ≡ is_some (found_in (map file_seen view.files) path)
files_as view path = some_as (file_at view.files path) ∙ ap is_some (sym (found_exactly view.files path))
  where
    some_as : (found : Option FoundThere) → is_some found ≡ is_some (option_map found_seen found)
    some_as None = refl
    some_as (Some found) = refl

is_run : (script : ScriptTree) (file : List ℕ) (arguments : List (List ℕ)) (steps : ℕ) (ended : EndedRun) (now : Telling) → IsEnded script file arguments steps (capture_of ended.capture now) ended
    → IsRunOf script file arguments steps (capture_of ended.capture now) (plan_of_run ended)
is_run script file arguments steps ended now is = record {
  ending = ends_as (outcome (capture_of ended.capture now) (meaning script steps) (starting (capture_of ended.capture now) file arguments steps)) ended.end is.end_is;
  text = is.output_is;
  files = is.finals_are;
  asked = is.asked_are ∙ askings_as ended.capture.answers;
  fetched = λ path. is.fetched_are path ∙ files_as ended.capture path;
}

-- the run of the script that FILE has
pub ran : (file text : List ℕ) (steps : ℕ) (arguments : List (List ℕ)) (read after : Seen) (script : ScriptTree) → HasScript text script → (ended : EndedRun) → RunsBare script file arguments steps (told_by read) (told_by after) (Ok ended)
    → RunsOver file text steps arguments read after (plan_of_run ended)
ran file text steps arguments read after script has ended so = record {
  capture = capture_of ended.capture (told_by after);
  gave = so.0;
  ends = refl;
  comes = inl (runs script has (plan_of_run ended) (is_run script file arguments steps ended (told_by after) so.1));
}

-- memory ran out in it
pub ran_short : (file text : List ℕ) (steps : ℕ) (arguments : List (List ℕ)) (read after : Seen) (script : ScriptTree) (want : Memory) → RunsBare script file arguments steps (told_by read) (told_by after) (Err want)
    → RunsOver file text steps arguments read after (closing out_of_memory)
ran_short file text steps arguments read after script want so = record { capture = capture_of so.0 (told_by after); gave = so.1; ends = refl; comes = inr refl }

-- the text has no script, or memory ran out for it
not_run_so : (file text : List ℕ) (steps : ℕ) (arguments : List (List ℕ)) (read : Seen) (ending : Ending) → IsRefusedAs file text ending
    → RunsText file text steps arguments (capture_of nothing_kept (told_by read)) (closing ending) ⊎ (closing ending ≡ closing out_of_memory)
not_run_so file text steps arguments read (refused name line column) so = inl (subst (λ e. RunsText file text steps arguments (capture_of nothing_kept (told_by read)) (closing e)) (sym so.2) (no_script so.0 so.1 (record { answers = refl; files = refl })))
not_run_so file text steps arguments read out_of_memory so = inr refl
not_run_so file text steps arguments read done so = absurd so
not_run_so file text steps arguments read usage so = absurd so
not_run_so file text steps arguments read nothing_there so = absurd so
not_run_so file text steps arguments read console_failed so = absurd so
not_run_so file text steps arguments read out_of_steps so = absurd so
not_run_so file text steps arguments read not_reached so = absurd so
not_run_so file text steps arguments read store_failed so = absurd so
not_run_so file text steps arguments read (collision digest kept given) so = absurd so
not_run_so file text steps arguments read store_full so = absurd so
not_run_so file text steps arguments read (damaged_trial trial detail) so = absurd so
not_run_so file text steps arguments read (folder_failed path) so = absurd so
not_run_so file text steps arguments read (uncaught class line words) so = absurd so

pub not_run : (file text : List ℕ) (steps : ℕ) (arguments : List (List ℕ)) (read : Seen) (ending : Ending) → IsRefusedAs file text ending → RunsOver file text steps arguments read read (closing ending)
not_run file text steps arguments read ending so = record {
  capture = capture_of nothing_kept (told_by read);
  gave = own_fits nothing_kept (told_by read) tt;
  ends = refl;
  comes = not_run_so file text steps arguments read ending so;
}

-- ---- the same where the run is to be kept

no_run_refused : (file text : List ℕ) (ending : Ending) → IsRefusedAs file text ending → ends_a_run ending ≡ false
no_run_refused file text (refused name line column) so = refl
no_run_refused file text out_of_memory so = refl
no_run_refused file text done so = absurd so
no_run_refused file text usage so = absurd so
no_run_refused file text nothing_there so = absurd so
no_run_refused file text console_failed so = absurd so
no_run_refused file text out_of_steps so = absurd so
no_run_refused file text not_reached so = absurd so
no_run_refused file text store_failed so = absurd so
no_run_refused file text (collision digest kept given) so = absurd so
no_run_refused file text store_full so = absurd so
no_run_refused file text (damaged_trial trial detail) so = absurd so
no_run_refused file text (folder_failed path) so = absurd so
no_run_refused file text (uncaught class line words) so = absurd so

pub not_kept : (file text : List ℕ) (steps : ℕ) (arguments : List (List ℕ)) (read : Seen) (store : Stored) (may : TablesView → Type 0) (ending : Ending) → IsRefusedAs file text ending
    → KeepsText file text steps arguments read read store store may may (closing ending)
not_kept file text steps arguments read store may ending so = λ files stands. record {
  made = closing ending;
  capture = capture_of nothing_kept (told_by read);
  began = told_by read;
  clock = (None, None);
  asked = not_asked (inr (no_run_refused file text ending so));
  starts = refl;
  gave = own_fits nothing_kept (told_by read) tt;
  ends = refl;
  comes = not_run_so file text steps arguments read ending so;
  keeps = no_run (inr (no_run_refused file text ending so)) (inl refl) (record { told = refl; faults = refl });
  stops = λ tables. (λ one. one, λ one. one);
}

-- a run ends as a run does
ends_told : (end : EndTold) → ends_a_run (ending_told end) ≡ true
ends_told Finished = refl
ends_told (Raised class at text) = refl
ends_told Spent = refl

kept_ran : (file text : List ℕ) (steps : ℕ) (arguments : List (List ℕ)) (read after : Seen) (was is : Stored) (may may' : TablesView → Type 0) (script : ScriptTree) → HasScript text script → (it : KeptRun)
    → TimesRun script file arguments steps (told_by read) (told_by after) (Ok it) → KeepsIn (run_in text file arguments steps it) it.number was is
    → Tells was.told is.told (StopLeaves (run_in text file arguments steps it) it.number may may')
    → KeepsText file text steps arguments read after was is may may' (with_keeping it.number (plan_of_run it.recorded.ended))
kept_ran file text steps arguments read after was is may may' script has it so kept stops = λ files stands. record {
  made = plan_of_run it.recorded.ended;
  capture = capture_of so.records.0 so.ran;
  began = so.began;
  clock = (Some it.times.0, Some it.times.1);
  asked = over_clock it.times.0 it.times.1 refl (ends_told it.recorded.ended.end);
  starts = so.starts;
  gave = so.records.1.runs.0;
  ends = so.ends;
  comes = inl (runs script has (plan_of_run it.recorded.ended) (is_run script file arguments steps (with_capture it.recorded.ended so.records.0) so.ran so.records.1.runs.1));
  keeps = a_run steps file arguments refl (run_in text file arguments steps it) (record {
    text = text;
    stands = stands;
    script = script;
    has = has;
    asked = so.records.0;
    it = it.recorded;
    records = so.records.1;
    capture = refl;
    made_is = refl;
    times = it.times;
    clock_is = refl;
    run_is = refl;
  }) it.number kept;
  stops = stops;
}

-- memory ran out in it
pub kept_short : (file text : List ℕ) (steps : ℕ) (arguments : List (List ℕ)) (read after : Seen) (was is : Stored) (may may' : TablesView → Type 0) (script : ScriptTree) (want : Memory)
    → TimesRun script file arguments steps (told_by read) (told_by after) (Err want) → IsUntouched was is → ((tables : TablesView) → may' tables ↔ may tables)
    → KeepsText file text steps arguments read after was is may may' (closing out_of_memory)
kept_short file text steps arguments read after was is may may' script want so still stops = λ files stands. record {
  made = closing out_of_memory;
  capture = capture_of so.records.0 (told_by after);
  began = so.began;
  clock = (Some so.started, None);
  asked = begun so.started refl refl;
  starts = so.starts;
  gave = so.records.1;
  ends = refl;
  comes = inr refl;
  keeps = no_run (inr refl) (inl refl) still;
  stops = stops;
}

-- the same of the plan that was made of it
pub kept_as : (file text : List ℕ) (steps : ℕ) (arguments : List (List ℕ)) (read after : Seen) (was is : Stored) (may may' : TablesView → Type 0) (script : ScriptTree) → HasScript text script → (it : KeptRun)
    → TimesRun script file arguments steps (told_by read) (told_by after) (Ok it) → KeepsIn (run_in text file arguments steps it) it.number was is
    → Tells was.told is.told (StopLeaves (run_in text file arguments steps it) it.number may may') → (plan : Plan) → plan ≡ with_keeping it.number (plan_of_run it.recorded.ended)
    → KeepsText file text steps arguments read after was is may may' plan
kept_as file text steps arguments read after was is may may' script has it so kept stops plan same =
    subst (λ (p : Plan). KeepsText file text steps arguments read after was is may may' p) (sym same) (kept_ran file text steps arguments read after was is may may' script has it so kept stops)
