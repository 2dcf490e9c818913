-- A recorded run can be read back, where its path is one that a script may open.
use Rattle.std.proofs.Common.{◌≡◌, ℕ, true, List, map, sym, subst}
use Rattle.std.specs.Prelude.{◌↔◌}
use Rattle.answer_source.specs.Live.{capture_of}
use Rattle.capture.specs.Answers.{AreInOrder}
use Rattle.capture.specs.declared.answer.Asked.{Asked}
use Rattle.capture.specs.declared.ended.Ended.{Ended as EndedRun}
use Rattle.prov_base.specs.Path.{is_path}
use Rattle.py_model.specs.Capture.{Capture}
use Rattle.py_model.specs.Meaning.{meaning, starting}
use Rattle.py_model.specs.Running.{State, outcome, state_in}
use Rattle.py_model.specs.Store.{has_path}
use Rattle.recorded_runs.specs.RecordedRun.{IsRunOf}
use Rattle.row_words.specs.Fits.{IsList}
use Rattle.sound_trials.proofs.AnswerKinds.{kinds_fit}
use Rattle.sound_trials.proofs.AskedOnce.{IsGood, run_good}
use Rattle.sound_trials.proofs.Readable.{each_of, arguments_stand, answers_numbered, each_answer, fetched_paths, files_listed, files_ascend, finals_listed}
use Rattle.sound_trials.specs.Recorded.{WasRecorded}
use Rattle.trial_keeping.specs.RecordFits.{IsAnswer, AnswersFit, IsFile, AreAscending, FilesFit, FinalsFit}
use Rattle.trial_keeping.specs.Trial.{Run, file_record, final_record}
use Rattle.trial_keeping.specs.declared.record.FileRecord.{FileRecord}
use Rattle.trial_loading.specs.ReadBack.{CanBeRead}

-- what holds of a run that was recorded
record IsKeptWell (ended : EndedRun) : Type 0 where
  answers : IsList IsAnswer ended.capture.answers
  in_order : AreInOrder ended.capture.answers
  files : IsList IsFile (map file_record ended.capture.files)
  ascending : AreAscending (map file_record ended.capture.files)
  finals : FinalsFit (map final_record ended.finals.items)

-- the state at the end of the run, in the capture that is kept
abbrev pub end_of : (run : Run) → WasRecorded run → State
end_of run was =
    let capture : Capture = capture_of was.it.ended.capture was.after in
    state_in (outcome capture (meaning was.script run.budget) (starting capture run.path run.arguments run.budget))

-- what the run fetched and opened has a path that a script may open
pub record OpensPaths (s : State) : Type 0 where
  pub fetched : (one : List ℕ) → has_path one s.fetches ≡ true → is_path one ≡ true
  pub opened : (one : List ℕ) → has_path one s.store.opened ≡ true → is_path one ≡ true

kept_well : (run : Run) (was : WasRecorded run) → IsRunOf was.script run.path run.arguments run.budget (capture_of was.it.ended.capture was.after) was.it → OpensPaths (end_of run was)
    → IsKeptWell was.it.ended
kept_well run was of opens =
    let capture : Capture = capture_of was.it.ended.capture was.after in
    let ended = was.it.ended in
    let fits = was.records.fits in
    let good : IsGood (end_of run was) = run_good capture (meaning was.script run.budget) (starting capture run.path run.arguments run.budget) (tt, tt) in
    record {
      answers = (
        fits.answers.0,
        each_answer ended.capture.answers (each_of _ ended.capture.answers fits.answers.1)
            (kinds_fit was.asked was.before was.after ended.capture.answers was.records.runs.0 was.records.in_order.permuted)
            (answers_numbered (end_of run was).askings ended.capture.answers good.0 of.asked),
      );
      in_order = was.records.in_order.ascending;
      files = files_listed ended.capture.files fits.files (fetched_paths ended.capture.files (end_of run was).fetches of.fetched opens.fetched);
      ascending = files_ascend ended.capture.files fits.ascending;
      finals = finals_listed (end_of run was).store (end_of run was).store.opened ended.finals.items good.1 opens.opened of.finals_are fits.finals;
    }

pub can_read : ((answers : List Asked) → AnswersFit answers ↔ IsList IsAnswer answers × AreInOrder answers) → ((files : List FileRecord) → FilesFit files ↔ IsList IsFile files × AreAscending files)
    → (run : Run) (was : WasRecorded run) → IsRunOf was.script run.path run.arguments run.budget (capture_of was.it.ended.capture was.after) was.it → OpensPaths (end_of run was)
    → is_path run.path ≡ true → CanBeRead run
can_read answers_law files_law run was of opens path =
    let well : IsKeptWell run.ended = subst (λ (e : EndedRun). IsKeptWell e) (sym was.ended_is) (kept_well run was of opens) in
    record {
      path = path;
      arguments = arguments_stand run.arguments was.records.texts.arguments;
      capture = ((answers_law _).1 (well.answers, well.in_order), (files_law _).1 (well.files, well.ascending));
      finals = well.finals;
    }
