-- A loaded trial of a kept run is the trial of that run: its head, its text and what was kept besides the rows. So the run can be read back.
use Rattle.std.proofs.Common.{◌≡◌, ℕ, Bool, true, false, List, map, if◌then◌else◌, refl, sym, ap, subst, ◌∙◌}
use Rattle.std.proofs.lemmas.Option.{same_Some}
use Rattle.capture.specs.declared.answer.Asked.{Asked}
use Rattle.keeper.specs.declared.records.Head.{Head}
use Rattle.keeper.specs.Tables.{TablesView}
use Rattle.prov_base.specs.Path.{is_path}
use Rattle.row_words.specs.Fits.{Each}
use Rattle.sound_trials.proofs.Fitting.{one_arguments, arguments_fit, capture_is, finals_are}
use Rattle.sound_trials.proofs.KeptParts.{Parts, parts_of, same_part}
use Rattle.sound_trials.proofs.Spelling.{AnswerFits}
use Rattle.sound_trials.proofs.Standing.{StandsIn, kept_stands, stands_still, numbered_next, more_there}
use Rattle.sound_trials.proofs.Staying.{rest_stays}
use Rattle.sound_trials.specs.Recorded.{KeptMore}
use Rattle.content_store.specs.Contents.{digest_of}
use Rattle.trial_keeping.specs.RecordFits.{CaptureFits, FinalsFit}
use Rattle.trial_keeping.specs.Trial.{Run, file_record, final_record, head_of, parent_in, with_trial_of}
use Rattle.trial_keeping.specs.declared.record.FileRecord.{FileRecord}
use Rattle.trial_keeping.specs.declared.record.FinalRecord.{FinalRecord}
use Rattle.trial_loading.specs.Loading.{IsLoaded, rest_of}
use Rattle.trial_loading.specs.ReadBack.{CanBeRead, IsKeptAndRead, rest_of_run}
use Rattle.trial_loading.specs.Rest.{IsRest, RecordsView, RestView, rest_in, script_in}
use Rattle.trial_loading.specs.declared.trial.Trial.{Trial}
use Rattle.trial_tables.specs.Whole.{Check, fine, damaged, content_in}
use Rattle.trial_tables.specs.Written.{put, next_trial}
use Rattle.trial_tables.specs.declared.damage.Damage.TheVariants.{Path}

-- the trial has the head, the text and the rest of the run
pub record IsTrialOf (run : Run) (before : TablesView) (trial : Trial) : Type 0 where
  pub head : trial.head ≡ head_of run (parent_in before run.path)
  pub text : trial.text ≡ run.text
  pub rest : rest_of trial ≡ rest_of_run run

-- a text that is there has a path
path_there : (tables : TablesView) (head : Head) (text : List ℕ) → script_in tables head ≡ fine text → is_path head.path ≡ true
path_there tables head text is = by (is_path head.path) is
  where
    by : (b : Bool) → (if b then content_in tables head.script else damaged Path) ≡ fine text → b ≡ true
    by true is = refl
    by false is = absurd cc

-- equal bytes stand under one digest
same_bytes : (check : Check (List ℕ)) (bytes others : List ℕ) → check ≡ fine bytes → check ≡ fine others → bytes ≡ others
same_bytes check bytes others is so = same_part bytes others (sym is ∙ so)

module _ (run : Run) (before after : TablesView) (kinds : Each AnswerFits run.ended.capture.answers) (stands : StandsIn run before after) where
  abbrev head_there : Head
  head_there = head_of run (parent_in before run.path)

  abbrev records_there : RecordsView
  records_there = record {
    arguments = run.arguments;
    kept = (run.ended.capture.answers, map file_record run.ended.capture.files);
    finals = map final_record run.ended.finals.items;
  }

  capture_there : (rest : RestView) (parts : Parts after (head_of run (parent_in before run.path)) rest)
      → parts.records.kept ≡ (run.ended.capture.answers, map file_record run.ended.capture.files)
  capture_there rest parts =
      capture_is parts.records.kept run.ended.capture.answers run.ended.capture.files kinds (same_bytes _ _ _ parts.capture.bytes stands.capture) parts.capture.fit

  finals_there : (rest : RestView) (parts : Parts after (head_of run (parent_in before run.path)) rest) → parts.records.finals ≡ map final_record run.ended.finals.items
  finals_there rest parts = finals_are parts.records.finals run.ended.finals.items (same_bytes _ _ _ parts.finals.bytes stands.finals) parts.finals.fit

  pub can_be_read : (rest : RestView) → Parts after (head_of run (parent_in before run.path)) rest → is_path run.path ≡ true → CanBeRead run
  can_be_read rest parts path = record {
    path = path;
    arguments = arguments_fit parts.records.arguments run.arguments (same_bytes _ _ _ parts.arguments.bytes stands.arguments) parts.arguments.fit;
    capture = subst (λ (kept : List Asked × List FileRecord). CaptureFits kept) (capture_there rest parts) parts.capture.fit;
    finals = subst (λ (finals : List FinalRecord). FinalsFit finals) (finals_there rest parts) parts.finals.fit;
  }

  records_are : (rest : RestView) (parts : Parts after (head_of run (parent_in before run.path)) rest) → parts.records ≡ records_there
  records_are rest parts =
      same_records parts.records records_there (one_arguments parts.records.arguments run.arguments (same_bytes _ _ _ parts.arguments.bytes stands.arguments))
      (capture_there rest parts) (finals_there rest parts)
    where
      same_records : (a b : RecordsView) → a.arguments ≡ b.arguments → a.kept ≡ b.kept → a.finals ≡ b.finals → a ≡ b
      same_records a b one two three =
          ap (λ (x : List (List ℕ)). record a { arguments = x }) one
          ∙ (ap (λ (x : List Asked × List FileRecord). record a { arguments = b.arguments; kept = x }) two
          ∙ ap (λ (x : List FinalRecord). record b { finals = x }) three)

  read_so : (rest : RestView) (parts : Parts after (head_of run (parent_in before run.path)) rest) → rest_in after head_there records_there ≡ fine rest
  read_so rest parts = subst (λ (r : RecordsView). rest_in after head_there r ≡ fine rest) (records_are rest parts) parts.read

  module _ (trial : Trial) (loaded : IsLoaded after (next_trial before) trial) where
    heads_are : trial.head ≡ head_of run (parent_in before run.path)
    heads_are = same_Some trial.head head_there (sym loaded.head_is ∙ stands.head)

    text_there : script_in after head_there ≡ fine trial.text
    text_there = subst (λ (h : Head). script_in after h ≡ fine trial.text) heads_are loaded.text_is

    parts_there : Parts after (head_of run (parent_in before run.path)) (rest_of trial)
    parts_there = parts_of after head_there (rest_of trial) (subst (λ (h : Head). IsRest after h (fine (rest_of trial))) heads_are loaded.rest_is)

    -- the run can be read back
    pub read_back_so : CanBeRead run
    read_back_so = can_be_read (rest_of trial) parts_there (path_there after head_there trial.text text_there)

    -- the trial is that of the run
    pub trial_of : rest_in after head_there records_there ≡ fine (rest_of_run run) → IsTrialOf run before trial
    trial_of read = record {
      head = heads_are;
      text = same_part trial.text run.text (sym (script_there (path_there after head_there trial.text text_there)) ∙ stands.text);
      rest = same_part (rest_of trial) (rest_of_run run) (sym (read_so (rest_of trial) parts_there) ∙ read);
    }
      where
        script_there : is_path run.path ≡ true → content_in after (digest_of run.text) ≡ fine trial.text
        script_there path = sym (ap (λ (b : Bool). if b then content_in after (digest_of run.text) else damaged Path) path) ∙ text_there

-- a run that was kept, in the tables that have its trial and in later ones
module _ (run : Run) (before after later : TablesView) (kinds : Each AnswerFits run.ended.capture.answers) (is : with_trial_of run before ≡ put after) (more : KeptMore after later) where
  pub still_stands : StandsIn run before later
  still_stands = stands_still run before after later (numbered_next run before after is) (more_there after later more) (kept_stands run before after is)

  pub can_be_read_later : (trial : Trial) → IsLoaded later (next_trial before) trial → CanBeRead run
  can_be_read_later trial loaded = read_back_so run before later kinds still_stands trial loaded

  pub trial_later : (trial : Trial) → IsLoaded later (next_trial before) trial → IsKeptAndRead run before after → IsTrialOf run before trial
  trial_later trial loaded kept =
      let head : Head = head_of run (parent_in before run.path) in
      trial_of run before later kinds still_stands trial loaded
      (rest_stays after later (more_there after later more).contents head (records_there run before later kinds still_stands) (rest_of_run run)
      (read_so run before after kinds (kept_stands run before after is) (rest_of_run run) (parts_of after head (rest_of_run run) kept.read_back.rest)))
