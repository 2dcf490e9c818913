-- A run that was kept is read back as that run (this project's profile).
use Rattle.std.specs.Prelude.{◌≡◌, [], map, Some, true}
use Rattle.prov_base.specs.Path.{is_path}
use Rattle.keeper.specs.declared.records.Head.{Head}
use Rattle.keeper.specs.Tables.{TablesView, head_at}
use Rattle.trial_tables.specs.Whole.{fine}
use Rattle.trial_tables.specs.Written.{next_trial}
use Rattle.trial_keeping.specs.RecordFits.{ArgumentsFit, CaptureFits, FinalsFit}
use Rattle.trial_keeping.specs.Trial.{Run, file_record, final_record, head_of, parent_in}
use Rattle.trial_loading.specs.Rest.{RestView, script_in, IsRest}

-- a run that can be read back: its path is one that a script may open, and its records fit
pub record CanBeRead (run : Run) : Type 0 where
  pub path : is_path run.path ≡ true
  pub arguments : ArgumentsFit run.arguments
  pub capture : CaptureFits (run.ended.capture.answers, map file_record run.ended.capture.files)
  pub finals : FinalsFit (map final_record run.ended.finals.items)

-- what is read of it besides its script and its rows: no path is noted as written
abbrev pub rest_of_run : Run → RestView
rest_of_run run = record {
  arguments = run.arguments;
  capture = record { answers = run.ended.capture.answers; files = run.ended.capture.files; written = [] };
  output = run.ended.output;
  finals = run.ended.finals.items;
}

-- the run is what is read under this head
pub record IsReadBack (run : Run) (tables : TablesView) (head : Head) : Type 0 where
  pub script : script_in tables head ≡ fine run.text
  pub rest : IsRest tables head (fine (rest_of_run run))

-- the tables with the run's trial, read: the head stands under the next number, and the run is what is read under it
pub record IsKeptAndRead (run : Run) (before after : TablesView) : Type 0 where
  pub head : head_at after.heads (next_trial before) ≡ Some (head_of run (parent_in before run.path))
  pub read_back : IsReadBack run after (head_of run (parent_in before run.path))
