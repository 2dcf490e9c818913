use Rattle.answer_source.specs.Live.{capture_of}
use Rattle.py_parser.proofs.Parsing.{numbered_script}
use Rattle.sound_trials.proofs.CanRead.{can_read}
use Rattle.sound_trials.proofs.kept_laws.recorded_runs_can_be_read.Goals as goal

pub returns : goal.returns
returns c run was path =
    let capture = capture_of was.it.ended.capture was.after in
    let numbered = numbered_script was.has.lines was.script was.has.is_script in
    can_read c.lists_are_in_order.ensures.answers c.lists_are_in_order.ensures.files run was
    (c.kept_captures_have_the_run.ensures was.script run.path run.arguments run.budget was.before was.after was.after was.asked was.it was.records)
    (record {
      fetched = c.runs_open_paths_alone.ensures.fetched was.script capture run.path run.arguments run.budget numbered;
      opened = c.runs_open_paths_alone.ensures.opened was.script capture run.path run.arguments run.budget numbered;
    }) path
