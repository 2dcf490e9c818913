use Rattle.trial_keeping.specs.RecordFaults.{kept_bytes, AreBad}
use Rattle.trial_keeping.specs.RecordFits.{CaptureFits}
use Rattle.trial_keeping.proofs.RecordsExact.{both_lists, some_left, too_long}
use Rattle.trial_keeping.proofs.decoding.whole_capture.Goals as goal

pub returns-then-not-is_empty : goal.returns-then-not-is_empty
returns-then-not-is_empty c =
    too_long kept_bytes CaptureFits AreBad c.args.bytes.now (c.in_ok-answers.answers.items, c.in_ok-files.files.items) c.in_ok-files.rest.now
    (both_lists c.args.bytes.now c.in_ok-answers.answers.items c.in_ok-answers.rest.now c.in_ok-files.files.items c.in_ok-files.rest.now c.in_ok-answers.ensures c.in_ok-files.ensures)
    (some_left c.in_ok-files.rest.now c.if-not-is_empty.ensures)
