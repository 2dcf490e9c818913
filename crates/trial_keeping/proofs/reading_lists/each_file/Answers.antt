use Rattle.std.proofs.lemmas.Result.{err_from_is_err_and}
use Rattle.trial_keeping.specs.RecordBytes.{file_bytes}
use Rattle.trial_keeping.specs.RecordFits.{MayBeFound}
use Rattle.trial_keeping.proofs.Going.{followed, goes, stopped, stops}
use Rattle.trial_keeping.proofs.reading_lists.each_file.Goals as goal

pub returns-in_err-file : goal.returns-in_err-file
returns-in_err-file c =
    let p = err_from_is_err_and c.from_residual.result c.from_residual.ensures.1 in
    rw (p.1, p.2) (stops file_bytes MayBeFound c.args.count c.loop.counter c.args.bytes.now c.loop.files.items c.loop.rest.now c.in_err-file.field-0.0 c.loop-test.true
    (stopped file_bytes MayBeFound _ _ c.loop.rest.now c.in_err-file.field-0.0 c.as_slice.ensures.value c.in_err-file.ensures) c.loop.invariant)

pub loop-preserved : goal.loop-preserved
loop-preserved c =
    rw c.in_ok-push.ensures.items
    (goes file_bytes MayBeFound c.args.count c.loop.counter c.args.bytes.now c.loop.files.items c.loop.rest.now c.in_ok-file.file c.in_ok-file.after.now c.loop-test.true
    (followed file_bytes MayBeFound _ _ c.loop.rest.now c.in_ok-file.file c.in_ok-file.after.now c.as_slice.ensures.value c.in_ok-file.ensures) c.loop.invariant)
