use Rattle.std.proofs.lemmas.Result.{err_from_is_err_and}
use Rattle.trial_keeping.specs.RecordBytes.{final_bytes}
use Rattle.trial_keeping.specs.RecordFits.{MayBeFinal}
use Rattle.trial_keeping.proofs.Going.{followed, goes, stopped, stops}
use Rattle.trial_keeping.proofs.reading_lists.each_final.Goals as goal

pub returns-in_err-written : goal.returns-in_err-written
returns-in_err-written c =
    let p = err_from_is_err_and c.from_residual.result c.from_residual.ensures.1 in
    rw (p.1, p.2) (stops final_bytes MayBeFinal c.args.count c.loop.counter c.args.bytes.now c.loop.finals.items c.loop.rest.now c.in_err-written.field-0.0 c.loop-test.true
    (stopped final_bytes MayBeFinal _ _ c.loop.rest.now c.in_err-written.field-0.0 c.as_slice.ensures.value c.in_err-written.ensures) c.loop.invariant)

pub loop-preserved : goal.loop-preserved
loop-preserved c =
    rw c.in_ok-push.ensures.items
    (goes final_bytes MayBeFinal c.args.count c.loop.counter c.args.bytes.now c.loop.finals.items c.loop.rest.now c.in_ok-written.written c.in_ok-written.after.now c.loop-test.true
    (followed final_bytes MayBeFinal _ _ c.loop.rest.now c.in_ok-written.written c.in_ok-written.after.now c.as_slice.ensures.value c.in_ok-written.ensures) c.loop.invariant)
