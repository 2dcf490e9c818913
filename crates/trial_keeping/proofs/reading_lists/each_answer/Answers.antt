use Rattle.std.proofs.lemmas.Result.{err_from_is_err_and}
use Rattle.trial_keeping.specs.RecordBytes.{answer_bytes}
use Rattle.trial_keeping.specs.RecordFits.{MayAnswer}
use Rattle.trial_keeping.proofs.Going.{followed, goes, stopped, stops}
use Rattle.trial_keeping.proofs.reading_lists.each_answer.Goals as goal

pub returns-in_err-asked : goal.returns-in_err-asked
returns-in_err-asked c =
    let p = err_from_is_err_and c.from_residual.result c.from_residual.ensures.1 in
    rw (p.1, p.2) (stops answer_bytes MayAnswer c.args.count c.loop.counter c.args.bytes.now c.loop.answers.items c.loop.rest.now c.in_err-asked.field-0.0 c.loop-test.true
    (stopped answer_bytes MayAnswer _ _ c.loop.rest.now c.in_err-asked.field-0.0 c.as_slice.ensures.value c.in_err-asked.ensures) c.loop.invariant)

pub loop-preserved : goal.loop-preserved
loop-preserved c =
    rw c.in_ok-push.ensures.items
    (goes answer_bytes MayAnswer c.args.count c.loop.counter c.args.bytes.now c.loop.answers.items c.loop.rest.now c.in_ok-asked.asked c.in_ok-asked.after.now c.loop-test.true
    (followed answer_bytes MayAnswer _ _ c.loop.rest.now c.in_ok-asked.asked c.in_ok-asked.after.now c.as_slice.ensures.value c.in_ok-asked.ensures) c.loop.invariant)
