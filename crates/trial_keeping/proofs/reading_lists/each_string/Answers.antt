use Rattle.std.proofs.lemmas.Result.{err_from_is_err_and}
use Rattle.row_words.specs.Bytes.{text_bytes}
use Rattle.trial_keeping.specs.RecordFits.{MayFollow}
use Rattle.trial_keeping.proofs.Going.{goes, stops}
use Rattle.trial_keeping.proofs.reading_lists.each_string.Goals as goal

pub returns-in_err-string : goal.returns-in_err-string
returns-in_err-string c =
    let p = err_from_is_err_and c.from_residual.result c.from_residual.ensures.1 in
    rw (p.1, p.2) (stops text_bytes MayFollow c.args.count c.loop.counter c.args.bytes.now c.loop.strings.items c.loop.rest.now c.in_err-string.field-0.0 c.loop-test.true c.in_err-string.ensures c.loop.invariant)

pub loop-preserved : goal.loop-preserved
loop-preserved c =
    rw c.in_ok-push.ensures.items
    (goes text_bytes MayFollow c.args.count c.loop.counter c.args.bytes.now c.loop.strings.items c.loop.rest.now c.in_ok-string.string c.in_ok-string.after.now c.loop-test.true c.in_ok-string.ensures c.loop.invariant)
