use Rattle.std.proofs.lemmas.Result.{err_from_is_err_and}
use Rattle.row_words.specs.Reading.{each_at}
use Rattle.row_words.specs.AccessReading.{access_at}
use Rattle.row_words.proofs.Loop.{goes_on, ends, is_done}
use Rattle.row_words.proofs.reading_accesses.read_each.Goals as goal

pub returns-in_err-access : goal.returns-in_err-access
returns-in_err-access c =
    let p = err_from_is_err_and c.from_residual.result c.from_residual.ensures.1 in
    rw (p.1, p.2) (ends c.in_err-access.field-0.0 access_at c.loop.accesses.items c.args.count c.loop.counter c.loop.rest.now (each_at access_at c.args.count c.args.bytes.now) c.loop-test.true c.in_err-access.ensures c.loop.invariant)

pub loop-preserved : goal.loop-preserved
loop-preserved c =
    rw c.in_ok-push.ensures.items (goes_on access_at c.loop.accesses.items c.args.count c.loop.counter c.loop.rest.now c.in_ok-access.access c.in_ok-access.after.now (each_at access_at c.args.count c.args.bytes.now) c.loop-test.true c.in_ok-access.ensures c.loop.invariant)

pub returns : goal.returns
returns c = is_done access_at c.loop.accesses.items c.args.count c.loop.counter c.loop.rest.now (each_at access_at c.args.count c.args.bytes.now) c.loop-test.false c.loop.invariant
