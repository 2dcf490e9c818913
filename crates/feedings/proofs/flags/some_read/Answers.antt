use Rattle.std.proofs.Common.{◌+◌, drop, ap, sym, ◌∙◌, arith}
use Rattle.std.proofs.lemmas.List.{drop_all}
use Rattle.feedings.specs.Marks.{flag_at, reads_one, reads_some}
use Rattle.feedings.proofs.FlagTurns.{next_is, some_here, some_later}
use Rattle.feedings.proofs.flags.some_read.Goals as goal

pub returns-then-one_read : goal.returns-then-one_read
returns-then-one_read c =
    let items = c.args.accesses.now in
    let i = c.loop-access.access-index in
    let test = flag_at c.args.flags.now.entries in
    let is = next_is items i c.access-item.result c.loop-access-test.true c.access-item.is in
    sym (some_here (reads_one test c.access-item.result) (reads_some test (drop (i + 1) items)) (reads_some test items) (c.loop-access.invariant ∙ ap (reads_some test) is) (sym c.one_read.ensures ∙ c.if-one_read.true))

pub loop-access-preserved : goal.loop-access-preserved
loop-access-preserved c =
    let items = c.args.accesses.now in
    let i = c.loop-access.access-index in
    let test = flag_at c.args.flags.now.entries in
    let is = next_is items i c.access-item.result c.loop-access-test.true c.access-item.is in
    some_later (reads_one test c.access-item.result) (reads_some test (drop (i + 1) items)) (reads_some test items) (c.loop-access.invariant ∙ ap (reads_some test) is) (sym c.one_read.ensures ∙ c.if-one_read.false)

pub returns : goal.returns
returns c =
    sym (c.loop-access.invariant ∙ ap (reads_some (flag_at c.args.flags.now.entries)) (drop_all c.loop-access.access-index c.args.accesses.now (omega (arith, c.loop-access-test.false))))
