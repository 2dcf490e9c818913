use Rattle.std.proofs.Common.{◌+◌, drop, ap, sym, ◌∙◌, arith}
use Rattle.std.proofs.lemmas.List.{drop_all}
use Rattle.feedings.specs.Marks.{flag_at, writes_one, writes_some}
use Rattle.feedings.proofs.FlagTurns.{next_is, some_here, some_later}
use Rattle.feedings.proofs.flags.some_written.Goals as goal

pub returns-then-one_written : goal.returns-then-one_written
returns-then-one_written c =
    let items = c.args.accesses.now in
    let i = c.loop-access.access-index in
    let test = flag_at c.args.flags.now.entries in
    let is = next_is items i c.access-item.result c.loop-access-test.true c.access-item.is in
    sym (some_here (writes_one test c.access-item.result) (writes_some test (drop (i + 1) items)) (writes_some test items) (c.loop-access.invariant ∙ ap (writes_some test) is) (sym c.one_written.ensures ∙ c.if-one_written.true))

pub loop-access-preserved : goal.loop-access-preserved
loop-access-preserved c =
    let items = c.args.accesses.now in
    let i = c.loop-access.access-index in
    let test = flag_at c.args.flags.now.entries in
    let is = next_is items i c.access-item.result c.loop-access-test.true c.access-item.is in
    some_later (writes_one test c.access-item.result) (writes_some test (drop (i + 1) items)) (writes_some test items) (c.loop-access.invariant ∙ ap (writes_some test) is) (sym c.one_written.ensures ∙ c.if-one_written.false)

pub returns : goal.returns
returns c =
    sym (c.loop-access.invariant ∙ ap (writes_some (flag_at c.args.flags.now.entries)) (drop_all c.loop-access.access-index c.args.accesses.now (omega (arith, c.loop-access-test.false))))
