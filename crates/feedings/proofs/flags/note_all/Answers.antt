use Rattle.std.proofs.Common.{◌+◌, drop, ap, sym, ◌∙◌, arith}
use Rattle.std.proofs.lemmas.List.{drop_all}
use Rattle.feedings.specs.Marks.{flag_at, after_all}
use Rattle.feedings.proofs.FlagTurns.{next_is}
use Rattle.feedings.proofs.flags.note_all.Goals as goal

pub loop-access-preserved : goal.loop-access-preserved
loop-access-preserved c = λ l.
    let items = c.args.accesses.now in
    let i = c.loop-access.access-index in
    let is = next_is items i c.access-item.result c.loop-access-test.true c.access-item.is in
    ap (after_all c.args.flag l (drop (i + 1) items)) (c.in_ok-note_one.ensures l)
    ∙ ap (λ left. after_all c.args.flag l left (flag_at c.loop-access.flags.entries l)) (sym is) ∙ c.loop-access.invariant l

pub returns : goal.returns
returns c = λ l.
    ap (λ left. after_all c.args.flag l left (flag_at c.loop-access.flags.entries l)) (sym (drop_all c.loop-access.access-index c.args.accesses.now (omega (arith, c.loop-access-test.false))))
    ∙ c.loop-access.invariant l
