use Rattle.std.proofs.Common.{◌+◌, ◌||◌, drop, ap, sym, ◌∙◌, arith}
use Rattle.std.proofs.lemmas.List.{drop_all}
use Rattle.py_value.specs.contracts.access.LocationPartialEq.TheImpl.{ghosts as locations}
use Rattle.feedings.specs.Marks.{flag_at, reads_one, reads_in}
use Rattle.feedings.proofs.FlagTurns.{next_is, demand_turn}
use Rattle.feedings.proofs.flags.demand_all.Goals as goal

pub loop-access-preserved : goal.loop-access-preserved
loop-access-preserved c = λ l.
    let items = c.args.accesses.now in
    let i = c.loop-access.access-index in
    let is = next_is items i c.access-item.result c.loop-access-test.true c.access-item.is in
    demand_turn (reads_one (λ m. locations.eq m l) c.access-item.result) (reads_in l (drop (i + 1) items)) (reads_in l items)
    (flag_at c.loop-access.flags.entries l) (flag_at c.demand_one.new.flags.entries l) (flag_at c.args.flags.now.entries l)
    (ap (λ left. reads_in l left || flag_at c.loop-access.flags.entries l) (sym is) ∙ c.loop-access.invariant l) (c.in_ok-demand_one.ensures l)

pub returns : goal.returns
returns c = λ l.
    ap (λ left. reads_in l left || flag_at c.loop-access.flags.entries l) (sym (drop_all c.loop-access.access-index c.args.accesses.now (omega (arith, c.loop-access-test.false))))
    ∙ c.loop-access.invariant l
