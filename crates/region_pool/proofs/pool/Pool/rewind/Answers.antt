use Rattle.std.proofs.Common.{arith}
use Rattle.region_pool.proofs.Lists.{joined-cut}
use Rattle.region_pool.proofs.LayoutLemmas.{IsLaidOut-cut, items_fit, sum-rooms}
use Rattle.region_pool.proofs.pool.Pool.rewind.Goals as goal

pub invariant_of-self : goal.invariant_of-self
invariant_of-self g c =
    let below = rw (← c.self.view_is, c.self.invariant.counted) at c.requires in
    rw (c.keep_first.ensures.contents, c.keep_first.ensures.rooms, c.keep_first.ensures.listed)
    (IsLaidOut-cut _ _ _ _ c.self.invariant c.len-len.result (omega arith))

pub returns-clause-items : goal.returns-clause-items
returns-clause-items g c =
    rw (← c.self.view_is, c.keep_first.ensures.contents, c.len-len.ensures) (joined-cut c.args.mark _)

pub returns-clause-spare : goal.returns-clause-spare
returns-clause-spare g c =
    let below = rw (← c.self.view_is) at c.requires in
    rw (← c.self.view_is, c.keep_first.ensures.rooms)
    (omega (arith, c.self.invariant.counted, items_fit _ _ _ _ c.self.invariant, sum-rooms _ _ _ _ c.self.invariant))
