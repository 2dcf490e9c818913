use Rattle.std.proofs.Common.{arith}
use Rattle.region_pool.proofs.LayoutLemmas.{items_fit, sum-rooms, names_fit}
use Rattle.region_pool.proofs.pool.Pool.len.Goals as goal

pub returns-clause-named : goal.returns-clause-named
returns-clause-named g c =
    rw (← c.self.view_is) (omega (arith, names_fit _ _ _ _ c.self.invariant, sum-rooms _ _ _ _ c.self.invariant, items_fit _ _ _ _ c.self.invariant, c.self.invariant.counted))
