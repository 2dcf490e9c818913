use Rattle.std.proofs.Common.{arith}
use Rattle.region_pool.proofs.ChunkLemmas.{chunk_there, item_there, item_is}
use Rattle.region_pool.proofs.pool.Pool.get.Goals as goal

pub index-requires : goal.index-requires
index-requires g c =
    let named = rw (← c.self.view_is) at c.requires in
    chunk_there c.self.inside.chunks _ c.self.invariant c.args.name _ _ c.place_of-place.ensures named

pub index-requires-2 : goal.index-requires-2
index-requires-2 g c =
    let named = rw (← c.self.view_is) at c.requires in
    omega (arith, item_there c.self.inside.chunks _ c.self.invariant c.args.name _ _ c.place_of-place.ensures named c.index.result.now c.index.ensures)

pub returns : goal.returns
returns g c =
    let named = rw (← c.self.view_is) at c.requires in
    rw (← c.self.view_is) (item_is c.self.inside.chunks _ c.self.invariant c.args.name _ _ c.place_of-place.ensures named c.index.result.now c.index.ensures c.index-2.result.now c.index-2.ensures)
