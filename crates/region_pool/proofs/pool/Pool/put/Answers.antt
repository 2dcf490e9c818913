use Rattle.std.proofs.Common.{arith}
use Rattle.region_pool.proofs.ChunkLemmas.{next_there, next_has_room, joined_if_put, rooms_if_put, laid_if_put}
use Rattle.region_pool.proofs.LayoutLemmas.{names_fit}
use Rattle.region_pool.proofs.pool.Pool.put.Goals as goal

pub index_mut-requires : goal.index_mut-requires
index_mut-requires g c =
    let room = rw (← c.self.view_is) at c.requires in
    next_there c.self.inside.chunks _ c.self.invariant _ _ c.place_of-place.ensures room

pub push_reserved-requires : goal.push_reserved-requires
push_reserved-requires g c =
    let room = rw (← c.self.view_is) at c.requires in
    next_has_room c.self.inside.chunks _ c.self.invariant _ _ c.place_of-place.ensures room c.index_mut.result.now c.index_mut.ensures.value

pub overflow_add-self : goal.overflow_add-self
overflow_add-self g c =
    let room = rw (← c.self.view_is) at c.requires in
    omega (arith, names_fit _ _ _ _ c.self.invariant)

pub invariant_of-self : goal.invariant_of-self
invariant_of-self g c =
    let room = rw (← c.self.view_is) at c.requires in
    laid_if_put c.self.inside.chunks _ c.self.invariant _ _ c.place_of-place.ensures room c.index_mut.result.now c.index_mut.ensures.value c.args.item _ c.push_reserved.ensures.items c.push_reserved.ensures.capacity

pub returns-clause-items : goal.returns-clause-items
returns-clause-items g c =
    let room = rw (← c.self.view_is) at c.requires in
    rw (← c.self.view_is) (joined_if_put c.self.inside.chunks _ c.self.invariant _ _ c.place_of-place.ensures room c.index_mut.result.now c.index_mut.ensures.value c.args.item _ c.push_reserved.ensures.items c.push_reserved.ensures.capacity)

pub returns-clause-spare : goal.returns-clause-spare
returns-clause-spare g c =
    let room = rw (← c.self.view_is) at c.requires in
    rw (
      ← c.self.view_is,
      rooms_if_put c.self.inside.chunks _ c.self.invariant _ _ c.place_of-place.ensures room c.index_mut.result.now c.index_mut.ensures.value c.args.item c.push_reserved.new.self c.push_reserved.ensures.items c.push_reserved.ensures.capacity,
    )
    (omega arith)
