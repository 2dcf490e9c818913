use Rattle.std.proofs.Common.{◌+◌, ◌<◌, ◌∙◌, arith}
use Rattle.std.proofs.lemmas.Result.{on_ok_weaker}
use Rattle.region_pool.proofs.LayoutLemmas.{names_fit}
use Rattle.region_pool.proofs.ChunkLemmas.{joined_if_added, laid_if_added, room_if_added, spare_grows, had_chunks, view_same, less_than_twice}
use Rattle.region_pool.proofs.pool.Pool.reserve.Goals as goal

pub returns-in_default-clause-had_room : goal.returns-in_default-clause-had_room
returns-in_default-clause-had_room g c had =
    let had_room = rw (← c.self.view_is) at had in
    let fits : c.self.inside.len + c.args.n < 4294967296 = omega (arith, names_fit _ _ _ _ c.self.invariant) in
    absurd (c.in_default.ensures fits)

pub invariant_of-self : goal.invariant_of-self
invariant_of-self g c = laid_if_added c.self.inside.chunks c.add_chunks.new.chunks _ c.self.invariant _ c.add_chunks.ensures.adds c.chunks_for.ensures.few

pub returns-clause-room : goal.returns-clause-room
returns-clause-room g c =
    on_ok_weaker c.add_chunks.result
    (room_if_added c.self.inside.chunks c.add_chunks.new.chunks _ c.self.invariant _ c.add_chunks.ensures.adds c.args.n _ c.in-Some.ensures.1 c.chunks_for.ensures.enough)
    c.add_chunks.ensures.ok

pub returns-clause-items : goal.returns-clause-items
returns-clause-items g c =
    rw (← c.self.view_is) (joined_if_added c.self.inside.chunks c.add_chunks.new.chunks _ c.self.invariant _ c.add_chunks.ensures.adds)

pub returns-clause-grows : goal.returns-clause-grows
returns-clause-grows g c =
    rw (← c.self.view_is) (spare_grows c.self.inside.chunks c.add_chunks.new.chunks _ c.self.invariant _ c.add_chunks.ensures.adds)

pub returns-clause-had_room : goal.returns-clause-had_room
returns-clause-had_room g c had =
    c.add_chunks.ensures.there
    (had_chunks c.self.inside.chunks c.add_chunks.new.chunks _ c.self.invariant _ c.add_chunks.ensures.adds c.args.n _ c.in-Some.ensures.1 c.chunks_for.ensures.least (rw (← c.self.view_is) at had))

pub returns-clause-no_more : goal.returns-clause-no_more
returns-clause-no_more g c had =
    view_same c.self.inside.chunks c.add_chunks.new.chunks _ c.self.invariant _ c.add_chunks.ensures.adds c.args.n _ c.in-Some.ensures.1 c.chunks_for.ensures.least (rw (← c.self.view_is) at had) ∙ c.self.view_is

pub returns-clause-frugal : goal.returns-clause-frugal
returns-clause-frugal g c none =
    rw (← c.self.view_is)
    (less_than_twice c.self.inside.chunks c.add_chunks.new.chunks _ c.self.invariant _ c.add_chunks.ensures.adds c.args.n _ c.in-Some.ensures.1 c.chunks_for.ensures.least c.chunks_for.ensures.enough (rw (← c.self.view_is) at none))
