use Rattle.std.proofs.Common.{refl, ap, ◌∙◌, arith}
use Rattle.region_pool.specs.Pool.{with_item}
use Rattle.region_pool.proofs.ChunkLemmas.{chunk_there, item_there, item_is, view_if_written, laid_if_written}
use Rattle.region_pool.proofs.pool.Pool.get_mut.Goals as goal

pub index_mut-requires : goal.index_mut-requires
index_mut-requires g c =
    let named = rw (← c.self.view_is) at c.requires in
    chunk_there c.self.inside.chunks _ c.self.invariant c.args.name _ _ c.place_of-place.ensures named

pub index_mut-requires-2 : goal.index_mut-requires-2
index_mut-requires-2 g c =
    let named = rw (← c.self.view_is) at c.requires in
    omega (arith, item_there c.self.inside.chunks _ c.self.invariant c.args.name _ _ c.place_of-place.ensures named c.index_mut.result.now c.index_mut.ensures.value)

pub invariant_of-self-lent : goal.invariant_of-self-lent
invariant_of-self-lent g c w =
    let named = rw (← c.self.view_is) at c.requires in
    laid_if_written c.self.inside.chunks _ c.self.invariant c.args.name _ _ c.place_of-place.ensures named c.index_mut.result.now c.index_mut.ensures.value w

pub returns : goal.returns
returns g c =
    let named = rw (← c.self.view_is) at c.requires in (
      (
        refl {a = c.index_mut-2.result.ghost_name},
        λ w.
            view_if_written c.self.inside.chunks _ c.self.invariant c.args.name _ _ c.place_of-place.ensures named c.index_mut.result.now c.index_mut.ensures.value w
            ∙ ap (λ pool. with_item pool c.args.name w) c.self.view_is,
      ),
      record {
        writes_back = tt;
        value =
            rw (← c.self.view_is)
            (item_is c.self.inside.chunks _ c.self.invariant c.args.name _ _ c.place_of-place.ensures named c.index_mut.result.now c.index_mut.ensures.value c.index_mut-2.result.now c.index_mut-2.ensures.value);
      },
    )
