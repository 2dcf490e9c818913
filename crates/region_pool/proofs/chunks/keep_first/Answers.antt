use Rattle.std.proofs.Common.{◌≡◌, ◌<◌, [], length, take, get_or, vec_items, vec_capacity, ap, sym, ◌∙◌, arith}
use Rattle.std.proofs.lemmas.List.{map-set, get_or-map, length-map}
use Rattle.region_pool.specs.Layout.{contents}
use Rattle.region_pool.proofs.Lists.{cut_more, map-set_same}
use Rattle.region_pool.proofs.chunks.keep_first.Goals as goal

pub loop-chunk-preserved : goal.loop-chunk-preserved
loop-chunk-preserved g c =
    let now = c.loop-chunk.chunk-items in
    let i = c.loop-chunk.chunk-index in
    let left = c.loop-chunk.left in
    let chunk = c.chunk-item.result in
    let shorter = c.truncate.new.self in
    let within : i < length now = omega arith in
    let listed : i < length (contents now) = omega (arith, length-map now vec_items) in
    let is : chunk.items ≡ get_or (contents now) i [] = ap vec_items c.chunk-item.is ∙ sym (get_or-map vec_items now i chunk [] within) in
    let kept : shorter.items ≡ take left chunk.items = rw (← c.chunk-item.is) at c.truncate.ensures.items in
    let counted : c.len-left.result ≡ length (take left chunk.items) = c.len-left.ensures ∙ shorter.ok.0 ∙ ap length kept in
    record {
      contents = rw (map-set vec_items now i shorter, kept, counted) (cut_more (contents now) i left chunk.items listed is ∙ c.loop-chunk.invariant.contents);
      rooms = map-set_same vec_capacity now i shorter chunk within c.truncate.ensures.capacity ∙ c.loop-chunk.invariant.rooms;
    }
