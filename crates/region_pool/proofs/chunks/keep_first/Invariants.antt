use Rattle.std.proofs.Common.{◌≡◌, ◌++◌, take, drop}
use Rattle.region_pool.specs.Layout.{contents, rooms, cut}
use Rattle.region_pool.proofs.chunks.keep_first.Given as goal

abbrev pub invariant-loop-chunk : goal.invariant-loop-chunk
invariant-loop-chunk g l = record {
  contents : take l.chunk-index (contents l.chunk-items) ++ cut l.left (drop l.chunk-index (contents l.chunk-items)) ≡ cut l.count (contents l.fn.chunks.items);
  rooms : rooms l.chunk-items ≡ rooms l.fn.chunks.items;
}
