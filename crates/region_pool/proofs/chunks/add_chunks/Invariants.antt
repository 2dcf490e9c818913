use Rattle.std.proofs.Common.{◌≡◌, ◌-◌, ◌≤◌, [], ◌++◌, take, replicate, vec_len, vec_capacity}
use Rattle.region_pool.specs.Layout.{contents, rooms}
use Rattle.region_pool.specs.Places.{first_rooms}
use Rattle.region_pool.proofs.chunks.add_chunks.Given as goal

abbrev pub invariant-loop-chunk : goal.invariant-loop-chunk
invariant-loop-chunk g l = record {
  short : l.chunk - l.before ≤ l.count - l.before;
  counted : vec_len l.chunks ≡ l.chunk;
  listed : vec_capacity l.chunks ≡ 32;
  kept : take l.before l.chunks.items ≡ l.fn.chunks.items;
  contents : contents l.chunks.items ≡ contents l.fn.chunks.items ++ replicate (l.chunk - l.before) [];
  rooms : rooms l.chunks.items ≡ first_rooms l.chunk;
}
