use Rattle.std.proofs.Common.{arith}
use Rattle.region_pool.proofs.Rooms.{room_of_first-is}
use Rattle.region_pool.proofs.places.place_of.Goals as goal

pub returns : goal.returns
returns c =
    let before = room_of_first-is c.ilog2-chunk.result in
    record { within = omega arith; name_is = omega arith }
