use Rattle.std.proofs.Common.{◌≡◌, ◌+◌, ◌-◌, arith}
use Rattle.region_pool.proofs.Rooms.{chunks_enough, room_of_first-is}
use Rattle.region_pool.proofs.places.chunks_for.Goals as goal

pub returns-clause-enough : goal.returns-clause-enough
returns-clause-enough c = chunks_enough c.ilog2.result c.args.items c.ilog2.ensures.next_power_gt

pub returns-clause-least : goal.returns-clause-least
returns-clause-least c some =
    let top : c.ilog2.result + 1 - 1 ≡ c.ilog2.result = omega arith in
    rw top (omega (arith, room_of_first-is c.ilog2.result))
