use Rattle.std.proofs.Common.{rules, ◌<ℤ◌, pos}
use Rattle.op_numbers.proofs.Division.{above_below}
use Rattle.op_numbers.proofs.divisions.floor_remainder.Goals as goal

pub returns-then-i-gt0 : goal.returns-then-i-gt0
returns-then-i-gt0 c =
    let above : pos 0 <ℤ c.args.i = search (rules, c.if-i-gt0.true) in
    let below : c.args.j <ℤ pos 0 = search (rules, c.if-j-gt0.false, c.requires) in
    let is = above_below c.args.i c.args.j above below in
    search (rules, is)
