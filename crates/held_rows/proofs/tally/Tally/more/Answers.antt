use Rattle.std.proofs.Common.{arith}
use Rattle.slice_things.proofs.CountLaws.{on_ok, more_often}
use Rattle.held_rows.proofs.tally.Tally.more.Goals as goal

pub returns : goal.returns
returns c = on_ok c.put.result c.put.ensures (λ put f. more_often c.args.self.now c.args.form f _ _ (omega (arith, c.count-count.ensures)) (put f))
