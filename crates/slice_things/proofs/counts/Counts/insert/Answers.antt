use Rattle.std.proofs.Common.{arith, ◌-◌}
use Rattle.slice_things.specs.Counts.{often}
use Rattle.slice_things.proofs.CountLaws.{put_often, there_often}
use Rattle.slice_things.proofs.counts.Counts.insert.Goals as goal

pub returns-in_ok-put : goal.returns-in_ok-put
returns-in_ok-put c = λ f. put_often c.args.self.now c.args.form f _ (omega (arith, c.count.ensures, c.if-count-eq0.true)) (c.in_ok-put.ensures f)

pub returns-else-count-eq0 : goal.returns-else-count-eq0
returns-else-count-eq0 c = λ f. there_often c.args.self.now c.args.form f (often c.args.form c.args.self.now - 1) (omega (arith, c.count.ensures, c.if-count-eq0.false))
