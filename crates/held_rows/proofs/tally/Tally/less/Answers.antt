use Rattle.std.proofs.Common.{arith, ap, ◌-◌}
use Rattle.slice_things.proofs.CountLaws.{less_often, none_often}
use Rattle.held_rows.proofs.tally.Tally.less.Goals as goal

pub returns-in_ok-put : goal.returns-in_ok-put
returns-in_ok-put c = λ f. less_often c.args.self.now c.args.form f _ _ (ap (λ k. k - 1) c.count-count.ensures) (c.in_ok-put.ensures f)

pub returns-else-count-gt0 : goal.returns-else-count-gt0
returns-else-count-gt0 c = λ f. none_often c.args.self.now c.args.form f (omega (arith, c.count-count.ensures, c.if-count-gt0.false))
