use Rattle.std.proofs.Common.{◌∙◌, sym, ap, ◌++◌, eqb-true, length}
use Rattle.op_joins.proofs.ManyTimes.{once_more, none_repeated}
use Rattle.op_joins.proofs.repeating.items_times.Goals as goal

pub returns-then-is_empty : goal.returns-then-is_empty
returns-then-is_empty c = c.new-made.ensures.items ∙ sym (none_repeated c.args.n c.args.items.now (eqb-true (length c.args.items.now) 0 (sym c.is_empty.ensures ∙ c.if-is_empty.true)))

pub loop-preserved : goal.loop-preserved
loop-preserved c = c.in_ok-extend_from_slice.ensures.items ∙ (ap (λ vs. vs ++ c.args.items.now) c.loop.invariant ∙ once_more c.loop.counter c.args.items.now)
