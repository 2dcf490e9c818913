use Rattle.std.proofs.Common.{◌∙◌, sym, ap, ◌++◌, eqb-true, length}
use Rattle.op_joins.proofs.ManyTimes.{once_more, none_repeated}
use Rattle.op_joins.proofs.repeating.text_times.Goals as goal

pub returns-then-is_empty : goal.returns-then-is_empty
returns-then-is_empty c = c.new-made.ensures.bytes ∙ sym (none_repeated c.args.n c.args.text.now (eqb-true (length c.args.text.now) 0 (sym c.is_empty.ensures ∙ c.if-is_empty.true)))

pub loop-preserved : goal.loop-preserved
loop-preserved c = c.in_ok-push_str.ensures.bytes ∙ (ap (λ words. words ++ c.args.text.now) c.loop.invariant ∙ once_more c.loop.counter c.args.text.now)
