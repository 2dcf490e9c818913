use Rattle.std.proofs.Common.{sym, ◌∙◌}
use Rattle.op_texts.proofs.White.{back_step, back_stop}
use Rattle.op_joins.proofs.integers.without_back.Goals as goal

pub loop-rest-preserved : goal.loop-rest-preserved
loop-rest-preserved c = back_step c.loop-rest.rest.now (sym c.loop-rest-test.ensures) (sym c.is_white.ensures ∙ c.if-is_white.true) ∙ c.loop-rest.invariant

pub returns-else-is_white : goal.returns-else-is_white
returns-else-is_white c = sym (back_stop c.loop-rest.rest.now (sym c.loop-rest-test.ensures) (sym c.is_white.ensures ∙ c.if-is_white.false)) ∙ c.loop-rest.invariant
