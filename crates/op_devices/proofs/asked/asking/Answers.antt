use Rattle.op_devices.proofs.Questions.{asks_at, asks_none}
use Rattle.std.proofs.Common.{◌∙◌, sym}
use Rattle.op_devices.proofs.asked.asking.Goals as goal

pub returns-then-no-eq55 : goal.returns-then-no-eq55
returns-then-no-eq55 c = c.line_asked.ensures ∙ sym (asks_at c.args.no 55 c.args.operands.now c.if-no-eq55.true)

pub returns-then-no-eq109 : goal.returns-then-no-eq109
returns-then-no-eq109 c = c.time_asked.ensures ∙ sym (asks_at c.args.no 109 c.args.operands.now c.if-no-eq109.true)

pub returns-then-no-eq110 : goal.returns-then-no-eq110
returns-then-no-eq110 c = c.randint_asked.ensures ∙ sym (asks_at c.args.no 110 c.args.operands.now c.if-no-eq110.true)

pub returns-then-no-eq111 : goal.returns-then-no-eq111
returns-then-no-eq111 c = c.randrange_asked.ensures ∙ sym (asks_at c.args.no 111 c.args.operands.now c.if-no-eq111.true)

pub returns-else-no-eq111 : goal.returns-else-no-eq111
returns-else-no-eq111 c = sym (asks_none c.args.no c.args.operands.now c.if-no-eq55.false c.if-no-eq109.false c.if-no-eq110.false c.if-no-eq111.false)
