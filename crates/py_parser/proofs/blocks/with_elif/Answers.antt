use Rattle.py_parser.proofs.BlockForms.{no_if, other_elif, elif_added}
use Rattle.py_parser.proofs.blocks.with_elif.Goals as goal

-- src/blocks.rt
pub returns-in_ok-push-in-If : goal.returns-in_ok-push-in-If
returns-in_ok-push-in-If c = elif_added c.args.form c.in-If.branches c.in-If.orelse c.args.test c.args.suite c.push.new.self c.in-If.is c.in_ok-push-in-If.ensures.items

-- src/blocks.rt
pub returns-in_default : goal.returns-in_default
returns-in_default c = other_elif _ _ _ (no_if _ c.in_default.not-If)
