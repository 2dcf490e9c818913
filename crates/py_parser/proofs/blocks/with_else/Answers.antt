use Rattle.py_parser.proofs.BlockForms.{no_if, other_else, else_added}
use Rattle.py_parser.proofs.blocks.with_else.Goals as goal

-- src/blocks.rt
pub returns-in-If : goal.returns-in-If
returns-in-If c = else_added c.args.form c.in-If.branches c.in-If.field-1 c.args.suite c.in-If.is

-- src/blocks.rt
pub returns-in_default : goal.returns-in_default
returns-in_default c = other_else _ _ (no_if _ c.in_default.not-If)
