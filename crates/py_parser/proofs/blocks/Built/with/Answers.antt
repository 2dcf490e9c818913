use Rattle.py_parser.proofs.blocks.Built.with.Goals as goal

-- src/blocks.rt
pub returns-clause-trees : goal.returns-clause-trees
returns-clause-trees c h is = c.in_ok-more.ensures.trees h is

-- src/blocks.rt
pub returns-clause-globals : goal.returns-clause-globals
returns-clause-globals c h is = c.in_ok-more.ensures.globals h is

-- src/blocks.rt
pub returns-clause-stmt : goal.returns-clause-stmt
returns-clause-stmt c h is = c.in_ok-more.ensures.stmt h is
