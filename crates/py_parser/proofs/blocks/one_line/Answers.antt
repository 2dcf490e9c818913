use Rattle.py_parser.proofs.BlockHeads.{suite_of_one}
use Rattle.py_parser.proofs.blocks.one_line.Goals as goal

-- src/blocks.rt
pub returns-clause-tree : goal.returns-clause-tree
returns-clause-tree c s is = suite_of_one _ _ c.args.behind c.in_ok-form.form s c.new-list.result.items c.push.new.self.items c.in_ok-form.ensures.ok c.new-list.ensures.items c.in_ok-push.ensures.items is
