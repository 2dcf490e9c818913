use Rattle.std.proofs.Common.{rules}
use Rattle.py_tree.proofs.StmtTrees.{form_trees}
use Rattle.py_tree.proofs.OwnersLeaves.{other_is_no_def}
use Rattle.py_tree.proofs.stmt.Form.is_def.Goals as goal

pub returns-in-Def : goal.returns-in-Def
returns-in-Def c = search (rules, form_trees)

pub returns-in_default : goal.returns-in_default
returns-in_default c = other_is_no_def c.args.self.now c.in_default.not-Def
