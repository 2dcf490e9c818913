use Rattle.std.proofs.Common.{rules}
use Rattle.py_tree.proofs.StmtTrees.{form_trees}
use Rattle.py_tree.proofs.BindsLeaves.{other_is_no_class}
use Rattle.py_tree.proofs.stmt.Form.is_class.Goals as goal

pub returns-in-Class : goal.returns-in-Class
returns-in-Class c = search (rules, form_trees)

pub returns-in_default : goal.returns-in_default
returns-in_default c = other_is_no_class c.args.self.now c.in_default.not-Class
