use Rattle.std.proofs.Common.{rules}
use Rattle.py_tree.proofs.StmtTrees.{form_trees}
use Rattle.py_tree.proofs.BindsLeaves.{nameless_binds_none}
use Rattle.py_tree.proofs.stmt.Form.binds.Goals as goal

pub returns-in-Assign : goal.returns-in-Assign
returns-in-Assign c = search (rules, form_trees)

pub returns-in-Aug : goal.returns-in-Aug
returns-in-Aug c = search (rules, form_trees)

pub returns-in-Del : goal.returns-in-Del
returns-in-Del c = search (rules, form_trees)

pub returns-in-Import : goal.returns-in-Import
returns-in-Import c = search (rules, form_trees)

pub returns-in-For : goal.returns-in-For
returns-in-For c = search (rules, form_trees)

pub returns-in-Try : goal.returns-in-Try
returns-in-Try c = search (rules, form_trees)

pub returns-in-With : goal.returns-in-With
returns-in-With c = search (rules, form_trees)

pub returns-in-Def : goal.returns-in-Def
returns-in-Def c = search (rules, form_trees)

pub returns-in-Class : goal.returns-in-Class
returns-in-Class c = search (rules, form_trees)

pub returns-in_default : goal.returns-in_default
returns-in_default c = nameless_binds_none c.args.name.now c.args.self.now (record {
  not_assign = c.in_default.not-Assign;
  not_aug = c.in_default.not-Aug;
  not_del = c.in_default.not-Del;
  not_import = c.in_default.not-Import;
  not_for = c.in_default.not-For;
  not_try = c.in_default.not-Try;
  not_with = c.in_default.not-With;
  not_def = c.in_default.not-Def;
  not_class = c.in_default.not-Class;
})
