use Rattle.py_tree.proofs.BindsLeaves.{nameless_binds_none}
use Rattle.script_names.proofs.locals.form_binds.Goals as goal

pub returns-in_default : goal.returns-in_default
returns-in_default c = nameless_binds_none c.args.name.now c.args.form.now (record {
  not_assign = c.in_default.not-Assign;
  not_aug = c.in_default.not-Aug;
  not_del = c.in_default.not-Del;
  not_import = c.in_default.not-Import;
  not_for = c.in_default.not-For;
  not_try = c.in_default.not-Try;
  not_with = c.in_default.not-With;
  not_def = c.in_default.not-Def;
  not_class = c.in_default.not-Class;
})
