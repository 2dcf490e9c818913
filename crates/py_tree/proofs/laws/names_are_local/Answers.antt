use Rattle.py_tree.proofs.ScopeLaws.{bound_by_statements, scope_is_all, numbers_bind_nothing, suite_binds_no_more, local_no_more}
use Rattle.py_tree.proofs.laws.names_are_local.Goals as goal

pub returns : goal.returns
returns c = record { bound = bound_by_statements; scope = scope_is_all; numbers = numbers_bind_nothing; deletion = suite_binds_no_more; local = local_no_more }
