use Rattle.py_model.proofs.Payments.{dear_operation, dear_statement, dear_entry}
use Rattle.py_model.proofs.laws.unpaid_ends_the_run.Goals as goal

pub returns-clause-operations : goal.returns-clause-operations
returns-clause-operations c = dear_operation

pub returns-clause-statements : goal.returns-clause-statements
returns-clause-statements c = dear_statement

pub returns-clause-entries : goal.returns-clause-entries
returns-clause-entries c = dear_entry
