use Rattle.py_model.proofs.Payments.{happens_where_paid}
use Rattle.py_model.proofs.laws.operations_are_paid.Goals as goal

pub returns : goal.returns
returns c = happens_where_paid
