use Rattle.py_model.proofs.Agreements.{every_noteless}
use Rattle.py_model.proofs.Noting.{names_after}
use Rattle.py_model.specs.Operations.{plan}
use Rattle.py_model.proofs.laws.few_operations_note.Goals as goal

pub returns : goal.returns
returns c = λ store answers op values place none. names_after store answers (plan op values) (every_noteless op values none) place
