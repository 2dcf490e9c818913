use Rattle.py_value.proofs.KeyFaults.{fault_is}
use Rattle.py_value.proofs.laws.key_faults_of_contents.Goals as goal

pub returns : goal.returns
returns c = λ view levels v interned named. fault_is view interned levels v named
