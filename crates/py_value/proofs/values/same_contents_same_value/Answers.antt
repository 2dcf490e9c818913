use Rattle.py_value.proofs.SameContents.{same_contents}
use Rattle.py_value.proofs.values.same_contents_same_value.Goals as goal

pub returns : goal.returns
returns c = λ view v w interned a b same. same_contents view interned v w a b same
