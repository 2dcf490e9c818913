use Rattle.py_value.proofs.SameContents.{contents_stay}
use Rattle.py_value.proofs.values.contents_stay.Goals as goal

pub returns : goal.returns
returns c = λ old new v interned texts tuples named. contents_stay old new interned texts tuples v named
