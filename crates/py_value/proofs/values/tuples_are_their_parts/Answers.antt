use Rattle.py_value.proofs.SameContents.{tuple_parts}
use Rattle.py_value.proofs.values.tuples_are_their_parts.Goals as goal

pub returns : goal.returns
returns c = λ view id items interned is. tuple_parts view interned id items is
