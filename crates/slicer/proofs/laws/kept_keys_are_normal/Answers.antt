use Rattle.slicer.proofs.PlainKeys.{normal_row}
use Rattle.slicer.proofs.laws.kept_keys_are_normal.Goals as goal

pub returns : goal.returns
returns c = λ view row interned named is. normal_row view interned row named is
