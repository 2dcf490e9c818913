use Rattle.std.proofs.Common.{ap}
use Rattle.row_moments.specs.Moments.{moments_by}
use Rattle.row_moments.proofs.Interned.{turned}
use Rattle.row_moments.proofs.laws.one_row_tells_one_moment.Goals as goal

pub returns : goal.returns
returns c = λ view rows row. ap (moments_by view) (turned rows row)
