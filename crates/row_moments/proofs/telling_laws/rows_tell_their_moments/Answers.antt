use Rattle.row_moments.proofs.RowsBack.{rows_back}
use Rattle.row_moments.proofs.telling_laws.rows_tell_their_moments.Goals as goal

pub returns : goal.returns
returns c = λ moments ones is few. rows_back moments ones is few
