use Rattle.row_moments.proofs.RowsBack.{interned_rows_back}
use Rattle.row_moments.proofs.telling_laws.interned_rows_tell_their_moments.Goals as goal

pub returns : goal.returns
returns c = λ moments ones is interned. interned_rows_back moments ones is interned
