use Rattle.row_moments.proofs.OrderedRows.{rows_ordered}
use Rattle.row_moments.proofs.nesting_laws.rows_name_what_stands.Goals as goal

pub returns : goal.returns
returns c = λ moments. rows_ordered moments
