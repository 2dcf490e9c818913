use Rattle.row_checks.proofs.NamedBelow.{kept_in_order}
use Rattle.row_checks.proofs.laws.kept_rows_name_in_order.Goals as goal

pub returns : goal.returns
returns c = λ statements rows kept. kept_in_order statements rows kept
