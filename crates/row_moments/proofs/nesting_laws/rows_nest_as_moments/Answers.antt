use Rattle.row_moments.proofs.NestingRows.{rows_nest}
use Rattle.row_moments.proofs.nesting_laws.rows_nest_as_moments.Goals as goal

pub returns : goal.returns
returns c = λ moments open_ones is. rows_nest moments open_ones is
