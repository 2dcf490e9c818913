use Rattle.row_checks.proofs.KeptFronts.{not_both, one_first}
use Rattle.row_checks.proofs.laws.one_row_is_first_unkept.Goals as goal

pub returns-clause-kept : goal.returns-clause-kept
returns-clause-kept c = λ statements rows i kept first. not_both statements rows i kept first

pub returns-clause-first : goal.returns-clause-first
returns-clause-first c = λ statements rows i j one other. one_first statements rows i j one other
