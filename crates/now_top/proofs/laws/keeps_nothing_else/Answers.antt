use Rattle.now_top.proofs.Completing.{untouched_so, tables_stay}
use Rattle.now_top.proofs.laws.keeps_nothing_else.Goals as goal

pub returns-clause-tables : goal.returns-clause-tables
returns-clause-tables c = λ words before after was is status so none. tables_stay words before after was is status so none

pub returns-clause-unasked : goal.returns-clause-unasked
returns-clause-unasked c = λ words before after was is status so none blind. untouched_so words before after was is status so none blind
