use Rattle.row_moments.proofs.Interned.{order_in, interned_in, named_in}
use Rattle.row_moments.proofs.laws.rows_in_order_are_interned.Goals as goal

pub returns-clause-order : goal.returns-clause-order
returns-clause-order c = λ rows ordered. order_in rows ordered

pub returns-clause-interned : goal.returns-clause-interned
returns-clause-interned c = λ rows ordered few. interned_in rows ordered few

pub returns-clause-named : goal.returns-clause-named
returns-clause-named c = λ rows ordered i row at. named_in rows ordered i row at
