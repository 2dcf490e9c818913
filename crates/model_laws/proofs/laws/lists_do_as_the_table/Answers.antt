use Rattle.model_laws.proofs.laws.lists_do_as_the_table.Goals as goal
use Rattle.model_laws.proofs.Lists.{append_does, setitem_does, delitem_does, pop_does, pop_last_does, insert_does, extend_does, iadd_does, reverse_does}

pub returns-clause-append : goal.returns-clause-append
returns-clause-append c = λ store answers o items item listed. append_does store answers o items listed item

pub returns-clause-setitem : goal.returns-clause-setitem
returns-clause-setitem c = λ store answers o items index i item listed is. setitem_does store answers o items listed index i item is

pub returns-clause-delitem : goal.returns-clause-delitem
returns-clause-delitem c = λ store answers o items index i listed is. delitem_does store answers o items listed index i is

pub returns-clause-pop : goal.returns-clause-pop
returns-clause-pop c = λ store answers o items index i listed is. pop_does store answers o items listed index i is

pub returns-clause-pop_last : goal.returns-clause-pop_last
returns-clause-pop_last c = λ store answers o items listed. pop_last_does store answers o items listed

pub returns-clause-insert : goal.returns-clause-insert
returns-clause-insert c = λ store answers o items index i item listed is. insert_does store answers o items listed index i item is

pub returns-clause-extend : goal.returns-clause-extend
returns-clause-extend c = λ store answers o items more other listed has. extend_does store answers o items listed other more has

pub returns-clause-iadd : goal.returns-clause-iadd
returns-clause-iadd c = λ store answers o items more other listed has. iadd_does store answers o items listed other more has

pub returns-clause-reverse : goal.returns-clause-reverse
returns-clause-reverse c = λ store answers o items listed. reverse_does store answers o items listed
