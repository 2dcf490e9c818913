use Rattle.model_laws.proofs.Members.{list_truth, list_not, list_unpacked, list_iter, list_next}
use Rattle.model_laws.proofs.laws.lists_are_read_as_the_table.Goals as goal
use Rattle.model_laws.proofs.Lists.{getitem_does, len_does, add_does, slice_does, mul_does}

pub returns-clause-getitem : goal.returns-clause-getitem
returns-clause-getitem c = λ store answers o items index i listed is. getitem_does store answers o items listed index i is

pub returns-clause-len : goal.returns-clause-len
returns-clause-len c = λ store answers o items listed. len_does store answers o items listed

pub returns-clause-add : goal.returns-clause-add
returns-clause-add c = λ store answers o p items more listed other. add_does store answers o items listed p more other

pub returns-clause-slice : goal.returns-clause-slice
returns-clause-slice c = λ store answers o items low high l h listed low_is high_is. slice_does store answers o items listed low high l h low_is high_is

pub returns-clause-mul : goal.returns-clause-mul
returns-clause-mul c = λ store answers o items number i listed is. mul_does store answers o items listed number i is

pub returns-clause-truth : goal.returns-clause-truth
returns-clause-truth c = list_truth

pub returns-clause-negation : goal.returns-clause-negation
returns-clause-negation c = list_not

pub returns-clause-unpack : goal.returns-clause-unpack
returns-clause-unpack c = λ store answers o items targets listed. list_unpacked store answers o items listed targets

pub returns-clause-iter : goal.returns-clause-iter
returns-clause-iter c = list_iter

pub returns-clause-next : goal.returns-clause-next
returns-clause-next c = λ store answers o items turn begun listed. list_next store answers o items listed turn begun
