use Rattle.model_laws.proofs.laws.dicts_do_as_the_table.Goals as goal
use Rattle.model_laws.proofs.Dicts.{getitem_does, setitem_does, delitem_does, in_does, get_does, get_none_does, len_does, items_does, keys_does, values_does, pairs_read, dict_truth, dict_not, dict_iter, dict_next, not_in_does}

pub returns-clause-getitem : goal.returns-clause-getitem
returns-clause-getitem c = λ store answers o pairs key is usable. getitem_does c.tests_are_equality.ensures.values store answers o pairs is key usable

pub returns-clause-setitem : goal.returns-clause-setitem
returns-clause-setitem c = λ store answers o pairs key item is usable. setitem_does c.tests_are_equality.ensures.values store answers o pairs is key item usable

pub returns-clause-delitem : goal.returns-clause-delitem
returns-clause-delitem c = λ store answers o pairs key is usable. delitem_does c.tests_are_equality.ensures.values store answers o pairs is key usable

pub returns-clause-contains : goal.returns-clause-contains
returns-clause-contains c = λ store answers o pairs key is usable. in_does c.tests_are_equality.ensures.values store answers o pairs is key usable

pub returns-clause-get : goal.returns-clause-get
returns-clause-get c = λ store answers o pairs key instead is usable. get_does c.tests_are_equality.ensures.values store answers o pairs is key instead usable

pub returns-clause-get_or_none : goal.returns-clause-get_or_none
returns-clause-get_or_none c = λ store answers o pairs key is usable. get_none_does c.tests_are_equality.ensures.values store answers o pairs is key usable

pub returns-clause-len : goal.returns-clause-len
returns-clause-len c = λ store answers o pairs is. len_does c.tests_are_equality.ensures.values store answers o pairs is

pub returns-clause-items : goal.returns-clause-items
returns-clause-items c = λ store answers o pairs is. items_does c.tests_are_equality.ensures.values store answers o pairs is

pub returns-clause-keys : goal.returns-clause-keys
returns-clause-keys c = λ store answers o pairs is. keys_does c.tests_are_equality.ensures.values store answers o pairs is

pub returns-clause-values : goal.returns-clause-values
returns-clause-values c = λ store answers o pairs is. values_does c.tests_are_equality.ensures.values store answers o pairs is

pub returns-clause-read : goal.returns-clause-read
returns-clause-read c = pairs_read c.tests_are_equality.ensures.values

pub returns-clause-truth : goal.returns-clause-truth
returns-clause-truth c = dict_truth c.tests_are_equality.ensures.values

pub returns-clause-negation : goal.returns-clause-negation
returns-clause-negation c = dict_not c.tests_are_equality.ensures.values

pub returns-clause-iter : goal.returns-clause-iter
returns-clause-iter c = dict_iter c.tests_are_equality.ensures.values

pub returns-clause-next : goal.returns-clause-next
returns-clause-next c = λ store answers o pairs turn begun is. dict_next c.tests_are_equality.ensures.values store answers o pairs is turn begun

pub returns-clause-lacks : goal.returns-clause-lacks
returns-clause-lacks c = λ store answers o pairs key is usable. not_in_does c.tests_are_equality.ensures.values store answers o pairs is key usable
