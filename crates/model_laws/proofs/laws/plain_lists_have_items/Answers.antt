use Rattle.model_laws.proofs.laws.plain_lists_have_items.Goals as goal
use Rattle.model_laws.proofs.PlainLists.{plain_is_list, list_is_plain, list_is_read}

pub returns-clause-plain : goal.returns-clause-plain
returns-clause-plain c = plain_is_list

pub returns-clause-one : goal.returns-clause-one
returns-clause-one c = λ store o items listed. (list_is_plain store o items listed, list_is_read store o items listed)
