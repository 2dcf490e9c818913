use Rattle.std.proofs.Common.{refl}
use Rattle.model_laws.proofs.laws.sequences_do_as_the_table.Goals as goal
use Rattle.model_laws.proofs.Ranges.{in_range_does, not_in_range_does, other_in_range, other_not_in_range, range_numbers}
use Rattle.model_laws.proofs.Alone.{tuple_item, range_item, tuple_slice, tuple_times, tuple_length, range_length, tuple_unpacked, tuple_next, text_next, range_next}

pub returns-clause-getitem : goal.returns-clause-getitem
returns-clause-getitem c = λ store answers parts index i is. tuple_item store answers parts index i is

pub returns-clause-getitem_of_range : goal.returns-clause-getitem_of_range
returns-clause-getitem_of_range c = λ store answers start end step index i is. range_item store answers start end step index i is

pub returns-clause-slice : goal.returns-clause-slice
returns-clause-slice c = λ store answers parts low high l h low_is high_is. tuple_slice store answers parts low high l h low_is high_is

pub returns-clause-add : goal.returns-clause-add
returns-clause-add c = λ store answers ps qs. record { answer_is = refl; made_is = refl; after_is = refl }

pub returns-clause-mul : goal.returns-clause-mul
returns-clause-mul c = λ store answers parts number i is. tuple_times store answers parts number i is

pub returns-clause-len : goal.returns-clause-len
returns-clause-len c = tuple_length

pub returns-clause-len_of_range : goal.returns-clause-len_of_range
returns-clause-len_of_range c = range_length

pub returns-clause-unpack : goal.returns-clause-unpack
returns-clause-unpack c = tuple_unpacked

pub returns-clause-next_of_tuple : goal.returns-clause-next_of_tuple
returns-clause-next_of_tuple c = tuple_next

pub returns-clause-next_of_text : goal.returns-clause-next_of_text
returns-clause-next_of_text c = text_next

pub returns-clause-next_of_range : goal.returns-clause-next_of_range
returns-clause-next_of_range c = range_next

pub returns-clause-in_range : goal.returns-clause-in_range
returns-clause-in_range c = in_range_does

pub returns-clause-not_in_range : goal.returns-clause-not_in_range
returns-clause-not_in_range c = not_in_range_does

pub returns-clause-other_in_range : goal.returns-clause-other_in_range
returns-clause-other_in_range c = other_in_range

pub returns-clause-other_not_in_range : goal.returns-clause-other_not_in_range
returns-clause-other_not_in_range c = other_not_in_range

pub returns-clause-iter_of_tuple : goal.returns-clause-iter_of_tuple
returns-clause-iter_of_tuple c = λ store answers parts. record { answer_is = refl; made_is = refl; after_is = refl }

pub returns-clause-iter_of_range : goal.returns-clause-iter_of_range
returns-clause-iter_of_range c = λ store answers start end step. record { answer_is = refl; made_is = refl; after_is = refl }

pub returns-clause-iter_of_text : goal.returns-clause-iter_of_text
returns-clause-iter_of_text c = λ store answers bytes. record { answer_is = refl; made_is = refl; after_is = refl }

pub returns-clause-range : goal.returns-clause-range
returns-clause-range c = range_numbers
