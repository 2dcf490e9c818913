use Rattle.std.proofs.Common.{refl}
use Rattle.model_laws.proofs.laws.texts_do_as_the_table.Goals as goal
use Rattle.model_laws.proofs.Written.{character_of_code, code_of_character}
use Rattle.model_laws.proofs.Alone.{text_item, text_slice, text_times, text_length}

pub returns-clause-getitem : goal.returns-clause-getitem
returns-clause-getitem c = λ store answers bytes index i is. text_item store answers bytes index i is

pub returns-clause-slice : goal.returns-clause-slice
returns-clause-slice c = λ store answers bytes low high l h low_is high_is. text_slice store answers bytes low high l h low_is high_is

pub returns-clause-add : goal.returns-clause-add
returns-clause-add c = λ store answers one other. record { answer_is = refl; made_is = refl; after_is = refl }

pub returns-clause-mul : goal.returns-clause-mul
returns-clause-mul c = λ store answers bytes number i is. text_times store answers bytes number i is

pub returns-clause-contains : goal.returns-clause-contains
returns-clause-contains c = λ store answers sought bytes. record { answer_is = refl; made_is = refl; after_is = refl }

pub returns-clause-len : goal.returns-clause-len
returns-clause-len c = text_length

pub returns-clause-lacks : goal.returns-clause-lacks
returns-clause-lacks c = λ store answers sought bytes. record { answer_is = refl; made_is = refl; after_is = refl }

pub returns-clause-chr : goal.returns-clause-chr
returns-clause-chr c = character_of_code

pub returns-clause-ord : goal.returns-clause-ord
returns-clause-ord c = code_of_character
