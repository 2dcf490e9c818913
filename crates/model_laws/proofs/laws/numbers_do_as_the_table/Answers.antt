use Rattle.model_laws.proofs.laws.numbers_do_as_the_table.Goals as goal
use Rattle.std.proofs.Common.{refl}
use Rattle.model_laws.proofs.Written.{text_of_number, number_of_text}
use Rattle.model_laws.proofs.Alone.{negated, positive, without_sign, subtracted, multiplied_does, floor_divided, remaining, summed, turned}

pub returns-clause-neg : goal.returns-clause-neg
returns-clause-neg c = negated

pub returns-clause-pos : goal.returns-clause-pos
returns-clause-pos c = positive

pub returns-clause-abs : goal.returns-clause-abs
returns-clause-abs c = without_sign

pub returns-clause-sub : goal.returns-clause-sub
returns-clause-sub c = λ store answers v w i j is other. subtracted store answers v i is w j other

pub returns-clause-mul : goal.returns-clause-mul
returns-clause-mul c = λ store answers v w i j is other. multiplied_does store answers v i is w j other

pub returns-clause-floordiv : goal.returns-clause-floordiv
returns-clause-floordiv c = λ store answers v w i j is other. floor_divided store answers v i is w j other

pub returns-clause-remainder : goal.returns-clause-remainder
returns-clause-remainder c = λ store answers v w i j is other. remaining store answers v i is w j other

pub returns-clause-add : goal.returns-clause-add
returns-clause-add c = summed

pub returns-clause-repeats : goal.returns-clause-repeats
returns-clause-repeats c = turned

pub returns-clause-str : goal.returns-clause-str
returns-clause-str c = text_of_number

pub returns-clause-repr : goal.returns-clause-repr
returns-clause-repr c = λ store answers i. record { answer_is = refl; made_is = refl; after_is = refl }

pub returns-clause-int : goal.returns-clause-int
returns-clause-int c = number_of_text
