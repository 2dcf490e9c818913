use Rattle.std.proofs.Common.{refl}
use Rattle.model_laws.proofs.laws.walks_do_as_the_table.Goals as goal
use Rattle.model_laws.proofs.Sums.{sum_does, sum_refused}
use Rattle.model_laws.proofs.Alone.{listed, tupled, enumerated, zipped, list_displayed}

pub returns-clause-list : goal.returns-clause-list
returns-clause-list c = listed

pub returns-clause-tuple : goal.returns-clause-tuple
returns-clause-tuple c = tupled

pub returns-clause-enumerate : goal.returns-clause-enumerate
returns-clause-enumerate c = enumerated

pub returns-clause-zip : goal.returns-clause-zip
returns-clause-zip c = λ store answers v w items more has other. zipped store answers v items has w more other

pub returns-clause-list_display : goal.returns-clause-list_display
returns-clause-list_display c = list_displayed

pub returns-clause-tuple_display : goal.returns-clause-tuple_display
returns-clause-tuple_display c = λ store answers items. record { answer_is = refl; made_is = refl; after_is = refl }

pub returns-clause-sum : goal.returns-clause-sum
returns-clause-sum c = λ store answers v items all has is. sum_does store answers v items has all is

pub returns-clause-sum_refused : goal.returns-clause-sum_refused
returns-clause-sum_refused c = sum_refused
