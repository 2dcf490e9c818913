use Rattle.model_laws.proofs.laws.values_are_printed_as_the_table.Goals as goal
use Rattle.model_laws.proofs.Printing.{repr_does, repr_deep, str_does, str_deep, print_does, print_deep}

pub returns-clause-repr : goal.returns-clause-repr
returns-clause-repr c = λ store answers v bytes dicts is. repr_does store answers c.tests_are_equality.ensures.values dicts v bytes is

pub returns-clause-repr_deep : goal.returns-clause-repr_deep
returns-clause-repr_deep c = λ store answers v dicts is. repr_deep store answers c.tests_are_equality.ensures.values dicts v is

pub returns-clause-str : goal.returns-clause-str
returns-clause-str c = λ store answers v bytes dicts is. str_does store answers c.tests_are_equality.ensures.values dicts v bytes is

pub returns-clause-str_deep : goal.returns-clause-str_deep
returns-clause-str_deep c = λ store answers v dicts is. str_deep store answers c.tests_are_equality.ensures.values dicts v is

pub returns-clause-print : goal.returns-clause-print
returns-clause-print c = λ store answers values lines dicts is. print_does store answers c.tests_are_equality.ensures.values dicts values lines is

pub returns-clause-print_deep : goal.returns-clause-print_deep
returns-clause-print_deep c = λ store answers values dicts is. print_deep store answers c.tests_are_equality.ensures.values dicts values is
