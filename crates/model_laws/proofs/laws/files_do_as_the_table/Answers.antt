use Rattle.model_laws.proofs.laws.files_do_as_the_table.Goals as goal
use Rattle.model_laws.proofs.Files.{read_does, readline_does, write_does, close_does, iter_does, next_line_does}

pub returns-clause-read : goal.returns-clause-read
returns-clause-read c = λ store answers o file is. read_does c.tests_are_equality.ensures.locations store answers o file is

pub returns-clause-readline : goal.returns-clause-readline
returns-clause-readline c = λ store answers o file is. readline_does c.tests_are_equality.ensures.locations store answers o file is

pub returns-clause-write : goal.returns-clause-write
returns-clause-write c = λ store answers o file more is. write_does c.tests_are_equality.ensures.locations store answers o file is more

pub returns-clause-close : goal.returns-clause-close
returns-clause-close c = λ store answers o file is. close_does c.tests_are_equality.ensures.locations store answers o file is

pub returns-clause-iter : goal.returns-clause-iter
returns-clause-iter c = λ store answers o file is. iter_does c.tests_are_equality.ensures.locations store answers o file is

pub returns-clause-next : goal.returns-clause-next
returns-clause-next c = λ store answers o file turn begun is. next_line_does c.tests_are_equality.ensures.locations store answers o file is turn begun
