use Rattle.delivery.proofs.whole.close_behind.Goals as goal

pub returns-in-Ok-clause-closes : goal.returns-in-Ok-clause-closes
returns-in-Ok-clause-closes g c = rw c.in-Ok.is c.close.ensures.closes

pub returns-in-Err-Failed-clause-closes : goal.returns-in-Err-Failed-clause-closes
returns-in-Err-Failed-clause-closes g c = rw c.in-Err-Failed.is (rw (rw c.in-Err-Failed.is at c.in-Err-Failed.field-0-is) c.close_failed.ensures.closes)

pub returns-in-Err-Memory-clause-closes : goal.returns-in-Err-Memory-clause-closes
returns-in-Err-Memory-clause-closes g c = rw c.in-Err-Memory.is (rw (rw c.in-Err-Memory.is at c.in-Err-Memory.field-0-is) c.close-in-Err-Memory.ensures.closes)
