use Rattle.delivery.proofs.lines.uncaught_line.Goals as goal

pub returns-in-Some : goal.returns-in-Some
returns-in-Some c = rw c.in-Some.is c.text_line.ensures

pub returns-in-None : goal.returns-in-None
returns-in-None c = rw c.in-None.is c.bare_line.ensures
