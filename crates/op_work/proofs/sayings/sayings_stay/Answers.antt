use Rattle.op_work.proofs.Saying.{sayings_grown, sayings_opened, sayings_noted}
use Rattle.op_work.proofs.sayings.sayings_stay.Goals as goal

pub returns-clause-grown : goal.returns-clause-grown
returns-clause-grown c = sayings_grown

pub returns-clause-opened : goal.returns-clause-opened
returns-clause-opened c = sayings_opened

pub returns-clause-noted : goal.returns-clause-noted
returns-clause-noted c = sayings_noted
