use Rattle.std.proofs.Common.{ap, arith}
use Rattle.op_work.specs.Work.{WorkView}
use Rattle.op_atoms.proofs.Beginning.{begins}
use Rattle.op_atoms.proofs.telling.begin.Goals as goal

pub returns-clause-fresh : goal.returns-clause-fresh
returns-clause-fresh c = ap (λ (w : WorkView). w.made) (begins _ 4294967295 c.begin.result (omega arith) c.begin.ensures.begun c.begin.ensures.dear)

pub returns-clause-unsaid : goal.returns-clause-unsaid
returns-clause-unsaid c = ap (λ (w : WorkView). w.note) (begins _ 4294967295 c.begin.result (omega arith) c.begin.ensures.begun c.begin.ensures.dear)

pub returns-clause-store : goal.returns-clause-store
returns-clause-store c = ap (λ (w : WorkView). w.store) (begins _ 4294967295 c.begin.result (omega arith) c.begin.ensures.begun c.begin.ensures.dear)

pub returns-clause-values : goal.returns-clause-values
returns-clause-values c = ap (λ (w : WorkView). w.values) (begins _ 4294967295 c.begin.result (omega arith) c.begin.ensures.begun c.begin.ensures.dear)
