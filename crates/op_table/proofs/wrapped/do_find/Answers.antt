use Rattle.std.proofs.Common.{refl}
use Rattle.py_model.specs.Classes.{find}
use Rattle.py_value.specs.Seen.{bytes_of}
use Rattle.op_work.specs.Work.{Ends}
use Rattle.op_work.proofs.Ending.{ends_then, ends_stop}
use Rattle.op_work.proofs.Going.{passes_err}
use Rattle.op_table.specs.Table.{planned}
use Rattle.op_table.proofs.Numbered.{at_number}
use Rattle.op_table.proofs.wrapped.do_find.Goals as goal

pub returns-in_err-v : goal.returns-in_err-v
returns-in_err-v c = passes_err (λ result. Ends (planned c.args.op c.args.operands.now) c.args.work.now c.one.new.work result) c.from_residual.result c.from_residual.ensures.1
    (at_number 32 c.args.op c.args.operands.now c.requires.number (λ table. refl) (ends_stop (λ table v. find (bytes_of table c.args.op.name) v) _ c.in_err-v.ensures))

pub returns : goal.returns
returns c = at_number 32 c.args.op c.args.operands.now c.requires.number (λ table. refl)
    (ends_then (λ table v. find (bytes_of table c.args.op.name) v) c.in_ok-v.ensures (λ table interned extends. refl) c.find.ensures)
