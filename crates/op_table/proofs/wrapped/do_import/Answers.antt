use Rattle.std.proofs.Common.{refl}
use Rattle.py_model.specs.Classes.{import_module}
use Rattle.py_value.specs.Contents.{contents}
use Rattle.py_value.specs.Seen.{bytes_of}
use Rattle.op_work.specs.Work.{Ends}
use Rattle.op_work.proofs.Ending.{ends_then, ends_stop}
use Rattle.op_work.proofs.Going.{passes_err}
use Rattle.op_table.specs.Table.{planned}
use Rattle.op_table.proofs.Numbered.{at_number}
use Rattle.op_table.proofs.wrapped.do_import.Goals as goal

pub returns-in_err-none : goal.returns-in_err-none
returns-in_err-none c = passes_err (λ result. Ends (planned c.args.op c.args.operands.now) c.args.work.now c.none.new.work result) c.from_residual.result c.from_residual.ensures.1
    (at_number 44 c.args.op c.args.operands.now c.requires.number (λ table. refl) (ends_stop (λ table u. import_module c.args.op.scope (bytes_of table c.args.op.name) (contents table c.args.op.value)) _ c.in_err-none.ensures))

pub returns : goal.returns
returns c = at_number 44 c.args.op c.args.operands.now c.requires.number (λ table. refl)
    (ends_then (λ table u. import_module c.args.op.scope (bytes_of table c.args.op.name) (contents table c.args.op.value)) c.in_ok-none.ensures (λ table interned extends. refl) c.import_module.ensures)
