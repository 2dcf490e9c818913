use Rattle.std.proofs.Common.{refl}
use Rattle.py_model.specs.Plan.{read_entry}
use Rattle.py_value.specs.Contents.{contents}
use Rattle.op_work.specs.Entries.{IsNamedEntry, seen_entry}
use Rattle.op_work.specs.Work.{Comes}
use Rattle.op_work.proofs.Going.{comes_then, comes_stop, passes_err}
use Rattle.op_lists.proofs.entries.entry_at.Goals as goal

pub returns-in_err-key : goal.returns-in_err-key
returns-in_err-key c = passes_err
    (λ result. Comes IsNamedEntry seen_entry (λ table. read_entry c.args.o (contents table c.args.v)) c.args.work.now c.order_key.new.work result)
    c.from_residual.result c.from_residual.ensures.1
    (comes_stop (λ table key go. read_entry c.args.o key go) c.in_err-key.ensures)

pub returns : goal.returns
returns c = comes_then (λ table key go. read_entry c.args.o key go) c.in_ok-key.ensures (λ table interned extends go. refl) c.read_entry.ensures
