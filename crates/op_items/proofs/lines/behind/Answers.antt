use Rattle.std.proofs.Common.{refl}
use Rattle.op_work.specs.Work.{WroteAll}
use Rattle.py_model.specs.Plan.{write, done}
use Rattle.py_value.specs.Contents.{contents}
use Rattle.py_value.specs.Seen.{offset_at, offset_is}
use Rattle.op_lists.proofs.NamedValues.{named_stays}
use Rattle.op_work.proofs.Ending.{writes_then, writes_stop, writes_done}
use Rattle.op_work.proofs.Going.{passes_err}
use Rattle.op_items.proofs.lines.behind.Goals as goal

pub returns-in_err-set : goal.returns-in_err-set
returns-in_err-set c = passes_err (λ result. WroteAll (λ table. write (offset_at c.args.o) (offset_is c.args.end) (done (contents table c.args.line))) c.args.work.now c.set.new.self result) c.from_residual.result c.from_residual.ensures.1
    (writes_stop (λ table. done (contents table c.args.line)) c.in_err-set.field-0.0 c.in_err-set.ensures)

pub returns : goal.returns
returns c = writes_then c.in_ok-set.ensures (writes_done c.set.new.self c.args.line (λ table. done (contents table c.args.line))
    (named_stays c.args.work.now.values c.set.new.self.values c.set.ensures.kept.extends.few c.args.line c.requires.named) (λ table extends. refl))
