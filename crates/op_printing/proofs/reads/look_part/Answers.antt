use Rattle.std.proofs.Common.{◌∙◌, sym, ap}
use Rattle.py_model.specs.Plan.{Plan, looks}
use Rattle.py_value.specs.Contents.{Contents, contents}
use Rattle.py_value.specs.Values.{IsNamed}
use Rattle.op_work.specs.Work.{Comes}
use Rattle.op_work.proofs.Going.{comes_stop, comes_as, passes_err}
use Rattle.op_lists.specs.Parts.{part_in}
use Rattle.op_lists.proofs.TupleParts.{part_stays, more_tuples}
use Rattle.op_printing.proofs.reads.look_part.Goals as goal

pub returns-in_err-look : goal.returns-in_err-look
returns-in_err-look c = passes_err
    (λ result. Comes IsNamed contents (λ table (go : Contents → Plan). looks 1 (go (contents table (part_in table c.args.id c.args.i)))) c.args.work.now c.look.new.self result)
    c.from_residual.result c.from_residual.ensures.1
    (comes_stop (λ table done go. go (contents table (part_in table c.args.id c.args.i))) c.in_err-look.ensures)

pub returns : goal.returns
returns c = comes_as (λ table done go. go (contents table (part_in table c.args.id c.args.i))) _ c.in_ok-look.ensures c.part_at.ensures.named
    (λ table interned extends go. ap (λ v. go (contents table v)) (part_stays extends c.args.id c.args.i (more_tuples c.look.ensures.kept.extends c.args.id c.requires) ∙ sym c.part_at.ensures.part))
