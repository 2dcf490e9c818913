use Rattle.std.proofs.Common.{sym, ap, ◌∙◌}
use Rattle.op_work.specs.Work.{Comes, is_any, seen_maybe}
use Rattle.op_work.proofs.Going.{comes_as, comes_stop, passes_err}
use Rattle.op_classes.specs.Chains.{next_step}
use Rattle.op_classes.proofs.Walking.{onward, next_seen}
use Rattle.op_classes.proofs.chains.next_of.Goals as goal

pub returns-in_err-base : goal.returns-in_err-base
returns-in_err-base c = passes_err (λ result. Comes is_any seen_maybe (λ table. next_step c.args.place) c.args.work.now c.read_base.new.self result)
    c.from_residual.result c.from_residual.ensures.1 (comes_stop (onward c.args.place) c.in_err-base.ensures)

pub returns : goal.returns
returns c = comes_as (onward c.args.place) c.next_class.result c.in_ok-base.ensures tt
    (λ table interned extends go. ap go (next_seen table c.args.place c.in_ok-base.base ∙ ap (seen_maybe table) (sym c.next_class.ensures)))
