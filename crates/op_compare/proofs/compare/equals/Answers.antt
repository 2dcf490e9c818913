use Rattle.std.proofs.Common.{sym, ap}
use Rattle.py_model.specs.Walks.{equals, is_alike}
use Rattle.py_value.specs.Contents.{contents}
use Rattle.op_work.specs.Work.{Comes, is_any, as_is}
use Rattle.op_work.proofs.Going.{comes_stop, comes_as, passes_err}
use Rattle.op_compare.proofs.compare.equals.Goals as goal

pub returns-in_err-compared : goal.returns-in_err-compared
returns-in_err-compared c = passes_err (λ result. Comes is_any as_is (λ table. equals (contents table c.args.v) (contents table c.args.w)) c.args.work.now c.compare_to.new.work result)
    c.from_residual.result c.from_residual.ensures.1 (comes_stop (λ table x go. go (is_alike x)) c.in_err-compared.ensures)

pub returns : goal.returns
returns c = comes_as (λ table x go. go (is_alike x)) c.is_alike.result c.in_ok-compared.ensures tt (λ table interned extends go. ap go (sym c.is_alike.ensures))
