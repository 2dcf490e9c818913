use Rattle.std.proofs.Common.{refl, ap, true}
use Rattle.py_model.specs.Arithmetic.{unless_apart}
use Rattle.py_model.specs.Faults.{wrong_kind}
use Rattle.py_model.specs.Plan.{Plan}
use Rattle.py_model.specs.Walks.{Comparison, compare_to}
use Rattle.py_value.specs.Contents.{contents}
use Rattle.op_work.specs.Work.{Comes, is_any}
use Rattle.op_work.proofs.Going.{comes_then, comes_stop, comes_as, fault_comes, passes_err}
use Rattle.op_compare.specs.Comparisons.{how, how_seen}
use Rattle.op_compare.proofs.orders.ordered.Goals as goal

pub returns-in_err-compared : goal.returns-in_err-compared
returns-in_err-compared c = passes_err (λ result. Comes is_any how_seen (λ table (go : Comparison → Plan). compare_to true 100 (contents table c.args.v) (contents table c.args.w) (unless_apart go)) c.args.work.now c.compare_to.new.work result)
    c.from_residual.result c.from_residual.ensures.1 (comes_stop (λ table x go. unless_apart go x) c.in_err-compared.ensures)

pub returns-in-Apart : goal.returns-in-Apart
returns-in-Apart c = comes_then (λ table x go. unless_apart go x) c.in_ok-compared.ensures (λ table interned extends go. ap (λ x. unless_apart go (how x)) c.in-Apart.is)
    (fault_comes (λ table go. wrong_kind) 9 _ c.fault.result c.fault.ensures (λ table interned extends go. refl))

pub returns-in-Alike : goal.returns-in-Alike
returns-in-Alike c = comes_as (λ table x go. unless_apart go x) _ c.in_ok-compared.ensures tt (λ table interned extends go. ap (λ x. unless_apart go (how x)) c.in-Alike.is)

pub returns-in-Before : goal.returns-in-Before
returns-in-Before c = comes_as (λ table x go. unless_apart go x) _ c.in_ok-compared.ensures tt (λ table interned extends go. ap (λ x. unless_apart go (how x)) c.in-Before.is)

pub returns-in-Behind : goal.returns-in-Behind
returns-in-Behind c = comes_as (λ table x go. unless_apart go x) _ c.in_ok-compared.ensures tt (λ table interned extends go. ap (λ x. unless_apart go (how x)) c.in-Behind.is)
