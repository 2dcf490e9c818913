use Rattle.std.proofs.Common.{refl}
use Rattle.py_model.specs.Walks.{read_value}
use Rattle.py_value.specs.Contents.{contents}
use Rattle.op_numbers.specs.Numbers.{IsNamedPair, seen_pair}
use Rattle.op_lists.proofs.NamedValues.{named_stays}
use Rattle.op_work.specs.Work.{Comes}
use Rattle.op_work.proofs.Going.{comes_then, comes_stop, comes_as, passes_err}
use Rattle.op_compare.specs.Pairs.{read_both}
use Rattle.op_compare.proofs.pairs.item_pair.Goals as goal

pub returns-in_err-v : goal.returns-in_err-v
returns-in_err-v c = passes_err
    (λ result. Comes IsNamedPair seen_pair (λ table. read_both c.args.o c.args.p c.args.i) c.args.work.now c.value_at.new.work result)
    c.from_residual.result c.from_residual.ensures.1
    (comes_stop (λ table v go. read_value c.args.p c.args.i (λ w. go (v, w))) c.in_err-v.ensures)

pub returns-in_err-w : goal.returns-in_err-w
returns-in_err-w c = passes_err
    (λ result. Comes IsNamedPair seen_pair (λ table. read_both c.args.o c.args.p c.args.i) c.args.work.now c.value_at-2.new.work result)
    c.from_residual-in_err-w.result c.from_residual-in_err-w.ensures.1
    (comes_then (λ table v go. read_value c.args.p c.args.i (λ w. go (v, w))) c.in_ok-v.ensures (λ table interned extends go. refl)
    (comes_stop (λ table w go. go (contents table c.in_ok-v.v, w)) c.in_err-w.ensures))

pub returns : goal.returns
returns c = comes_then (λ table v go. read_value c.args.p c.args.i (λ w. go (v, w))) c.in_ok-v.ensures (λ table interned extends go. refl)
    (comes_as (λ table w go. go (contents table c.in_ok-v.v, w)) _ c.in_ok-w.ensures
    (named_stays _ _ c.value_at-2.ensures.kept.extends.few c.in_ok-v.v c.in_ok-v.ensures.is_named, c.in_ok-w.ensures.is_named) (λ table interned extends go. refl))
