use Rattle.std.proofs.Common.{refl, sym, ap, is_some, Bool}
use Rattle.py_model.specs.Arithmetic.{among_items}
use Rattle.py_model.specs.Plan.{Plan, read_len}
use Rattle.py_value.specs.Contents.{contents}
use Rattle.op_work.specs.Work.{Comes, is_any, as_is}
use Rattle.op_work.proofs.EntryReads.{named_on}
use Rattle.op_work.proofs.Going.{comes_same, comes_then, comes_stop, comes_as, passes_err}
use Rattle.op_compare.proofs.SoughtIn.{among_seek}
use Rattle.op_compare.proofs.objects.in_list.Goals as goal

pub returns-in_err-n : goal.returns-in_err-n
returns-in_err-n c = passes_err (λ result. Comes is_any as_is (λ table (go : Bool → Plan). read_len c.args.o (λ n. among_items n c.args.o 0 (contents table c.args.v) go)) c.args.work.now c.read_len.new.self result)
    c.from_residual.result c.from_residual.ensures.1 (comes_stop (λ table n go. among_items n c.args.o 0 (contents table c.args.v) go) c.in_err-n.ensures)

pub seek-requires : goal.seek-requires
seek-requires c = named_on c.read_len.ensures.kept.extends c.args.v c.requires

pub returns-in_err-place : goal.returns-in_err-place
returns-in_err-place c =
    let o = c.args.o in let v = c.args.v in let n = c.in_ok-n.n in
    passes_err (λ result. Comes is_any as_is (λ table (go : Bool → Plan). read_len o (λ n. among_items n o 0 (contents table v) go)) c.args.work.now c.seek.new.work result)
    c.from_residual-in_err-place.result c.from_residual-in_err-place.ensures.1
    (comes_then (λ table n go. among_items n o 0 (contents table v) go) c.in_ok-n.ensures (λ table interned extends go. refl)
    (comes_same (λ table. among_items n o 0 (contents table v)) (λ table interned extends go. among_seek n o 0 (contents table v) go)
    (comes_stop (λ table place go. go (is_some place)) c.in_err-place.ensures)))

pub returns : goal.returns
returns c =
    let o = c.args.o in let v = c.args.v in let n = c.in_ok-n.n in
    comes_then (λ table n go. among_items n o 0 (contents table v) go) c.in_ok-n.ensures (λ table interned extends go. refl)
    (comes_same (λ table. among_items n o 0 (contents table v)) (λ table interned extends go. among_seek n o 0 (contents table v) go)
    (comes_as (λ table place go. go (is_some place)) _ c.in_ok-place.ensures tt (λ table interned extends go. ap go (sym c.is_some.ensures))))
