use Rattle.std.proofs.Common.{refl, sym, ap, map}
use Rattle.py_model.specs.Arithmetic.{repeated, repeats}
use Rattle.py_model.specs.Making.{new_list}
use Rattle.py_model.specs.Walks.{walk}
use Rattle.py_value.specs.Contents.{contents, object}
use Rattle.op_work.specs.Work.{Ends}
use Rattle.op_work.proofs.Ending.{ends_then, ends_stop}
use Rattle.op_work.proofs.Going.{passes_err}
use Rattle.op_joins.proofs.lists.repeat_list.Goals as goal

pub returns-in_err-list : goal.returns-in_err-list
returns-in_err-list c = passes_err (λ result. Ends (λ table. repeats (object c.args.o) c.args.n) c.args.work.now c.list.new.work result) c.from_residual.result c.from_residual.ensures.1
    (ends_stop (λ table done. walk (object c.args.o) (λ items. new_list (repeated c.args.n items))) _ c.in_err-list.ensures.comes)

pub returns-in_err-items : goal.returns-in_err-items
returns-in_err-items c = passes_err (λ result. Ends (λ table. repeats (object c.args.o) c.args.n) c.args.work.now c.walk_value.new.work result) c.from_residual-in_err-items.result c.from_residual-in_err-items.ensures.1
    (ends_then (λ table done. walk (object c.args.o) (λ items. new_list (repeated c.args.n items))) c.in_ok-list.ensures.comes (λ table interned extends. refl)
    (ends_stop (λ table items. new_list (repeated c.args.n items)) _ c.in_err-items.ensures))

pub returns : goal.returns
returns c = ends_then (λ table done. walk (object c.args.o) (λ items. new_list (repeated c.args.n items))) c.in_ok-list.ensures.comes (λ table interned extends. refl)
    (ends_then (λ table items. new_list (repeated c.args.n items)) c.in_ok-items.ensures (λ table interned extends. ap (λ vs. new_list (repeated c.args.n (map (contents table) vs))) (sym c.as_slice.ensures.value)) c.make_times.ensures)
