use Rattle.std.proofs.Common.{rules, ◌≡◌, refl, subst, ℤ, w64, to_z, of_z, Ok, Err}
use Rattle.py_value.specs.Contents.{contents}
use Rattle.py_value.specs.Values.{ValuesView, IsNamed}
use Rattle.py_model.specs.Lists.{with_place}
use Rattle.py_model.specs.Walks.{read_value}
use Rattle.op_lists.specs.Items.{item_at_index}
use Rattle.op_work.specs.Work.{Comes, is_any, as_is}
use Rattle.op_work.proofs.Going.{comes_then, comes_stop, passes_err}
use Rattle.op_lists.proofs.places.get_item.Goals as goal

pub returns-in_err-n : goal.returns-in_err-n
returns-in_err-n c = passes_err (λ result. Comes IsNamed contents (λ table. item_at_index c.args.o c.args.i) c.args.work.now c.read_len.new.self result)
    c.from_residual.result c.from_residual.ensures.1 (comes_stop (λ table n go. with_place c.args.i n (λ p. read_value c.args.o p go)) c.in_err-n.ensures)

pub returns-in_err-p : goal.returns-in_err-p
returns-in_err-p c =
    let back : to_z w64 (of_z w64 c.args.i) ≡ c.args.i = search rules in
    let placed = subst (λ (i : ℤ). Comes is_any as_is (λ (table : ValuesView). with_place i c.in_ok-n.n) c.read_len.new.self c.place.new.work (Err c.in_err-p.field-0.0)) back c.in_err-p.ensures in
    passes_err (λ result. Comes IsNamed contents (λ table. item_at_index c.args.o c.args.i) c.args.work.now c.place.new.work result)
    c.from_residual-in_err-p.result c.from_residual-in_err-p.ensures.1 (comes_then (λ table n go. with_place c.args.i n (λ p. read_value c.args.o p go)) c.in_ok-n.ensures (λ table interned extends go. refl)
    (comes_stop (λ table p go. read_value c.args.o p go) placed))

pub returns : goal.returns
returns c =
    let back : to_z w64 (of_z w64 c.args.i) ≡ c.args.i = search rules in
    let placed = subst (λ (i : ℤ). Comes is_any as_is (λ (table : ValuesView). with_place i c.in_ok-n.n) c.read_len.new.self c.place.new.work (Ok c.in_ok-p.p)) back c.in_ok-p.ensures in
    comes_then (λ table n go. with_place c.args.i n (λ p. read_value c.args.o p go)) c.in_ok-n.ensures (λ table interned extends go. refl)
    (comes_then (λ table p go. read_value c.args.o p go) placed (λ table interned extends go. refl) c.value_at.ensures)
