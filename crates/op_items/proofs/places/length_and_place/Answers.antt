use Rattle.std.proofs.Common.{rules, ◌≡◌, refl, subst, ℤ, w64, to_z, of_z, Ok, Err}
use Rattle.op_items.specs.Places.{at_index}
use Rattle.py_model.specs.Lists.{with_place}
use Rattle.py_value.specs.Values.{ValuesView}
use Rattle.op_work.specs.Work.{Comes, is_any, as_is}
use Rattle.op_work.proofs.Going.{comes_then, comes_stop, comes_as, passes_err}
use Rattle.op_items.proofs.places.length_and_place.Goals as goal

pub returns-in_err-n : goal.returns-in_err-n
returns-in_err-n c = passes_err (λ result. Comes is_any as_is (λ table. at_index c.args.o c.args.i) c.args.work.now c.read_len.new.self result)
    c.from_residual.result c.from_residual.ensures.1 (comes_stop (λ table n go. with_place c.args.i n (λ p. go (n, p))) c.in_err-n.ensures)

pub returns-in_err-p : goal.returns-in_err-p
returns-in_err-p c =
    let back : to_z w64 (of_z w64 c.args.i) ≡ c.args.i = search rules in
    let stopped = subst (λ (i : ℤ). Comes is_any as_is (λ (table : ValuesView). with_place i c.in_ok-n.n) c.read_len.new.self c.place.new.work (Err c.in_err-p.field-0.0)) back c.in_err-p.ensures in
    passes_err (λ result. Comes is_any as_is (λ table. at_index c.args.o c.args.i) c.args.work.now c.place.new.work result)
    c.from_residual-in_err-p.result c.from_residual-in_err-p.ensures.1 (comes_then (λ table n go. with_place c.args.i n (λ p. go (n, p))) c.in_ok-n.ensures (λ table interned extends go. refl)
    (comes_stop (λ table p go. go (c.in_ok-n.n, p)) stopped))

pub returns : goal.returns
returns c =
    let back : to_z w64 (of_z w64 c.args.i) ≡ c.args.i = search rules in
    let placed = subst (λ (i : ℤ). Comes is_any as_is (λ (table : ValuesView). with_place i c.in_ok-n.n) c.read_len.new.self c.place.new.work (Ok c.in_ok-p.p)) back c.in_ok-p.ensures in
    comes_then (λ table n go. with_place c.args.i n (λ p. go (n, p))) c.in_ok-n.ensures (λ table interned extends go. refl)
    (comes_as (λ table p go. go (c.in_ok-n.n, p)) (c.in_ok-n.n, c.in_ok-p.p) placed tt (λ table interned extends go. refl))
