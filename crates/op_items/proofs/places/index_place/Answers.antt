use Rattle.std.proofs.Common.{rules, ◌≡◌, refl, subst, ℕ, ℤ, w64, to_z, of_z}
use Rattle.py_model.specs.Lists.{with_place}
use Rattle.py_model.specs.Places.{with_index}
use Rattle.py_model.specs.Plan.{Plan}
use Rattle.py_value.specs.Contents.{contents}
use Rattle.py_value.specs.Values.{ValuesView}
use Rattle.op_work.specs.Work.{Comes, is_any, as_is}
use Rattle.op_work.proofs.Going.{comes_then, comes_stop, passes_err}
use Rattle.op_items.proofs.places.index_place.Goals as goal

abbrev at : ℕ → ValuesView → ℤ → (ℕ → Plan) → Plan
at n table i go = with_place i n go

pub returns-in_err-i : goal.returns-in_err-i
returns-in_err-i c = passes_err (λ result. Comes is_any as_is (λ table (go : ℕ → Plan). with_index (contents table c.args.w) (λ i. with_place i c.args.n go)) c.args.work.now c.index.new.work result)
    c.from_residual.result c.from_residual.ensures.1 (comes_stop (at c.args.n) c.in_err-i.ensures)

pub returns : goal.returns
returns c =
    let back : to_z w64 (of_z w64 c.in_ok-i.i) ≡ c.in_ok-i.i = search rules in
    comes_then (at c.args.n) c.in_ok-i.ensures (λ table interned extends go. refl)
    (subst (λ (i : ℤ). Comes is_any as_is (λ (table : ValuesView). with_place i c.args.n) c.index.new.work c.place.new.work c.place.result) back c.place.ensures)
