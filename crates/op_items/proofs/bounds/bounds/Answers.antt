use Rattle.std.proofs.Common.{refl, ℤ, Option}
use Rattle.op_work.specs.Work.{Comes, is_any, as_is}
use Rattle.op_work.proofs.Going.{comes_then, comes_as, comes_stop, passes_err}
use Rattle.py_model.specs.Places.{with_bound}
use Rattle.py_model.specs.Plan.{Plan}
use Rattle.py_value.specs.Contents.{contents}
use Rattle.py_value.specs.Values.{ValuesView}
use Rattle.py_value.specs.declared.value.Value.{Value}
use Rattle.op_items.specs.Bounds.{both_bounds}
use Rattle.op_items.proofs.bounds.bounds.Goals as goal

abbrev second : Value → ValuesView → Option ℤ → (Option ℤ × Option ℤ → Plan) → Plan
second high table l go = with_bound (contents table high) (λ h. go (l, h))

abbrev both : Option ℤ → ValuesView → Option ℤ → (Option ℤ × Option ℤ → Plan) → Plan
both l table h go = go (l, h)

pub returns-in_err-from : goal.returns-in_err-from
returns-in_err-from c = passes_err (λ result. Comes is_any as_is (λ table. both_bounds (contents table c.args.low) (contents table c.args.high)) c.args.work.now c.bound.new.work result)
    c.from_residual.result c.from_residual.ensures.1 (comes_stop (second c.args.high) c.in_err-from.ensures)

pub returns-in_err-to : goal.returns-in_err-to
returns-in_err-to c = passes_err (λ result. Comes is_any as_is (λ table. both_bounds (contents table c.args.low) (contents table c.args.high)) c.args.work.now c.bound-2.new.work result)
    c.from_residual-in_err-to.result c.from_residual-in_err-to.ensures.1
    (comes_then (second c.args.high) c.in_ok-from.ensures (λ table interned extends go. refl) (comes_stop (both c.in_ok-from.from) c.in_err-to.ensures))

pub returns : goal.returns
returns c = comes_then (second c.args.high) c.in_ok-from.ensures (λ table interned extends go. refl)
    (comes_as (both c.in_ok-from.from) (c.in_ok-from.from, c.in_ok-to.to) c.in_ok-to.ensures tt (λ table interned extends go. refl))
