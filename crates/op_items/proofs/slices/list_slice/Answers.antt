use Rattle.std.proofs.Common.{refl, sym, ap, ℕ, ℤ, Option, map, [], ◌∷◌}
use Rattle.op_work.specs.Work.{Ends}
use Rattle.op_work.proofs.Ending.{ends_then, ends_stop}
use Rattle.op_work.proofs.Going.{passes_err}
use Rattle.py_model.specs.Lists.{slice, slice_of, with_bounds}
use Rattle.py_model.specs.Making.{new_list}
use Rattle.py_model.specs.Plan.{Plan, read_len}
use Rattle.py_model.specs.Walks.{read_items}
use Rattle.py_value.specs.Contents.{contents, object}
use Rattle.py_value.specs.Values.{ValuesView}
use Rattle.py_value.specs.declared.value.Value.{Value}
use Rattle.op_items.specs.Bounds.{part_of}
use Rattle.op_items.proofs.slices.list_slice.Goals as goal

abbrev read : ℕ → ℕ × ℕ → Plan
read o part = read_items part.1 o part.0 new_list

abbrev third : ℕ → Option ℤ × Option ℤ → ValuesView → ℕ → Plan
third o found table n = read o (part_of found.0 found.1 n)

abbrev second : ℕ → ValuesView → Option ℤ × Option ℤ → Plan
second o table found = read_len o (third o found table)

abbrev first : ℕ → Value → Value → ValuesView → Unit {0} → Plan
first o low high table x = with_bounds (contents table low) (contents table high) (slice_of o)

pub returns-in_err-list : goal.returns-in_err-list
returns-in_err-list c = passes_err (λ result. Ends (λ table. slice (object c.args.o ∷ contents table c.args.low ∷ contents table c.args.high ∷ [])) c.args.work.now c.list.new.work result) c.from_residual.result c.from_residual.ensures.1
    (ends_stop (first c.args.o c.args.low c.args.high) _ c.in_err-list.ensures.comes)

pub returns-in_err-found : goal.returns-in_err-found
returns-in_err-found c = passes_err (λ result. Ends (λ table. slice (object c.args.o ∷ contents table c.args.low ∷ contents table c.args.high ∷ [])) c.args.work.now c.bounds.new.work result) c.from_residual-in_err-found.result c.from_residual-in_err-found.ensures.1
    (ends_then (first c.args.o c.args.low c.args.high) c.in_ok-list.ensures.comes (λ table interned extends. refl)
    (ends_stop (second c.args.o) _ c.in_err-found.ensures))

pub returns-in_err-n : goal.returns-in_err-n
returns-in_err-n c = passes_err (λ result. Ends (λ table. slice (object c.args.o ∷ contents table c.args.low ∷ contents table c.args.high ∷ [])) c.args.work.now c.read_len.new.self result) c.from_residual-in_err-n.result c.from_residual-in_err-n.ensures.1
    (ends_then (first c.args.o c.args.low c.args.high) c.in_ok-list.ensures.comes (λ table interned extends. refl)
    (ends_then (second c.args.o) c.in_ok-found.ensures (λ table interned extends. refl)
    (ends_stop (third c.args.o c.in_ok-found.found) _ c.in_err-n.ensures)))

pub returns-in_err-items : goal.returns-in_err-items
returns-in_err-items c = passes_err (λ result. Ends (λ table. slice (object c.args.o ∷ contents table c.args.low ∷ contents table c.args.high ∷ [])) c.args.work.now c.items_from.new.work result) c.from_residual-in_err-items.result c.from_residual-in_err-items.ensures.1
    (ends_then (first c.args.o c.args.low c.args.high) c.in_ok-list.ensures.comes (λ table interned extends. refl)
    (ends_then (second c.args.o) c.in_ok-found.ensures (λ table interned extends. refl)
    (ends_then (third c.args.o c.in_ok-found.found) c.in_ok-n.ensures (λ table interned extends. ap (read c.args.o) (sym c.part-first.ensures.part))
    (ends_stop (λ table items. new_list items) _ c.in_err-items.ensures))))

pub returns : goal.returns
returns c =
    ends_then (first c.args.o c.args.low c.args.high) c.in_ok-list.ensures.comes (λ table interned extends. refl)
    (ends_then (second c.args.o) c.in_ok-found.ensures (λ table interned extends. refl)
    (ends_then (third c.args.o c.in_ok-found.found) c.in_ok-n.ensures (λ table interned extends. ap (read c.args.o) (sym c.part-first.ensures.part))
    (ends_then (λ table items. new_list items) c.in_ok-items.ensures (λ table interned extends. ap (λ vs. new_list (map (contents table) vs)) (sym c.as_slice.ensures.value)) c.new_list.ensures)))
