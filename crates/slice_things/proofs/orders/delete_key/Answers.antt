use Rattle.std.proofs.Common.{◌≡◌, ◌∙◌, ◌-◌, ap, ℕ, List, HashMap, Bool, true, false, refl, if◌then◌else◌}
use Rattle.py_value.specs.declared.value.Value.{Value}
use Rattle.py_value.specs.contracts.value.ValuePartialEq.TheImpl.{ghosts as values}
use Rattle.slice_things.specs.Counts.{often, deleted}
use Rattle.slice_things.specs.Orders.{order_in}
use Rattle.slice_things.proofs.CountLaws.{on_ok}
use Rattle.slice_things.proofs.OrderMaps.{written_there, written_nowhere}
use Rattle.slice_things.proofs.orders.delete_key.Goals as goal

pub returns-in-Some : goal.returns-in-Some
returns-in-Some c = on_ok c.delete.result c.delete.ensures (λ is.
    written_there c.args.orders.now (c.get_mut.follows.lender c.delete.new.self) c.args.o (deleted c.args.form) c.in-Some.counts.now c.delete.new.self c.in-Some.ensures.value
    (c.get_mut.follows.holds c.delete.new.self) is)

pub returns-in-None : goal.returns-in-None
returns-in-None c = λ p f. ap (λ (m : HashMap ℕ (List (Value × ℕ)) _). often f (order_in m.entries p)) c.get_mut.follows.holds-at-none
    ∙ written_nowhere c.args.orders.now c.args.orders.now c.args.o (deleted c.args.form) c.in-None.ensures.value (λ g. none (values.eq c.args.form g)) p f
  where
    none : (b : Bool) → (if b then 0 - 1 else 0) ≡ 0
    none true = refl
    none false = refl
