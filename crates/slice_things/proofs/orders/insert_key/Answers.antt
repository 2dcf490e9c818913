use Rattle.std.proofs.Common.{◌∙◌, ◌==◌, ap, ℕ, List, HashMap, if◌then◌else◌}
use Rattle.py_value.specs.declared.value.Value.{Value}
use Rattle.slice_things.specs.Counts.{often, inserted}
use Rattle.slice_things.specs.Orders.{order_in}
use Rattle.slice_things.proofs.CountLaws.{on_ok}
use Rattle.slice_things.proofs.OrderMaps.{written_there, written_alone}
use Rattle.slice_things.proofs.orders.insert_key.Goals as goal

pub returns-in-Some : goal.returns-in-Some
returns-in-Some c = on_ok c.insert.result c.insert.ensures (λ is.
    written_there c.args.orders.now (c.get_mut.follows.lender c.insert.new.self) c.args.o (inserted c.args.form) c.in-Some.counts.now c.insert.new.self c.in-Some.ensures.value
    (c.get_mut.follows.holds c.insert.new.self) is)

pub returns-in-None : goal.returns-in-None
returns-in-None c = on_ok c.one_key.result c.one_key.ensures (λ is.
    written_alone c.args.orders.now c.one_key.new.orders c.args.o (inserted c.args.form) c.in-None.ensures.value
    (λ p f. is p f ∙ ap (λ (m : HashMap ℕ (List (Value × ℕ)) _). if c.args.o == p then inserted c.args.form f 0 else often f (order_in m.entries p)) c.get_mut.follows.holds-at-none))
