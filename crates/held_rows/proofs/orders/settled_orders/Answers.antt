use Rattle.std.proofs.Common.{◌⊎◌, ⊎_elim, sym, subst, ◌∙◌, ◌+◌, [], drop, arith}
use Rattle.slice_law.specs.Closed.{IsIn}
use Rattle.held_rows.specs.HeldStore.{keys_in}
use Rattle.held_rows.specs.Settled.{AreKeys}
use Rattle.held_rows.specs.Steps.{steps_in, keys_after, IsNamedStep}
use Rattle.row_words.specs.Fits.{Each}
use Rattle.held_rows.proofs.OrderLaws.{no_order_yet, order_more}
use Rattle.held_rows.proofs.StepLaws.{drop_next, drop_end}
use Rattle.held_rows.proofs.orders.settled_orders.Goals as goal

pub loop-o-init : goal.loop-o-init
loop-o-init c = λ view are named p. no_order_yet view c.args.orders.now.entries c.new-all.result.entries c.as_slice-o-items.result.now c.new-all.ensures.empty (c.as_slice-o-items.ensures ∙ c.keys.ensures.rest) p

pub loop-o-preserved : goal.loop-o-preserved
loop-o-preserved c = λ view are named p.
    let entries = c.args.orders.now.entries in
    let items = c.as_slice-o-items.result.now in
    let i = c.loop-o.o-index in
    order_more view (λ q. keys_after view (steps_in entries q) []) c.loop-o.all.entries c.put_keys.new.orders.entries _ c.in_ok-keys.keys.items (drop (i + 1) items)
    (subst (λ steps. AreKeys view c.in_ok-keys.keys.items (keys_after view steps [])) c.steps_of.ensures
    (c.in_ok-keys.ensures view are (subst (Each (IsNamedStep view)) (sym c.steps_of.ensures) (named _))))
    c.in_ok-put_keys.ensures p
    (subst (λ these. AreKeys view (keys_in c.loop-o.all.entries p) (keys_after view (steps_in entries p) []) ⊎ IsIn these p) (drop_next items i _ c.loop-o-test.true) (c.loop-o.invariant view are named p))

pub returns : goal.returns
returns c = λ view are named p.
    ⊎_elim (λ keys. keys) (λ there. absurd (subst (λ these. IsIn these p) (drop_end c.as_slice-o-items.result.now c.loop-o.o-index (omega (arith, c.loop-o-test.false))) there)) (c.loop-o.invariant view are named p)
