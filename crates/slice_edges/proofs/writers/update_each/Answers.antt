use Rattle.std.proofs.Common.{◌≡◌, ◌+◌, drop, subst}
use Rattle.slice_edges.specs.Writers.{found_at, after_change, updates_one, updates_in}
use Rattle.slice_edges.proofs.WritersLaws.{update_turn, next_is}
use Rattle.slice_edges.proofs.writers.update_each.Goals as goal

pub loop-access-preserved : goal.loop-access-preserved
loop-access-preserved c = λ l.
    let items = c.args.accesses.now in
    let i = c.loop-access.access-index in
    let is = next_is items i c.access-item.result c.loop-access-test.true c.access-item.is in
    update_turn (updates_one l c.access-item.result) (updates_in l (drop (i + 1) items)) (updates_in l items) c.args.stmt (found_at c.args.writers.now.entries l) (found_at c.loop-access.writers.entries l) (found_at c.update_access.new.writers.entries l)
    (subst (λ left. after_change (updates_in l left) c.args.stmt (found_at c.loop-access.writers.entries l) ≡ after_change (updates_in l items) c.args.stmt (found_at c.args.writers.now.entries l)) is (c.loop-access.invariant l))
    (c.in_ok-update_access.ensures l)
