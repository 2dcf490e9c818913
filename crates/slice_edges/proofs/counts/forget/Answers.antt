use Rattle.std.proofs.Common.{◌≡◌, ◌+◌, drop, if◌then◌else◌, subst}
use Rattle.slice_edges.specs.Counts.{count_at}
use Rattle.slice_edges.specs.Writers.{sets_one, sets_in}
use Rattle.slice_edges.proofs.CountLaws.{forget_turn}
use Rattle.slice_edges.proofs.WritersLaws.{next_is}
use Rattle.slice_edges.proofs.counts.forget.Goals as goal

pub loop-access-preserved : goal.loop-access-preserved
loop-access-preserved c = λ at a.
    let items = c.args.accesses.now in
    let i = c.loop-access.access-index in
    let item = c.access-item.result in
    forget_turn (sets_one at item) (sets_in at (drop (i + 1) items)) (sets_in at items) (count_at c.args.counts.now.entries at a) (count_at c.loop-access.counts.entries at a) (count_at c.forget_set.new.counts.entries at a)
    (subst (λ left. (if sets_in at left then 0 else count_at c.loop-access.counts.entries at a) ≡ (if sets_in at items then 0 else count_at c.args.counts.now.entries at a))
    (next_is items i item c.loop-access-test.true c.access-item.is) (c.loop-access.invariant at a))
    (c.forget_set.ensures at a)
