use Rattle.std.proofs.Common.{◌≡◌, ◌==◌, ◌&&◌, ◌||◌, ◌+◌, drop, map, subst}
use Rattle.py_tree.specs.Erasure.{script_of}
use Rattle.slice_law.specs.Closed.{has}
use Rattle.slice_edges.specs.Asks.{among_by}
use Rattle.slice_edges.specs.Reading.{read_stmts, is_read}
use Rattle.slice_edges.proofs.AskLaws.{read_turn}
use Rattle.slice_edges.proofs.WritersLaws.{next_is}
use Rattle.slice_edges.proofs.reads.ask_reads.Goals as goal

pub loop-access-preserved : goal.loop-access-preserved
loop-access-preserved c =
    let script = script_of c.args.script.now in
    let texts = map (λ k. k.now) c.args.names.now in
    let entries = c.args.writers.now.entries in
    let asker = c.args.asker in
    let items = c.args.accesses.now in
    let i = c.loop-access.access-index in
    let item = c.access-item.result in
    let inv = c.loop-access.invariant in
    let done = c.in_ok-ask_access.ensures in (
      λ known. done.kept (inv.0 known),
      λ known reason s r.
          read_turn (asker == s) (has r (read_stmts script texts asker entries reason item)) (is_read script texts asker entries reason r (drop (i + 1) items)) (is_read script texts asker entries reason r items)
          (among_by c.args.asks.now.keys reason s r) (among_by c.loop-access.asks.keys reason s r) (among_by c.ask_access.new.asks.keys reason s r)
          (subst (λ left. (((asker == s) && is_read script texts asker entries reason r left) || among_by c.loop-access.asks.keys reason s r) ≡ (((asker == s) && is_read script texts asker entries reason r items) || among_by c.args.asks.now.keys reason s r))
          (next_is items i item c.loop-access-test.true c.access-item.is) (inv.1 known reason s r))
          (done.asked (inv.0 known) reason s r),
    )
