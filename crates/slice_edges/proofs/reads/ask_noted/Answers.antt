use Rattle.slice_edges.proofs.CountLaws.{asked_here, counted_all}
use Rattle.slice_edges.proofs.WritersLaws.{on_ok}
use Rattle.slice_edges.proofs.reads.ask_noted.Goals as goal

pub returns-clause-asked : goal.returns-clause-asked
returns-clause-asked c = on_ok c.note_count.result c.note_count.ensures (λ noted. λ entries right here.
    asked_here c.args.asks.now.keys c.ask_each-2.new.asks.keys entries c.args.counts.now.entries c.args.at c.args.asker c.count_of.result c.args.stmts.now c.behind.result.now
    c.count_of.ensures c.behind.ensures c.in_ok-ask_each.ensures right here)

pub returns-clause-kept : goal.returns-clause-kept
returns-clause-kept c = on_ok c.note_count.result c.note_count.ensures (λ noted. λ entries right here.
    counted_all c.args.asks.now.keys c.ask_each-2.new.asks.keys entries c.args.counts.now.entries c.note_count.new.counts.entries c.args.at c.args.asker c.args.stmts.now here
    (asked_here c.args.asks.now.keys c.ask_each-2.new.asks.keys entries c.args.counts.now.entries c.args.at c.args.asker c.count_of.result c.args.stmts.now c.behind.result.now
    c.count_of.ensures c.behind.ensures c.in_ok-ask_each.ensures right here)
    noted right)
