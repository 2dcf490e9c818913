use Rattle.std.proofs.Common.{◌≡◌, ◌&&◌, ◌||◌, ℕ, drop}
use Rattle.slice_law.specs.Closed.{has}
use Rattle.slice_law.specs.Edges.{Reason}
use Rattle.slice_edges.specs.Asks.{among_by, is_by, reason_of}
use Rattle.slice_edges.proofs.ask.ask_each.Given as goal

abbrev pub invariant-loop-stmt : goal.invariant-loop-stmt
invariant-loop-stmt l = (reason : Reason) (s r : ℕ)
    → ((is_by (reason_of l.why) l.asker reason s && has r (drop l.stmt-index l.stmts)) || among_by l.asks.keys reason s r)
    ≡ ((is_by (reason_of l.why) l.asker reason s && has r l.stmts) || among_by l.fn.asks.keys reason s r)
