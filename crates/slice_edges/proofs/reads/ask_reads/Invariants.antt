use Rattle.std.proofs.Common.{◌≡◌, ◌==◌, ◌&&◌, ◌||◌, ℕ, drop, map}
use Rattle.py_tree.specs.Erasure.{script_of}
use Rattle.slice_law.specs.Edges.{Reason}
use Rattle.slice_edges.specs.Asks.{among_by}
use Rattle.slice_edges.specs.Counts.{IsRight}
use Rattle.slice_edges.specs.Reading.{is_read}
use Rattle.slice_edges.proofs.reads.ask_reads.Given as goal

abbrev pub invariant-loop-access : goal.invariant-loop-access
invariant-loop-access l =
    (IsRight (script_of l.script) (map (λ k. k.now) l.names) l.fn.asks.keys l.writers.entries l.fn.memo → IsRight (script_of l.script) (map (λ k. k.now) l.names) l.asks.keys l.writers.entries l.memo)
    × (IsRight (script_of l.script) (map (λ k. k.now) l.names) l.fn.asks.keys l.writers.entries l.fn.memo → (reason : Reason) (s r : ℕ)
    → (((l.asker == s) && is_read (script_of l.script) (map (λ k. k.now) l.names) l.asker l.writers.entries reason r (drop l.access-index l.accesses)) || among_by l.asks.keys reason s r)
    ≡ (((l.asker == s) && is_read (script_of l.script) (map (λ k. k.now) l.names) l.asker l.writers.entries reason r l.accesses) || among_by l.fn.asks.keys reason s r))
