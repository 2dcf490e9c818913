use Rattle.std.proofs.Common.{◌≤◌}
use Rattle.py_tree.specs.Erasure.{script_of}
use Rattle.run_engine.proofs.Running.{IsSoFar}
use Rattle.run_engine.proofs.engine.run.Given as goal

abbrev pub invariant-loop : goal.invariant-loop
invariant-loop g l = (l.left ≤ l.steps) × IsSoFar (script_of l.script) l.frames l.steps l.left (g.D.Doer.fits l.fn.doer) (g.D.Doer.fits l.doer) (g.D.Doer.stands l.fn.doer) (g.D.Doer.stands l.doer)
    (g.W.Watch.history l.fn.watch) (g.W.Watch.history l.watch)
