use Rattle.std.proofs.Common.{map}
use Rattle.op_compare.specs.Best.{better_of, best_among}
use Rattle.op_compare.proofs.BestPlans.{left}
use Rattle.op_work.specs.Turns.{Turns}
use Rattle.py_value.specs.Contents.{contents}
use Rattle.py_value.specs.Values.{IsNamed}
use Rattle.op_compare.proofs.best.best_among.Given as goal

abbrev pub invariant-loop-i : goal.invariant-loop-i
invariant-loop-i l = Turns (λ table. best_among (better_of l.most) (map (contents table) l.items)) (left (better_of l.most) l.items l.best l.i) l.initial.work l.work
    × IsNamed l.work.values l.best
