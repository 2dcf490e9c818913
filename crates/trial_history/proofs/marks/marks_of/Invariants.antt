use Rattle.trial_history.proofs.Marked.{Reads}
use Rattle.trial_history.proofs.marks.marks_of.Given as goal

abbrev pub invariant-loop-earlier : goal.invariant-loop-earlier
invariant-loop-earlier g l =
    Reads l.heads l.marks.items l.earlier (g.K.Keeper.told l.fn.keeper) (g.K.Keeper.told l.keeper) (g.K.Keeper.may_leave l.fn.keeper) (g.K.Keeper.may_leave l.keeper)
    (g.K.Keeper.is_open l.fn.keeper) (g.K.Keeper.is_open l.keeper) (g.K.Keeper.faults l.fn.keeper) (g.K.Keeper.faults l.keeper)
