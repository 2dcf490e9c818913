use Rattle.recorded_runs.proofs.Each.{Below}
use Rattle.recorded_runs.specs.Typed.{IsSized}
use Rattle.recorded_runs.proofs.fitting.answers_fit.Given as goal

abbrev pub invariant-loop-asked : goal.invariant-loop-asked
invariant-loop-asked l = Below IsSized l.answers l.asked-index
