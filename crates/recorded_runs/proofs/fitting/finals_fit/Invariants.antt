use Rattle.recorded_runs.proofs.Each.{Below}
use Rattle.recorded_runs.specs.Typed.{IsLeft}
use Rattle.recorded_runs.proofs.fitting.finals_fit.Given as goal

abbrev pub invariant-loop-file : goal.invariant-loop-file
invariant-loop-file l = Below IsLeft l.files l.file-index
