use Rattle.recorded_runs.proofs.Each.{Below}
use Rattle.recorded_runs.specs.Typed.{IsFetched}
use Rattle.recorded_runs.proofs.fitting.files_fit.Given as goal

abbrev pub invariant-loop-file : goal.invariant-loop-file
invariant-loop-file l = Below IsFetched l.files l.file-index
