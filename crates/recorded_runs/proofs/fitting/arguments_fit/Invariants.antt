use Rattle.recorded_runs.proofs.Each.{Below}
use Rattle.recorded_runs.specs.Typed.{IsText}
use Rattle.recorded_runs.proofs.fitting.arguments_fit.Given as goal

abbrev pub invariant-loop-argument : goal.invariant-loop-argument
invariant-loop-argument l = Below IsText l.arguments l.argument-index
