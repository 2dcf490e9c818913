use Rattle.std.proofs.Common.{◌≡◌, ◌++◌, drop, map}
use Rattle.held_rows.specs.declared.steps.Step.TheVariants.{Put}
use Rattle.held_rows.proofs.steps.Steps.puts.Given as goal

abbrev pub invariant-loop-key : goal.invariant-loop-key
invariant-loop-key l = l.steps.items ++ map Put (drop l.key-index l.keys) ≡ map Put l.keys
