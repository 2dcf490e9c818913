use Rattle.slicer.proofs.ReachedLaws.{there, back}
use Rattle.slicer.proofs.laws.known_values_reach_the_same.Goals as goal

pub returns : goal.returns
returns c = λ view forms things store v p are known. (there view forms things store v are known p, back view forms things store v are known p)
