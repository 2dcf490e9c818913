use Rattle.slice_things.proofs.EndLaws.{FirstEnds}
use Rattle.slice_things.proofs.things.Things.list_ends.Given as goal

abbrev pub invariant-loop-o : goal.invariant-loop-o
invariant-loop-o l = FirstEnds l.self l.o l.ends.items
