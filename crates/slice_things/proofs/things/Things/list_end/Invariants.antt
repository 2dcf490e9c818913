use Rattle.std.proofs.Common.{◌≡◌, true}
use Rattle.slice_things.specs.Children.{all_before}
use Rattle.slice_things.proofs.things.Things.list_end.Given as goal

abbrev pub invariant-loop-i : goal.invariant-loop-i
invariant-loop-i l = all_before l.self l.o l.i ≡ true
