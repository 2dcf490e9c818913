use Rattle.std.proofs.Common.{◌≡◌, ◌++◌, drop}
use Rattle.slice_things.specs.Children.{children_at, children_of}
use Rattle.slice_things.proofs.things.Things.children.Given as goal

abbrev pub invariant-loop-at : goal.invariant-loop-at
invariant-loop-at l = l.children.items ++ children_at l.self (drop l.at-index l.at-items) ≡ children_of l.self
