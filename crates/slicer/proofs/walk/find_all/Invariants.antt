use Rattle.std.proofs.Common.{take}
use Rattle.slicer.specs.Walk.{Grows}
use Rattle.slicer.proofs.walk.find_all.Given as goal

abbrev pub invariant-loop-v : goal.invariant-loop-v
invariant-loop-v l = Grows l.fn.found.keys (take l.v-index l.values) l.found.keys
