use Rattle.std.proofs.Common.{◌≡◌, ◌++◌, drop}
use Rattle.value_links.specs.DoneMap.{time_in}
use Rattle.value_links.specs.Takings.{along_all}
use Rattle.value_links.proofs.taking.taken_along_all.Given as goal

abbrev pub invariant-loop-link : goal.invariant-loop-link
invariant-loop-link l = l.times.items ++ along_all l.count (time_in l.done.entries) (drop l.link-index l.links) ≡ along_all l.count (time_in l.done.entries) l.links
