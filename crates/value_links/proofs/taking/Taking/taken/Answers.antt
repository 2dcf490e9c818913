use Rattle.std.proofs.Common.{ap, ◌∙◌}
use Rattle.value_links.specs.DoneMap.{time_in}
use Rattle.value_links.specs.Takings.{along_all}
use Rattle.value_links.proofs.TakingLaws.{if_ok, taken_is}
use Rattle.value_links.proofs.taking.Taking.taken.Goals as goal

pub returns : goal.returns
returns c = λ links list taking is. if_ok c.taken_along_all.result c.taken_along_all.ensures (λ times taken.
    taken_is c.args.done.now.entries list c.args.self.now links c.args.to c.args.count times.items taking is (taken ∙ ap (along_all c.args.count (time_in c.args.done.now.entries)) c.links_to.ensures))
