use Rattle.std.proofs.Common.{◌≡◌, subst}
use Rattle.std.specs.Prelude.{IfOk}
use Rattle.value_links.specs.Taken.{taken_by_links}
use Rattle.feedings.specs.Noted.{dones_of}
use Rattle.feedings.proofs.NotedLaws.{first_is}
use Rattle.feedings.proofs.stack.Stack.taken.Goals as goal

pub returns : goal.returns
returns c = λ links notes taking stack.
    subst (λ done. IfOk c.taken.result (λ times. times.items ≡ taken_by_links c.args.to c.args.count done links)) (first_is notes) (c.taken.ensures links (dones_of notes) taking stack.dones)
