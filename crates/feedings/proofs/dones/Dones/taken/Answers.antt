use Rattle.std.proofs.Common.{List, sym, ap, ◌∙◌}
use Rattle.value_links.specs.Taken.{Done, taken_by_links}
use Rattle.feedings.specs.Noted.{first_done}
use Rattle.feedings.proofs.NotedLaws.{first_are, none_done, nothing_taken}
use Rattle.feedings.proofs.dones.Dones.taken.Goals as goal

pub returns-in-Some : goal.returns-in-Some
returns-in-Some c = λ links dones taking are. c.taken.ensures links (first_done dones) taking (first_are c.args.self.now dones c.in-Some.done.now c.in-Some.ensures are)

pub returns-in-None : goal.returns-in-None
returns-in-None c = λ links dones taking are.
    c.new.ensures.items ∙ sym (nothing_taken c.args.to c.args.count links)
    ∙ ap (λ (done : List Done). taken_by_links c.args.to c.args.count done links) (sym (none_done c.args.self.now dones c.in-None.ensures are))
