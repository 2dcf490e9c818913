use Rattle.std.proofs.Common.{◌++◌, sym, ap, ◌∙◌, Option, List, ℕ}
use Rattle.prov_base.specs.declared.place.Pos.{Pos}
use Rattle.value_links.specs.Links.{links}
use Rattle.feedings.specs.Noted.{dones_of, first_done, place_by, returned_in, taken_by_return}
use Rattle.feedings.proofs.NotedLaws.{ended, on_ok, place_is}
use Rattle.feedings.proofs.stack.Stack.end_by_return.Goals as goal

pub returns : goal.returns
returns c = λ script notes taking places stack.
    let old = c.args.self.now in
    let frame = c.in-Some.frame in
    let place = c.place_at.ensures ∙ ap (λ (known : List Pos). place_by known frame.stmt) places ∙ place_is script frame.stmt in
    let done = first_done (dones_of notes) in
    let times = c.in_ok-extend_from_slice.ensures.items
    ∙ ap (λ (given : List ℕ). c.in_ok-times.times.items ++ given) c.as_slice.ensures
    ∙ ap (λ (taken : List ℕ). taken ++ frame.returned) (c.in_ok-times.ensures (links script) (dones_of notes) taking stack.dones
    ∙ ap (λ (at : Option Pos). taken_by_return at done (links script)) place) in
    on_ok c.put_returned.result c.put_returned.ensures (λ put.
    ended script notes old (record { frames = c.put_returned.new.self; dones = c.close-2.new.self }) frame c.extend_from_slice.new.self.items stack
    (sym c.close.ensures.taken ∙ c.in-Some.is) times
    (put ∙ ap (λ (all : List ℕ). returned_in all c.close.new.self) c.of.ensures ∙ ap (returned_in c.extend_from_slice.new.self.items) c.close.ensures.left)
    c.close-2.ensures)
