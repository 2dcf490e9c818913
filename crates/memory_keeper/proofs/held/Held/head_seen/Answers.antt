use Rattle.std.proofs.Common.{List, refl, ap, ◌∙◌}
use Rattle.keeper.specs.declared.records.Head.{Head}
use Rattle.keeper.specs.Tables.{head_at}
use Rattle.memory_keeper.proofs.HeldLaws.{head_seen}
use Rattle.memory_keeper.proofs.held.Held.head_seen.Goals as goal

pub returns-in-Some : goal.returns-in-Some
returns-in-Some c =
    let seen = head_seen _ _ _ c.args.trial c.self.invariant in
    rw (← c.self.view_is, seen, ← c.head.ensures, c.in-Some.is) refl

pub returns-in-None : goal.returns-in-None
returns-in-None c =
    let seen = head_seen _ _ _ c.args.trial c.self.invariant in
    rw (← c.self.view_is, seen, ← c.head.ensures, c.in-None.is) (c.head_of.ensures ∙ ap (λ (hs : List Head). head_at hs c.args.trial) c.deref.ensures.value)
