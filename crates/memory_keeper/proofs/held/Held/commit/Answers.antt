use Rattle.std.proofs.Common.{◌≡◌, length, rules}
use Rattle.memory_keeper.specs.Held.{IsHeld, listed}
use Rattle.memory_keeper.proofs.HeldLaws.{kept_at, held_after, told_after}
use Rattle.memory_keeper.proofs.held.Held.commit.Goals as goal

pub returns-in_err-join-clause-kept : goal.returns-in_err-join-clause-kept
returns-in_err-join-clause-kept c =
    let as_before = c.in_err-join.ensures.err in
    let is : IsHeld (listed c.join.new.tables) c.join.new.batch c.self.inside.is_open = rw (as_before.0, as_before.1) c.self.invariant in
    kept_at _ _ _ is

pub invariant_of-self-2 : goal.invariant_of-self-2
invariant_of-self-2 c =
    let count : c.len.result ≡ length c.join.new.tables.heads.items = search rules in
    held_after _ _ _ _ _ c.len.result c.self.invariant c.in_ok-join.ensures.joined c.new.ensures count

pub returns-clause-committed : goal.returns-clause-committed
returns-clause-committed c =
    rw (← c.self.view_is) (told_after _ _ c.self.inside.is_open _ _ c.len.result c.self.invariant c.in_ok-join.ensures.joined c.new.ensures)

pub returns-clause-kept : goal.returns-clause-kept
returns-clause-kept c = kept_at _ _ _ (invariant_of-self-2 c)
